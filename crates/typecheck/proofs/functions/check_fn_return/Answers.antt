-- `typecheck::functions::check_fn_return` meets its contract: there is no return, or the fault of its row decides. Assumes nothing.
use Rattle.std.proofs.Common.{rules}
use Rattle.rules.specs.Base.{if'◌then◌else◌}
use Rattle.errors.specs.Sink.{silent}
use Rattle.typecheck.specs.Tests.{by_fault, function_return}
use Rattle.typecheck.proofs.Returns.{no-return, some-return}
use Rattle.typecheck.proofs.functions.check_fn_return.Goals as goal

pub returns-in_default : goal.returns-in_default
unfolding function_return if'◌then◌else◌
returns-in_default c = rw (no-return _ _ c.return_row.ensures c.in_default.is) (silent _)

pub returns-in-Some-Pointer : goal.returns-in-Some-Pointer
unfolding by_fault function_return if'◌then◌else◌
returns-in-Some-Pointer c = let is = some-return _ _ c.return_row.ensures c.in-Some.is in rw (is.0, is.1) (search rules)

pub returns-in-Some-Unsized : goal.returns-in-Some-Unsized
unfolding by_fault function_return if'◌then◌else◌
returns-in-Some-Unsized c = let is = some-return _ _ c.return_row.ensures c.in-Some.is in rw (is.0, is.1) (search rules)

pub returns-in-None : goal.returns-in-None
unfolding by_fault function_return if'◌then◌else◌
returns-in-None c =
    let is = some-return _ _ c.return_row.ensures c.in-Some.is in
    let none = silent c.args.cx.now in
    rw (is.0, is.1) (search rules)
