-- `typecheck::functions::check_fn_arg` meets its contract: each test that the code makes is that of the definition. Assumes nothing.
use Rattle.std.proofs.Common.{rules}
use Rattle.rules.specs.Base.{if'◌then◌else◌}
use Rattle.errors.specs.Sink.{silent}
use Rattle.typecheck.specs.Tests.{by_fault, function_arg}
use Rattle.typecheck.proofs.functions.check_fn_arg.Goals as goal

pub returns-in-Some-Pointer : goal.returns-in-Some-Pointer
unfolding by_fault function_arg if'◌then◌else◌
returns-in-Some-Pointer c = search rules

pub returns-then-is : goal.returns-then-is
unfolding by_fault function_arg if'◌then◌else◌
returns-then-is c = search rules

pub returns-in-Some-Unsized : goal.returns-in-Some-Unsized
unfolding by_fault function_arg if'◌then◌else◌
returns-in-Some-Unsized c = search rules

pub returns-else-is-2 : goal.returns-else-is-2
unfolding by_fault function_arg if'◌then◌else◌
returns-else-is-2 c = let none = silent c.args.cx.now in search rules
