-- `typecheck::functions::check_fn_mut_return` meets its contract: each test that the code makes is that of the definition. Assumes nothing.
use mathlib.Core.Path.{◌≡◌, refl}
use mathlib.Core.Bool.{true, false, not, ◌&&◌}
use Rattle.std.proofs.Common.{rules}
use Rattle.rules.specs.Numbers.{CxxFunction}
use Rattle.rules.specs.View.{item_is, function_unwind}
use Rattle.errors.specs.Sink.{silent, taken, left}
use Rattle.typecheck.proofs.functions.check_fn_mut_return.Goals as goal

pub returns-then-not-function_unwind : goal.returns-then-not-function_unwind
returns-then-not-function_unwind c =
    let test : true ≡ (item_is c.args.known.now.s.now CxxFunction c.args.i && not (function_unwind c.args.known.now.s.now c.args.i)) = search rules in
    taken _ _ refl c.check_mut_return_restriction.ensures test

pub returns : goal.returns
returns c =
    let test : false ≡ (item_is c.args.known.now.s.now CxxFunction c.args.i && not (function_unwind c.args.known.now.s.now c.args.i)) = search rules in
    left _ _ refl (silent _) test
