-- `typecheck::functions::check_fn_args` meets its contract: a turn adds the messages of its argument, and at the end the index is the count. Assumes nothing.
use mathlib.Core.Path.{◌≡◌, ◌∙◌}
use native.Mathlib.Omega.{arith}
use Rattle.rules.specs.View.{arg_count, arg}
use Rattle.errors.specs.Sink.{start, turn, whole}
use Rattle.typecheck.specs.Tests.{function_args}
use Rattle.typecheck.proofs.functions.check_fn_args.Goals as goal

pub loop-j-init : goal.loop-j-init
loop-j-init c = start _ _

pub loop-j-preserved : goal.loop-j-preserved
unfolding arg
loop-j-preserved c =
    let row = rw c.args_place-at.ensures at c.entry.ensures in
    turn _ _ c.loop-j.invariant (rw (row, c.item_is.ensures, c.function_unsafe.ensures) at c.check_fn_arg.ensures)

pub returns : goal.returns
unfolding function_args arg_count
returns c =
    let e : c.loop-j.j ≡ c.pair_at-j-end.result = omega arith in
    whole _ c.loop-j.invariant (e ∙ rw c.args_place-at.ensures at c.pair_at-j-end.ensures)
