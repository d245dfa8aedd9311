-- `typecheck_rows::rows::check_fn_args` meets its contract: a turn adds the message of its argument. Assumes nothing.
use mathlib.Core.Path.{◌≡◌}
use mathlib.Core.Bool.{not, ◌&&◌}
use Rattle.std.proofs.Common.{rules}
use Rattle.rules.specs.Numbers.{Ptr}
use Rattle.rules.specs.View.{flag1, is, row_flags, fn_arg}
use Rattle.errors.specs.Sink.{meant-if, start, turn}
use Rattle.typecheck_rows.proofs.rows.check_fn_args.Goals as goal

pub loop-j-init : goal.loop-j-init
loop-j-init c = start _ _

pub loop-j-preserved : goal.loop-j-preserved
unfolding fn_arg
loop-j-preserved c =
    let s = c.args.s.now in
    let r = c.args.r in
    let test : c.if-pointer.error_if ≡ (is s Ptr (fn_arg s r c.loop-j.j) && not (flag1 (row_flags s r))) = search rules in
    turn _ _ c.loop-j.invariant (meant-if _ c.error_if.ensures test)
