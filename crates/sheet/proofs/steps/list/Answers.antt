-- Assumes nothing.
use Rattle.std.proofs.Common.{rules, refl, sym, ◌∙◌}
use native.Mathlib.Nat.{sub-zero}
use Rattle.std.proofs.lemmas.Result.{err_from_is_err_and}
use Rattle.rules.specs.Format.{list}
use Rattle.sheet.proofs.StepLaws.{times-stop, times-go, times-end}
use Rattle.sheet.proofs.steps.list.Goals as goal

pub returns-in_err-here : goal.returns-in_err-here
unfolding list
returns-in_err-here c =
    let p = err_from_is_err_and c.from_residual.result c.from_residual.ensures.1 in
    rw (p.1, p.2, ← c.limited.ensures, c.in_err-here.was) refl

pub loop-init : goal.loop-init
unfolding list
loop-init c = (rw (← c.limited.ensures, c.in_ok-here.was, ← c.pair_at-count.ensures, sub-zero) refl, search rules)

pub returns-in_err-here-2 : goal.returns-in_err-here-2
returns-in_err-here-2 c =
    let p = err_from_is_err_and c.from_residual-in_err-here-2.result c.from_residual-in_err-here-2.ensures.1 in
    rw (p.1, p.2)
    (sym c.in_err-here-2.was ∙ times-stop _ _ _ _ _ _ c.loop.invariant.0 c.loop-test.true c.limited-in-loop.ensures c.in_err-here-2.was)

pub loop-preserved : goal.loop-preserved
loop-preserved c = (times-go _ _ _ _ _ _ c.loop.invariant.0 c.loop-test.true c.limited-in-loop.ensures c.in_ok-here-2.was, search rules)

pub returns : goal.returns
returns c = times-end _ _ _ _ _ _ c.loop.invariant.0 c.loop-test.false
