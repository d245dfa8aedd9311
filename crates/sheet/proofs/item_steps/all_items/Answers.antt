-- Assumes nothing.
use Rattle.std.proofs.Common.{rules, sym, ◌∙◌}
use Rattle.std.proofs.lemmas.Result.{err_from_is_err_and}
use Rattle.sheet.proofs.StepLaws.{each-stop, each-go, each-end}
use Rattle.sheet.proofs.item_steps.all_items.Goals as goal

pub returns-in_err-here : goal.returns-in_err-here
returns-in_err-here c =
    let p = err_from_is_err_and c.from_residual.result c.from_residual.ensures.1 in
    rw (p.1, p.2) (sym c.in_err-here.was ∙ each-stop _ _ _ _ _ c.loop-i.invariant.0 c.loop-i-test.true c.item_at.ensures c.in_err-here.was)

pub loop-i-preserved : goal.loop-i-preserved
loop-i-preserved c = (each-go _ _ _ _ _ c.loop-i.invariant.0 c.loop-i-test.true c.item_at.ensures c.in_ok-here.was, search rules)

pub returns : goal.returns
returns c = search each-end
