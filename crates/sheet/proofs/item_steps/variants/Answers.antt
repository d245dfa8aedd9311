-- `variants` is the step of that name: a count, and one that is no larger.
-- Assumes nothing.
use Rattle.std.proofs.Common.{refl}
use Rattle.std.proofs.lemmas.Result.{err_from_is_err_and}
use Rattle.rules.specs.Format.{variants}
use Rattle.sheet.proofs.item_steps.variants.Goals as goal

pub returns-in_err-next : goal.returns-in_err-next
unfolding variants
returns-in_err-next c =
    let p = err_from_is_err_and c.from_residual.result c.from_residual.ensures.1 in
    rw (p.1, p.2, ← c.limited.ensures, c.in_err-next.was) refl

pub returns : goal.returns
unfolding variants
returns c = rw (← c.limited.ensures, c.in_ok-next.was, ← c.pair_at.ensures) c.limited-2.ensures
