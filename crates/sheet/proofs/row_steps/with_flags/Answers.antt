-- `with_flags` is the step of that name: a limited pair, and another.
-- Assumes nothing.
use Rattle.std.proofs.Common.{refl}
use Rattle.std.proofs.lemmas.Result.{err_from_is_err_and}
use Rattle.rules.specs.Format.{with_flags}
use Rattle.sheet.proofs.row_steps.with_flags.Goals as goal

pub returns-in_err-at : goal.returns-in_err-at
unfolding with_flags
returns-in_err-at c =
    let p = err_from_is_err_and c.from_residual.result c.from_residual.ensures.1 in
    rw (p.1, p.2, ← c.limited.ensures, c.in_err-at.was) refl

pub returns : goal.returns
unfolding with_flags
returns c = rw (← c.limited.ensures, c.in_ok-at.was) c.limited-2.ensures
