-- `row` is the step of that name: the kind, and the body of that kind.
-- Assumes nothing.
use Rattle.std.proofs.Common.{refl, sym, ◌∙◌}
use Rattle.std.proofs.lemmas.Result.{err_from_is_err_and}
use Rattle.rules.specs.Format.{row}
use Rattle.rules.proofs.KindLaws.{row_kind-back, row_kind-past}
use Rattle.sheet.proofs.RowLaws.{body-past}
use Rattle.sheet.proofs.row_steps.row.Goals as goal

pub returns-in_err-next : goal.returns-in_err-next
unfolding row
returns-in_err-next c =
    let p = err_from_is_err_and c.from_residual.result c.from_residual.ensures.1 in
    rw (p.1, p.2, ← c.limited.ensures, c.in_err-next.was) refl

pub returns-in-Some : goal.returns-in-Some
unfolding row
returns-in-Some c =
    let k = row_kind-back _ (sym c.from_number.ensures ∙ c.in-Some.is) in
    rw (← c.limited.ensures, c.in_ok-next.was, ← c.pair_at.ensures, k) c.body.ensures

pub returns-in-None : goal.returns-in-None
unfolding row
returns-in-None c = rw (← c.limited.ensures, c.in_ok-next.was, ← c.pair_at.ensures)
    (body-past _ _ _ _ (row_kind-past _ (sym c.from_number.ensures ∙ c.in-None.is)))
