-- `repr` is the step of that name: by whether the pair was refused, and by the kind of the row.
-- Assumes nothing.
use Rattle.std.proofs.Common.{sym, ◌∙◌}
use Rattle.std.proofs.lemmas.Result.{err_from_is_err_and}
use Rattle.sheet.proofs.ItemLaws.{repr-fine, repr-refused, repr-wrong}
use Rattle.sheet.proofs.item_steps.repr.Goals as goal

pub returns-in_err-next : goal.returns-in_err-next
returns-in_err-next c =
    let p = err_from_is_err_and c.from_residual.result c.from_residual.ensures.1 in
    rw (p.1, p.2) (sym c.in_err-next.was ∙ repr-refused _ _ _ c.limited.ensures c.in_err-next.was)

pub returns-then-pair_at-number : goal.returns-then-pair_at-number
returns-then-pair_at-number c = c.refusal.ensures ∙ repr-wrong _ _ _ c.limited.ensures c.pair_at.ensures c.offset-place.ensures c.pair_at-2.ensures
    (λ q. c.if-pair_at-number.true (q ∙ sym c.number.ensures)) c.in_ok-next.was

pub returns : goal.returns
returns c = sym c.in_ok-next.was ∙ repr-fine _ _ _ c.limited.ensures c.pair_at.ensures c.offset-place.ensures c.pair_at-2.ensures
    (c.if-pair_at-number.false ∙ c.number.ensures)
