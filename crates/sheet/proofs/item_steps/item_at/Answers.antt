-- `item_at` is the step `item_at`: the offset, the kind, and the body of that kind.
-- Assumes nothing.
use Rattle.std.proofs.Common.{sym, ◌∙◌}
use Rattle.std.proofs.lemmas.Result.{err_from_is_err_and}
use Rattle.rules.proofs.KindLaws.{item_kind-back, item_kind-past}
use Rattle.sheet.proofs.ItemLaws.{item-past, item-offset, item_refused, item-go}
use Rattle.sheet.proofs.item_steps.item_at.Goals as goal

pub returns-then-offset-at : goal.returns-then-offset-at
returns-then-offset-at c = c.refusal.ensures ∙ item-offset _ _ _ _ c.offset.ensures c.if-offset-at.true

pub returns-in_err-next : goal.returns-in_err-next
returns-in_err-next c =
    let p = err_from_is_err_and c.from_residual.result c.from_residual.ensures.1 in
    rw (p.1, p.2) (sym c.in_err-next.was ∙ item_refused _ _ _ _ c.offset.ensures c.if-offset-at.false c.limited.ensures c.in_err-next.was)

pub returns-in-Some : goal.returns-in-Some
returns-in-Some c =
    let k = item_kind-back _ (sym c.from_number.ensures ∙ c.in-Some.is) in
    item-go _ _ _ _ c.offset.ensures c.if-offset-at.false c.limited.ensures c.in_ok-next.was c.pair_at.ensures (rw k c.item_of.ensures)

pub returns-in-None : goal.returns-in-None
returns-in-None c = item-go _ _ _ _ c.offset.ensures c.if-offset-at.false c.limited.ensures c.in_ok-next.was c.pair_at.ensures
    (item-past _ _ _ _ (item_kind-past _ (sym c.from_number.ensures ∙ c.in-None.is)))
