-- `types::reasons::Reasons::insist_item` meets its contract, by kinds of items.
-- Assumes nothing.
use mathlib.Core.Path.{refl, sym, ◌∙◌}
use borrow.Author.Tests.{eqb-true, eqb-false}
use Rattle.rules.specs.View.{item_is, is_function}
use Rattle.types.proofs.Counting.{item-fields, item-none, item-function, wants-same}
use Rattle.types.proofs.Showing.{args-inside, fields-inside}
use Rattle.types.proofs.reasons.Reasons.insist_item.Goals as goal

pub insist_list-requires : goal.insist_list-requires
unfolding item_is
insist_list-requires c =
    let e = eqb-true _ _ (sym c.item_is.ensures ∙ c.if-item_is.true) in
    record { wants = c.requires.wants; inside = fields-inside _ c.requires.accepted _ c.requires.below refl e c.rest.ensures }

pub returns-then-item_is : goal.returns-then-item_is
unfolding item_is
returns-then-item_is c = item-fields _ _ refl (eqb-true _ _ (sym c.item_is.ensures ∙ c.if-item_is.true)) c.rest.ensures c.insist_list.ensures

pub returns-then-not-is_function : goal.returns-then-not-is_function
unfolding item_is is_function
returns-then-not-is_function c =
    item-none _ _ refl (eqb-false _ _ (sym c.item_is.ensures ∙ c.if-item_is.false)) c.is_function.ensures c.if-not-is_function.true

pub insist_list-requires-2 : goal.insist_list-requires-2
insist_list-requires-2 c =
    let function = sym c.is_function.ensures ∙ c.if-not-is_function.false in
    record { wants = c.requires.wants; inside = rw c.args_place.ensures (args-inside _ c.requires.accepted _ c.requires.below function refl) }

pub insist_return-requires : goal.insist_return-requires
insist_return-requires c = wants-same c.insist_list-2.ensures c.requires.wants

pub returns : goal.returns
unfolding item_is is_function
returns c =
    item-function _ _ refl (eqb-false _ _ (sym c.item_is.ensures ∙ c.if-item_is.false)) c.is_function.ensures c.if-not-is_function.false
    c.args_place.ensures c.return_row.ensures c.insist_list-2.ensures c.insist_return.ensures
