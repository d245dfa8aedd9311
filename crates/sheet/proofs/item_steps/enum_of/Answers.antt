-- `enum_of` is the body of kind 2: the head, the repr row, a flag and the variants.
-- Assumes nothing.
use Rattle.std.proofs.Common.{refl}
use Rattle.std.proofs.lemmas.Result.{err_from_is_err_and}
use Rattle.rules.specs.Format.{item_of, item_kinds}
use Rattle.sheet.proofs.item_steps.enum_of.Goals as goal

pub returns-in_err-at : goal.returns-in_err-at
unfolding item_of item_kinds
returns-in_err-at c =
    let p = err_from_is_err_and c.from_residual.result c.from_residual.ensures.1 in
    rw (p.1, p.2, ← c.type_head.ensures, c.in_err-at.was) refl

pub returns-in_err-at-2 : goal.returns-in_err-at-2
unfolding item_of item_kinds
returns-in_err-at-2 c =
    let p = err_from_is_err_and c.from_residual-in_err-at-2.result c.from_residual-in_err-at-2.ensures.1 in
    rw (p.1, p.2, ← c.type_head.ensures, c.in_ok-at.was, ← c.repr.ensures, c.in_err-at-2.was) refl

pub returns-in_err-at-3 : goal.returns-in_err-at-3
unfolding item_of item_kinds
returns-in_err-at-3 c =
    let p = err_from_is_err_and c.from_residual-in_err-at-3.result c.from_residual-in_err-at-3.ensures.1 in
    rw (p.1, p.2, ← c.type_head.ensures, c.in_ok-at.was, ← c.repr.ensures, c.in_ok-at-2.was, ← c.limited.ensures, c.in_err-at-3.was) refl

pub returns : goal.returns
unfolding item_of item_kinds
returns c = rw (← c.type_head.ensures, c.in_ok-at.was, ← c.repr.ensures, c.in_ok-at-2.was, ← c.limited.ensures, c.in_ok-at-3.was) c.variants.ensures
