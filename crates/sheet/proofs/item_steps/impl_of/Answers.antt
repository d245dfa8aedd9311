-- `impl_of` is the body of kind 8: a row, a flag and the lifetimes.
-- Assumes nothing.
use Rattle.std.proofs.Common.{refl}
use Rattle.std.proofs.lemmas.Result.{err_from_is_err_and}
use Rattle.rules.specs.Format.{item_of, item_kinds}
use Rattle.sheet.proofs.item_steps.impl_of.Goals as goal

pub returns-in_err-at : goal.returns-in_err-at
unfolding item_of item_kinds
returns-in_err-at c =
    let p = err_from_is_err_and c.from_residual.result c.from_residual.ensures.1 in
    rw (p.1, p.2, ← c.limited.ensures, c.in_err-at.was) refl

pub returns-in_err-at-2 : goal.returns-in_err-at-2
unfolding item_of item_kinds
returns-in_err-at-2 c =
    let p = err_from_is_err_and c.from_residual-in_err-at-2.result c.from_residual-in_err-at-2.ensures.1 in
    rw (p.1, p.2, ← c.limited.ensures, c.in_ok-at.was, ← c.limited-2.ensures, c.in_err-at-2.was) refl

pub returns : goal.returns
unfolding item_of item_kinds
returns c = rw (← c.limited.ensures, c.in_ok-at.was, ← c.limited-2.ensures, c.in_ok-at-2.was) c.list.ensures
