-- `struct_of` is the body of kind 1: the head and the fields.
-- Assumes nothing.
use Rattle.std.proofs.Common.{refl}
use Rattle.std.proofs.lemmas.Result.{err_from_is_err_and}
use Rattle.rules.specs.Format.{item_of, item_kinds}
use Rattle.sheet.proofs.item_steps.struct_of.Goals as goal

pub returns-in_err-at : goal.returns-in_err-at
unfolding item_of item_kinds
returns-in_err-at c =
    let p = err_from_is_err_and c.from_residual.result c.from_residual.ensures.1 in
    rw (p.1, p.2, ← c.type_head.ensures, c.in_err-at.was) refl

pub returns : goal.returns
unfolding item_of item_kinds
returns c = rw (← c.type_head.ensures, c.in_ok-at.was) c.list.ensures
