-- `function` is the step of that name: its six parts one after the other.
-- Assumes nothing.
use Rattle.std.proofs.Common.{refl}
use Rattle.std.proofs.lemmas.Result.{err_from_is_err_and}
use Rattle.rules.specs.Format.{function}
use Rattle.sheet.proofs.ItemLaws.{function-from-receiver}
use Rattle.sheet.proofs.item_steps.function.Goals as goal

pub returns-in_err-at : goal.returns-in_err-at
unfolding function
returns-in_err-at c =
    let p = err_from_is_err_and c.from_residual.result c.from_residual.ensures.1 in
    rw (p.1, p.2, ← c.limited.ensures, c.in_err-at.was) refl

pub returns-in_err-at-2 : goal.returns-in_err-at-2
unfolding function
returns-in_err-at-2 c =
    let p = err_from_is_err_and c.from_residual-in_err-at-2.result c.from_residual-in_err-at-2.ensures.1 in
    rw (p.1, p.2, ← c.limited.ensures, c.in_ok-at.was, ← c.limited-2.ensures, c.in_err-at-2.was) refl

pub returns-in_err-at-3 : goal.returns-in_err-at-3
unfolding function
returns-in_err-at-3 c =
    let p = err_from_is_err_and c.from_residual-in_err-at-3.result c.from_residual-in_err-at-3.ensures.1 in
    rw (p.1, p.2, ← c.limited.ensures, c.in_ok-at.was, ← c.limited-2.ensures, c.in_ok-at-2.was, ← c.list.ensures, c.in_err-at-3.was) refl

pub returns-in_err-at-4 : goal.returns-in_err-at-4
returns-in_err-at-4 c =
    let p = err_from_is_err_and c.from_residual-in_err-at-4.result c.from_residual-in_err-at-4.ensures.1 in
    let q = function-from-receiver _ _ c.args.t _ c.limited.ensures c.in_ok-at.was c.limited-2.ensures c.in_ok-at-2.was c.list.ensures c.in_ok-at-3.was in
    rw (p.1, p.2, q, ← c.receiver.ensures, c.in_err-at-4.was) refl

pub returns-in_err-at-5 : goal.returns-in_err-at-5
returns-in_err-at-5 c =
    let p = err_from_is_err_and c.from_residual-in_err-at-5.result c.from_residual-in_err-at-5.ensures.1 in
    let q = function-from-receiver _ _ c.args.t _ c.limited.ensures c.in_ok-at.was c.limited-2.ensures c.in_ok-at-2.was c.list.ensures c.in_ok-at-3.was in
    rw (p.1, p.2, q, ← c.receiver.ensures, c.in_ok-at-4.was, ← c.or_none.ensures, c.in_err-at-5.was) refl

pub returns : goal.returns
returns c =
    let q = function-from-receiver _ _ c.args.t _ c.limited.ensures c.in_ok-at.was c.limited-2.ensures c.in_ok-at-2.was c.list.ensures c.in_ok-at-3.was in
    rw (q, ← c.receiver.ensures, c.in_ok-at-4.was, ← c.or_none.ensures, c.in_ok-at-5.was) c.list-2.ensures
