-- `receiver` is the step of that name: by its three forms.
-- Assumes nothing.
use Rattle.std.proofs.Common.{refl}
use Rattle.std.proofs.lemmas.Result.{err_from_is_err_and}
use Rattle.rules.specs.Format.{receiver, receivers}
use Rattle.sheet.proofs.ItemLaws.{receiver-free}
use Rattle.sheet.proofs.item_steps.receiver.Goals as goal

pub returns-in_err-next : goal.returns-in_err-next
unfolding receiver
returns-in_err-next c =
    let p = err_from_is_err_and c.from_residual.result c.from_residual.ensures.1 in
    rw (p.1, p.2, ← c.limited.ensures, c.in_err-next.was) refl

pub returns-in-1 : goal.returns-in-1
unfolding receiver receivers
returns-in-1 c = rw (← c.limited.ensures, c.in_ok-next.was, ← c.pair_at.ensures, c.in-1.is) c.limited-in-1.ensures

pub returns-in_err-next-in-2 : goal.returns-in_err-next-in-2
unfolding receiver receivers
returns-in_err-next-in-2 c =
    let p = err_from_is_err_and c.from_residual-in_err-next-in-2.result c.from_residual-in_err-next-in-2.ensures.1 in
    rw (p.1, p.2, ← c.limited.ensures, c.in_ok-next.was, ← c.pair_at.ensures, c.in-2.is, ← c.limited-in-2.ensures, c.in_err-next-in-2.was) refl

pub returns-in_ok-next-in-2 : goal.returns-in_ok-next-in-2
unfolding receiver receivers
returns-in_ok-next-in-2 c = rw (← c.limited.ensures, c.in_ok-next.was, ← c.pair_at.ensures, c.in-2.is, ← c.limited-in-2.ensures, c.in_ok-next-in-2.was)
    c.limited-in-2-2.ensures

pub returns-in_default : goal.returns-in_default
unfolding receiver
returns-in_default c = rw (← c.limited.ensures, c.in_ok-next.was, ← c.pair_at.ensures)
    (receiver-free _ _ _ c.in_default.in_default-own.rest.0.1 c.in_default.in_default-own.rest.1)
