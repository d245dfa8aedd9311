-- `types::reasons::Reasons::insist_items` meets its contract. The invariant: the reasons of the first i items are counted.
-- Assumes nothing.
use Rattle.rules.specs.Base.{over}
use Rattle.types.specs.Reasons.{Counted, of_item}
use Rattle.types.proofs.reasons.Reasons.insist_items.Given as goal

abbrev pub invariant-loop-i : goal.invariant-loop-i
invariant-loop-i l =
    let u = l.initial.self in
    Counted u (over l.i (of_item u.s.now u.names.now)) l.self
