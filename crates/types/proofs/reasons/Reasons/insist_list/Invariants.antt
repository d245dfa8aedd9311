-- `types::reasons::Reasons::insist_list` meets its contract. The invariant: the reasons of the first j rows are counted.
-- Assumes nothing.
use Rattle.rules.specs.Base.{over}
use Rattle.rules.specs.View.{entry}
use Rattle.types.specs.Reasons.{Counted, of_plain}
use Rattle.types.proofs.reasons.Reasons.insist_list.Given as goal

abbrev pub invariant-loop-j : goal.invariant-loop-j
invariant-loop-j l =
    let u = l.initial.self in
    Counted u (over l.j (λ i. of_plain u.s.now u.names.now (entry u.s.now l.at i))) l.self
