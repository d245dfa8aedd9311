-- `types::reasons::Reasons::insist_rows` meets its contract. The invariant: the reasons of the first k rows are counted.
-- Assumes nothing.
use Rattle.types.specs.Reasons.{Counted, of_rows}
use Rattle.types.proofs.reasons.Reasons.insist_rows.Given as goal

abbrev pub invariant-loop-k : goal.invariant-loop-k
invariant-loop-k l =
    let u = l.initial.self in
    Counted u (of_rows u.s.now u.names.now l.rows.scratch.now l.k) l.self
