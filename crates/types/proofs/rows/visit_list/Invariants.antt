-- `types::rows::visit_list` meets its contract. The invariant: the first j rows of the list were walked.
-- Assumes nothing.
use Rattle.rules.specs.View.{rows}
use Rattle.types.specs.Walk.{Walks}
use Rattle.types.proofs.Walking.{first_rows}
use Rattle.types.proofs.rows.visit_list.Given as goal

abbrev pub invariant-loop-j : goal.invariant-loop-j
invariant-loop-j l = Walks l.s l.initial.rows (rows l.s) (first_rows l.s l.at l.j) l.rows
