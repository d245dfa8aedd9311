-- `types::rows::visit_items` meets its contract. The invariant: what the first i items show was walked.
-- Assumes nothing.
use Rattle.rules.specs.Base.{over}
use Rattle.rules.specs.View.{rows}
use Rattle.rules.specs.Collect.{shown_by}
use Rattle.types.specs.Walk.{Walks}
use Rattle.types.proofs.rows.visit_items.Given as goal

abbrev pub invariant-loop-i : goal.invariant-loop-i
invariant-loop-i l = Walks l.s l.initial.rows (rows l.s) (over l.i (shown_by l.s)) l.rows
