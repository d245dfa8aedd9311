-- `types::rows::visit_type` and `visit_signature` call each other: the row number falls, where a type's walk comes before that of its own signature.
-- The loop's invariant: the return was walked before the loop, if there is one, and then the first j arguments.
-- Assumes nothing.
use Rattle.std.proofs.Common.{◌+◌, ◌*◌}
use Rattle.rules.specs.View.{or_nothing, fn_return}
use Rattle.types.specs.Walk.{Walks}
use Rattle.types.proofs.Walking.{first_rows}
use Rattle.types.proofs.rows.+visit_signature_visit_type.Given as goal

abbrev pub decreases-visit_signature : goal.decreases-visit_signature
decreases-visit_signature l = 2 * l.row

abbrev pub decreases-visit_type : goal.decreases-visit_type
decreases-visit_type l = 2 * l.row + 1

abbrev pub invariant-visit_signature-loop-j : goal.invariant-visit_signature-loop-j
invariant-visit_signature-loop-j l = record {
  returned : Walks l.s l.fn.rows l.row (or_nothing (fn_return l.s l.row)) l.initial.rows;
  walked : Walks l.s l.initial.rows l.row (first_rows l.s l.args l.j) l.rows;
}
