-- `toposort::sort` meets its contract. The invariant: the items before i are walked.
-- Assumes nothing.
use Rattle.toposort.specs.Leads.{table_graph}
use Rattle.toposort.proofs.Sorting.{Sorting}
use Rattle.toposort.proofs.sort.Given as goal

abbrev pub invariant-loop-i : goal.invariant-loop-i
invariant-loop-i l = Sorting (table_graph l.s l.leads) l.initial.cx l.i l.cx l.order l.w
