-- `types::tables::collect_names` meets its contract. The invariant: what is known of the names, the functions and the report are those of the first i items.
-- Assumes nothing.
use Rattle.types.proofs.Passing.{Passed}
use Rattle.types.proofs.tables.collect_names.Given as goal

abbrev pub invariant-loop-i : goal.invariant-loop-i
invariant-loop-i l = Passed l.s l.initial.cx l.i l.names l.cx l.keys
