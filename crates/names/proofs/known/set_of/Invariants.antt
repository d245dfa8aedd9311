-- `known::set_of` gathers the names that have an entry: after n turns the set is that of the names below n.
-- Assumes nothing.
use mathlib.Core.Path.{◌≡◌}
use Rattle.names.proofs.Columns.{names_to}
use Rattle.names.proofs.known.set_of.Given as goal

abbrev pub invariant-loop-n : goal.invariant-loop-n
invariant-loop-n l = l.set.words ≡ names_to l.names l.k l.n
