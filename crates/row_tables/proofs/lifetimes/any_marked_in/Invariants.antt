-- `row_tables::lifetimes::any_marked_in` meets its contract: found says whether one before j is marked.
-- Assumes nothing.
use Rattle.std.proofs.Common.{◌≡◌, [], ◌∷◌}
use Rattle.rules.specs.Base.{over, any_of}
use Rattle.rules.specs.View.{entry}
use Rattle.laws.specs.RowTable.{marked}
use Rattle.row_tables.proofs.lifetimes.any_marked_in.Given as goal

abbrev pub invariant-loop-j : goal.invariant-loop-j
invariant-loop-j l = l.found ≡ any_of (marked l.table) (over l.j (λ k. entry l.s l.at k ∷ []))
