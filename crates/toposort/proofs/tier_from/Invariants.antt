-- `toposort::tier_from` meets its contract. The invariant: `best` is the largest that the fields before some k give, and the word has the others that lead to
-- a struct.
-- Assumes nothing.
use Prim.Native.Nat.{ℕ}
use Rattle.toposort.specs.Leads.{table_graph}
use Rattle.toposort.proofs.Leading.{Turning}
use Rattle.toposort.proofs.TierTurns.{Best}
use Rattle.toposort.proofs.tier_from.Given as goal

abbrev pub invariant-loop-j : goal.invariant-loop-j
invariant-loop-j l =
    (k : ℕ) × Turning (table_graph l.s l.leads) l.i l.fields k l.j-iterator.0 × Best (table_graph l.s l.leads) l.ups l.i l.best k
