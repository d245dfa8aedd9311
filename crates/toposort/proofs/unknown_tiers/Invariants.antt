-- `toposort::unknown_tiers` meets its contract. The invariant: the items before i are entered.
-- Assumes nothing.
use Prim.Native.Nat.{ℕ}
use mathlib.Core.Path.{◌≡◌}
use mathlib.Core.List.{List}
use Rattle.std.specs.Prelude.{Option}
use lib.ListN.{replicate}
use Rattle.laws.specs.TierPass.{start_to}
use Rattle.toposort.specs.Leads.{table_graph}
use Rattle.toposort.proofs.unknown_tiers.Given as goal

abbrev pub invariant-loop-i : goal.invariant-loop-i
invariant-loop-i l = (d : List (Option ℕ)) → l.tiers ≡ start_to (table_graph l.s d) l.i (replicate 255 0)
