-- `toposort::tiers` meets its contract. The invariant: the items of the first places of the order have their tiers, and `ups` has what they give.
-- Assumes nothing.
use mathlib.Core.Path.{◌≡◌}
use lib.ListN.{length, replicate}
use Rattle.laws.specs.TierPass.{start_to, tiers_to}
use Rattle.toposort.specs.Leads.{table_graph, Ups}
use Rattle.toposort.proofs.tiers.Given as goal

abbrev pub invariant-loop-i : goal.invariant-loop-i
invariant-loop-i l = (l.tiers ≡ tiers_to (table_graph l.s l.leads) l.order l.i-index (start_to (table_graph l.s l.leads) 255 (replicate 255 0)))
    × (length l.tiers ≡ 255)
    × (length l.ups ≡ 255)
    × Ups l.tiers l.ups 255
