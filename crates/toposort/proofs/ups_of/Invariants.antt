-- `toposort::ups_of` meets its contract. The invariant: the items before i are entered.
-- Assumes nothing.
use mathlib.Core.Path.{◌≡◌}
use lib.ListN.{length}
use Rattle.toposort.specs.Leads.{Ups}
use Rattle.toposort.proofs.ups_of.Given as goal

abbrev pub invariant-loop-i : goal.invariant-loop-i
invariant-loop-i l = (length l.ups ≡ 255) × Ups l.tiers l.ups l.i
