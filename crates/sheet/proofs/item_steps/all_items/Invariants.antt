-- `all_items` reads items one after the other. The invariant: what is left of the step is the items from i on, from here on.
-- Assumes nothing.
use Prim.Native.Nat.{◌-◌, ◌≤◌}
use mathlib.Core.Path.{◌≡◌}
use Rattle.rules.specs.Format.{each, item_at}
use Rattle.sheet.proofs.item_steps.all_items.Given as goal

abbrev pub invariant-loop-i : goal.invariant-loop-i
invariant-loop-i l = (each (item_at l.s l.t) l.n 0 l.at ≡ each (item_at l.s l.t) (l.n - l.i) l.i l.here) × (l.i ≤ l.n)
