-- `lines::Text::put_along` appends the tiers in the sequence of the order. The loop's invariant: those of the items before this one are there.
-- Assumes nothing.
use Prim.Native.Nat.{ℕ, ◌*◌}
use mathlib.Core.List.{flat_map}
use lib.ListN.{take, get_or}
use Rattle.rules.specs.Text.{spaced}
use Rattle.lines.specs.Appends.{Appends}
use Rattle.lines.proofs.Text.put_along.Given as goal

abbrev pub invariant-loop-i : goal.invariant-loop-i
invariant-loop-i l = Appends l.initial.self (4 * l.i-index) (flat_map (λ (i : ℕ). spaced (get_or l.tiers i 0)) (take l.i-index l.order)) l.self
