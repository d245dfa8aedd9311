-- `lines::Text::put_list` appends numbers, each after a blank. The loop's invariant: those before this one are there.
-- Assumes nothing.
use Prim.Native.Nat.{◌*◌}
use mathlib.Core.List.{flat_map}
use lib.ListN.{take}
use Rattle.rules.specs.Text.{spaced}
use Rattle.lines.specs.Appends.{Appends}
use Rattle.lines.proofs.Text.put_list.Given as goal

abbrev pub invariant-loop-n : goal.invariant-loop-n
invariant-loop-n l = Appends l.initial.self (4 * l.n-index) (flat_map spaced (take l.n-index l.list)) l.self
