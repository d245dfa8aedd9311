-- `lines::Text::put_members` appends the names of a set, rising. The loop's invariant: those below k are there.
-- Assumes nothing.
use Prim.Native.Nat.{◌*◌}
use mathlib.Core.List.{flat_map}
use Rattle.rules.specs.Text.{spaced, members_to}
use Rattle.lines.specs.Appends.{Appends}
use Rattle.lines.proofs.Text.put_members.Given as goal

abbrev pub invariant-loop-k : goal.invariant-loop-k
invariant-loop-k l = Appends l.initial.self (4 * l.k) (flat_map spaced (members_to l.k l.set.words)) l.self
