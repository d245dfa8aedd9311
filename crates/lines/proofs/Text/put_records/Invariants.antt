-- `lines::Text::put_records` appends the lines of records. The loop's invariant: those before this one are there.
-- Assumes nothing.
use Prim.Native.Nat.{◌*◌}
use mathlib.Core.List.{flat_map}
use lib.ListN.{take}
use Rattle.rules.specs.Text.{record_line}
use Rattle.lines.specs.Appends.{Appends}
use Rattle.lines.proofs.Text.put_records.Given as goal

abbrev pub invariant-loop-d : goal.invariant-loop-d
invariant-loop-d l = Appends l.initial.self (22 * l.d-index) (flat_map record_line (take l.d-index l.list)) l.self
