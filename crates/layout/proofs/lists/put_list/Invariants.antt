-- `layout::lists::put_list` stores a list of entries. The loop's invariant: the first k are stored.
-- Assumes nothing.
use Prim.Native.Nat.{◌*◌}
use mathlib.Core.List.{flat_map}
use lib.ListN.{take}
use Rattle.errors.specs.Bytes.{Stored}
use Rattle.layout.proofs.lists.put_list.Given as goal

abbrev pub invariant-loop-k : goal.invariant-loop-k
invariant-loop-k g l = Stored l.initial.out l.at (g.T.Entry.SIZE * l.k) (flat_map g.T.Entry.entry_bytes (take l.k l.list)) l.out
