-- The fields of a struct, as a list that stands in the sheet and has no more entries than a word has bits.
-- Assumes nothing.
use Prim.Native.Nat.{ℕ, ◌<◌}
use mathlib.Core.Path.{◌≡◌}
use mathlib.Core.List.{List}
use native.Mathlib.Omega.{arith}
use Rattle.rules.specs.Numbers.{most_rows}
use Rattle.rules.specs.Format.{Accepted}
use Rattle.rules.specs.View.{rest, field_count, field, entry, rows}
use Rattle.rules.specs.Rule3.{IsStruct}
use Rattle.laws.proofs.Sheet.Accepted.Items.{item-of}
use Rattle.laws.proofs.Sheet.Accepted.Sheet.{sheet-of}
use Rattle.row_tables.specs.Listed.{EntryIn, ListIn}

module _ (s : List ℕ) (acc : Accepted s) (i at n : ℕ) (h : IsStruct s i) (a : at ≡ rest s i) (q : n ≡ field_count s i) where
  pub field_in : (k : ℕ) → k < n → EntryIn s at k
  unfolding field
  field_in k l =
      let of = (item-of s acc i h.below).as_struct h.is_struct in
      let m : k < field_count s i = omega (arith, q) in
      let below : entry s (rest s i) k < rows s = of.field_below k m in
      let room : entry s (rest s i) k < most_rows = omega (arith, below, (sheet-of s acc).few-rows) in
      record { inside = rw a (of.fields-inside k m); row = rw a room }

  pub struct-list : ListIn s at n
  struct-list = record { few = omega (arith, q, ((item-of s acc i h.below).as_struct h.is_struct).few-fields); entries = field_in }
