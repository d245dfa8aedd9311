-- The visits that the walk over the struct items makes, counted off the sheet.
-- Assumes nothing: these are definitions.
use Rattle.std.specs.Prelude.{ℕ, zero, suc, ◌+◌, ◌*◌, Bool, ◌&&◌, List}
use Rattle.rules.specs.Numbers.{Ident, Struct}
use Rattle.rules.specs.Diagnostics.{bit}
use Rattle.rules.specs.View.{is, row_name, item_is, field_count, field}
use Rattle.rules.specs.Types.{types_of, is_struct}

module _ (s : List ℕ) where
  -- field j of item i is a plain name, and a struct bears it
  unfoldable pub struct_named : (i j : ℕ) → Bool
  struct_named i j = is s Ident (field s i j) && is_struct (types_of s) (row_name s (field s i j))

  -- how many of the first k fields of item i are
  unfoldable pub named_fields : (i k : ℕ) → ℕ
  named_fields i zero = 0
  named_fields i (suc k) = named_fields i k + bit (struct_named i k)

  -- of the struct items among the first n, together
  unfoldable pub named_to : (n : ℕ) → ℕ
  named_to zero = 0
  named_to (suc i) = named_to i + bit (item_is s Struct i) * named_fields i (field_count s i)
