-- Kinds of rows that go together, and a pair that is a row or none.
-- Assumes nothing: these are definitions.
use Rattle.std.specs.Prelude.{ℕ, ◌<◌, ◌≡◌, ◌⊎◌, Bool, ◌||◌, eqb}
use Rattle.rules.specs.Numbers.{Ident, Ref, Ptr, Str, Array, Void, no_row}

-- Ident, Str and Void show nothing
abbrev pub leaf : (kind : ℕ) → Bool
leaf k = eqb k Ident || eqb k Str || eqb k Void

-- Ref, Ptr and Array are looked through
abbrev pub is_through : (kind : ℕ) → Bool
is_through k = eqb k Ref || eqb k Ptr || eqb k Array

-- 65,535 for none, or a row below the limit
abbrev pub RowOrNone : (limit v : ℕ) → Type 0
RowOrNone limit v = (v ≡ no_row) ⊎ (v < limit)
