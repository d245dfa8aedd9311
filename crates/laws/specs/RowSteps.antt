-- Definitions of rules that look from a row to smaller rows, one step of each: what it says of a row, by what is said of the smaller rows. Laws:
-- proofs/rows/Fuel, where each step is shown to be that of its definition.
-- Assumes nothing: these are definitions.
use Rattle.std.specs.Prelude.{ℕ, Bool, true, ◌||◌, List, eqb}
use Rattle.rules.specs.Numbers.{Ident, RustBox, RustVec, CxxVector, Str, SliceRef, Array, Fn, Void}
use Rattle.rules.specs.Base.{if'◌then◌else◌, any_of}
use Rattle.rules.specs.View.{kind, is, row_name, inner, shown}
use Rattle.rules.specs.Types.{Types}
use Rattle.rules.specs.Improper.{Look, definite, look_name}
use Rattle.rules.specs.Check.{is_unsized_ident, is_lifetime_mut}
use Rattle.laws.specs.Kinds.{is_through}

-- the kinds of rows that are improper by themselves: Box, Vec, str, Fn, Void and slice
abbrev pub improper_kind : (kind : ℕ) → Bool
improper_kind k = eqb k RustBox || eqb k RustVec || eqb k Str || eqb k Fn || eqb k Void || eqb k SliceRef

module _ (s : List ℕ) (t : Types) where
  -- `is_unsized` of a row that is no array
  unfoldable pub unsized_leaf : (r : ℕ) → Bool
  unsized_leaf r = if' is s Ident r then is_unsized_ident s t (row_name s r) else is s CxxVector r || is s Fn r || is s Void r

  unfoldable pub unsized_step : (smaller : ℕ → Bool) (r : ℕ) → Bool
  unsized_step smaller r = if' is s Array r then smaller (inner s r) else unsized_leaf r

  -- `determine_improper_ctype`
  unfoldable pub look_step : (smaller : ℕ → Look) (r : ℕ) → Look
  look_step smaller r =
      if' eqb (kind s r) Ident then look_name s t (row_name s r) else
      if' is_through (kind s r) then smaller (inner s r) else definite (improper_kind (kind s r))

  -- `FindLifetimeMut`
  unfoldable pub mut_step : (smaller : ℕ → Bool) (r : ℕ) → Bool
  mut_step smaller r = if' is_lifetime_mut s t r then true else any_of smaller (shown s r)
