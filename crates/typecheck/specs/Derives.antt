-- The derives of an item, by what it is: in the code one loop for the four checks of check.rs.
-- Assumes nothing: these are definitions.
use Rattle.std.specs.Prelude.{ℕ, List, ◌++◌, not, ◌&&◌, eqb}
use Rattle.rules.specs.Numbers.{RustType, Default, is_bit, ExternType}
use Rattle.rules.specs.declared.Place.TheVariants.{D}
use Rattle.rules.specs.declared.Diagnostic.{Diagnostic}
use Rattle.rules.specs.Base.{over}
use Rattle.rules.specs.Diagnostics.{say, tell, when}
use Rattle.rules.specs.View.{item_is, derive_count, derive, enum_defaults}
use Rattle.typecheck.specs.declared.derives.Owner.{Owner}
use Rattle.typecheck.specs.declared.derives.Owner.TheVariants.{Struct, Enum, Extern, Alias}

-- derive j of item i, by its number
module _ (i j what : ℕ) where
  abbrev pub struct_derive : List Diagnostic
  struct_derive = when (is_bit what) (say 29 (D i j)) ++ when (eqb what ExternType) (say 30 (D i j))

  abbrev pub enum_derive : (s : List ℕ) → List Diagnostic
  enum_derive s =
      when (eqb what Default && not (eqb (enum_defaults s i) 1)) (tell 34 (D i j) (enum_defaults s i)) ++ when (eqb what ExternType) (say 35 (D i j))

  abbrev pub opaque_derive : (s : List ℕ) → List Diagnostic
  opaque_derive s = when (not (eqb what ExternType && item_is s RustType i)) (say 36 (D i j))

module _ (s : List ℕ) where
  unfoldable pub derived : Owner → (i j what : ℕ) → List Diagnostic
  derived Struct i j what = struct_derive i j what
  derived Enum i j what = enum_derive i j what s
  derived Extern i j what = opaque_derive i j what s
  derived Alias i j what = say 52 (D i j)

  unfoldable pub all_derived : Owner → (i : ℕ) → List Diagnostic
  all_derived owner i = over (derive_count s i) (λ j. derived owner i j (derive s i j))
