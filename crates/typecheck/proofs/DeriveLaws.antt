-- A derive of an enum, by the one test that the code makes first: Default is not ExternType, so that the other message is not given.
-- Assumes nothing.
use Prim.Native.Nat.{ℕ}
use mathlib.Core.Path.{◌≡◌, sym}
use mathlib.Core.List.{List, append-nil}
use mathlib.Core.Bool.{false, not}
use lib.Dec.{eqb}
use Rattle.rules.specs.Numbers.{Default, ExternType}
use Rattle.rules.specs.declared.Place.TheVariants.{D}
use Rattle.rules.specs.Diagnostics.{say, tell, when}
use Rattle.rules.specs.View.{enum_defaults}
use Rattle.typecheck.specs.Derives.{enum_derive}

module _ (s : List ℕ) (i j what : ℕ) where
  pub default-said : {d : ℕ} → d ≡ enum_defaults s i → what ≡ Default → when (not (eqb d 1)) (tell 34 (D i j) d) ≡ enum_derive i j what s
  unfolding when
  default-said e q = rw (e, q) (sym (append-nil _))

  pub other-said : eqb what Default ≡ false → when (eqb what ExternType) (say 35 (D i j)) ≡ enum_derive i j what s
  unfolding when
  other-said e = rw e
