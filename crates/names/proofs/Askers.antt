-- The tests of a name that are made of others, answer by answer as the code asks them.
-- Assumes nothing.
use Prim.Native.Nat.{ℕ}
use mathlib.Core.Path.{◌≡◌, refl, sym, ap, ◌∙◌}
use mathlib.Core.Bool.{Bool, true, false, not}
use Rattle.rules.specs.Trivial.{extern_in}
use Rattle.rules.specs.Types.{Types, is_struct, is_enum, is_cxx, is_alias, is_extern, is_opaque}

module _ (t : Types) (n : ℕ) {c : Bool} (is-cxx : c ≡ is_cxx t n) where
  pub extern-not-cxx : c ≡ false → false ≡ is_extern t n
  unfolding is_extern extern_in is_cxx
  extern-not-cxx h = rw (sym is-cxx ∙ h) refl

  module _ {s : Bool} (in-cxx : c ≡ true) (is_struct : s ≡ is_struct t n) where
    pub extern-not-struct : s ≡ true → false ≡ is_extern t n
    unfolding is_extern extern_in is_cxx is_struct
    extern-not-struct h = rw (sym is-cxx ∙ in-cxx, sym is_struct ∙ h) refl

    pub extern-enum : s ≡ false → {e : Bool} → e ≡ is_enum t n → not e ≡ is_extern t n
    unfolding is_extern extern_in is_cxx is_struct is_enum
    extern-enum h e = rw (sym is-cxx ∙ in-cxx, sym is_struct ∙ h) (ap not e)

module _ (t : Types) (n : ℕ) {x : Bool} (is-extern : x ≡ is_extern t n) where
  pub opaque-not : x ≡ false → false ≡ is_opaque t n
  unfolding is_opaque
  opaque-not h = rw (sym is-extern ∙ h) refl

  pub opaque-alias : x ≡ true → {a : Bool} → a ≡ is_alias t n → not a ≡ is_opaque t n
  unfolding is_opaque
  opaque-alias h e = rw (sym is-extern ∙ h) (ap not e)
