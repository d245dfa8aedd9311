-- The entries of a list, one after another, each made into a list of its own: what a loop has after k of them, and after one more.
-- Assumes nothing.
use Prim.Native.Nat.{ℕ, ◌+◌, ◌<◌}
use mathlib.Core.Path.{◌≡◌, refl, sym, ap, ◌∙◌}
use mathlib.Core.List.{List, [], ◌∷◌, ◌++◌, flat_map, append-nil, append_assoc}
use native.Mathlib.Numerals.{add-one}
use lib.ListN.{length, get_or, take}
use lib.Seq.{take-suc}
use Rattle.rules.specs.Base.{over}

pub take_more : {A : Type 0} (l : List A) (k : ℕ) (d : A) → k < length l → take k l ++ (get_or l k d ∷ []) ≡ take (k + 1) l
take_more l k d h = rw (add-one, take-suc l k d h)

module _ {A B : Type 0} (f : A → List B) where
  flat_append : (l r : List A) → flat_map f (l ++ r) ≡ flat_map f l ++ flat_map f r
  unfolding flat_map
  flat_append [] r = refl
  flat_append (x ∷ l) r = ap (λ (t : List B). f x ++ t) (flat_append l r) ∙ sym (append_assoc (f x) (flat_map f l) (flat_map f r))

  pub flat-one : (x : A) → f x ≡ flat_map f (x ∷ [])
  unfolding flat_map
  flat-one x = sym (append-nil (f x))

  pub flat-more : (l : List A) (k : ℕ) (d : A) → k < length l → flat_map f (take k l) ++ f (get_or l k d) ≡ flat_map f (take (k + 1) l)
  flat-more l k d h =
      ap (λ (t : List B). flat_map f (take k l) ++ t) (flat-one (get_or l k d))
      ∙ sym (flat_append (take k l) (get_or l k d ∷ []))
      ∙ ap (flat_map f) (take_more l k d h)

  pub flat-over : (g : ℕ → List A) (k : ℕ) → flat_map f (over k g) ++ flat_map f (g k) ≡ flat_map f (over (k + 1) g)
  unfolding over
  flat-over g k = rw add-one (sym (flat_append (over k g) (g k)))
