-- Runs of stores into a list (`sets`): one run after another is one run (`sets-append`), what does not fit may be left away (`sets-cut`), and a run from the
-- first place on is what fits, and then what stood behind it (`sets_first`).
-- Assumes nothing.
use Prim.Native.Nat.{ℕ, zero, suc, ◌+◌, ◌≤◌, min}
use mathlib.Core.Path.{◌≡◌, refl, sym, ap, ◌∙◌}
use mathlib.Core.List.{List, [], ◌∷◌, ◌++◌}
use native.Mathlib.Omega.{arith}
use lib.ListN.{length, take, drop, set, length-set, length-take}
use lib.Seq.{sets, set_out, take-append_seam}

module _ {A : Type 0} where
  pub sets-append : (l : List A) (i : ℕ) (xs ys : List A) → sets (sets l i xs) (i + length xs) ys ≡ sets l i (xs ++ ys)
  sets-append l i [] ys = ap (λ (k : ℕ). sets l k ys) (let z : i + 0 ≡ i = omega arith in z)
  sets-append l i (x ∷ xs) ys =
      ap (λ (k : ℕ). sets (sets (set l i x) (suc i) xs) k ys) (let z : i + suc (length xs) ≡ suc i + length xs = omega arith in z)
      ∙ sets-append (set l i x) (suc i) xs ys

  -- past the end a run does nothing
  sets-out : (l : List A) (i : ℕ) (xs : List A) → length l ≤ i → sets l i xs ≡ l
  sets-out l i [] h = refl
  sets-out l i (x ∷ xs) h = ap (λ (k : List A). sets k (suc i) xs) (set_out l i x h) ∙ sets-out l (suc i) xs (omega arith)

  pub sets-cut : (l : List A) (i k : ℕ) (xs : List A) → length l ≤ i + k → sets l i (take k xs) ≡ sets l i xs
  sets-cut l i zero xs h = sym (sets-out l i xs (omega arith))
  sets-cut l i (suc k) [] h = refl
  sets-cut l i (suc k) (x ∷ xs) h = sets-cut (set l i x) (suc i) k xs (omega (arith, length-set l i x))

  -- ## From the first place on

  sets-none : (i : ℕ) (xs : List A) → sets [] i xs ≡ []
  sets-none i [] = refl
  sets-none i (x ∷ xs) = sets-none (suc i) xs

  sets_behind : (y : A) (b : List A) (i : ℕ) (xs : List A) → sets (y ∷ b) (suc i) xs ≡ y ∷ sets b i xs
  sets_behind y b i [] = refl
  sets_behind y b i (x ∷ xs) = sets_behind y (set b i x) (suc i) xs

  -- what fits is stored, and what stands behind it is kept
  pub sets_first : (b xs : List A) → sets b 0 xs ≡ take (length b) xs ++ drop (length xs) b
  sets_first [] [] = refl
  sets_first (y ∷ b) [] = refl
  sets_first [] (x ∷ xs) = sets-none 1 xs
  sets_first (y ∷ b) (x ∷ xs) = sets_behind x b 0 xs ∙ ap {B = List A} (λ l. x ∷ l) (sets_first b xs)

  -- so the places that were stored hold as many as there are places
  pub sets-kept : (b xs : List A) → take (min (length xs) (length b)) (sets b 0 xs) ≡ take (length b) xs
  sets-kept b xs =
      let front = take (length b) xs in
      let many : min (length xs) (length b) ≡ length front = omega (arith, length-take (length b) xs) in
      ap (λ l. take (min (length xs) (length b)) l) (sets_first b xs)
      ∙ ap (λ (m : ℕ). take m (front ++ drop (length xs) b)) many
      ∙ take-append_seam front (drop (length xs) b)
