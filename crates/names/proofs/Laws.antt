-- Bits of a word, and words of a set: what the functions on sets of names ask.
-- Assumes nothing.
use Prim.Native.Nat.{ℕ, zero, suc, ◌+◌, ◌*◌, ◌/◌, ◌%◌, ◌^◌, ◌≤◌, ◌<◌}
use mathlib.Core.Path.{◌≡◌, refl, sym, ap, ◌∙◌, subst}
use mathlib.Core.List.{[], ◌∷◌}
use mathlib.Core.Bool.{false}
use native.Mathlib.Omega.{arith}
use native.Mathlib.Nat.{zero-div, mod-eq_of_lt}
use native.Mathlib.Numerals.{add-one}
use lib.Bits.{bit_or}
use lib.Count.{ones_in, ones, ones_step}
use lib.Pow.{pow-lt, shr_lt}
use lib.ListN.{length, get_or, get_or-eq_default}
use lib.Seq.{set_out}
use Rattle.std.specs.List.{sum_by}
use Rattle.std.proofs.lemmas.List.Sums.{sum_by-cons}
use Rattle.rules.specs.Names.{Words, ◌∋◌, add, bit_of, size}

-- ## Bits of a word

pub word-one : (k : ℕ) → k < 64 → (1 * 2 ^ k) % 18446744073709551616 ≡ 2 ^ k
word-one k l = ap (λ n. n % 18446744073709551616) (one-mul (2 ^ k)) ∙ mod-eq_of_lt (pow-lt l)
  where
    one-mul : (n : ℕ) → 1 * n ≡ n
    one-mul n = omega arith

pub ones-in : (k n : ℕ) → n < 2 ^ k → ones n ≡ ones_in k n
unfolding ones ones_in
ones-in zero zero h = refl
ones-in zero (suc n) h = absurd (omega arith)
ones-in (suc k) n h = ones_step n ∙ ap (λ m. n % 2 + m) (ones-in k (n / 2) (shr_lt k 1 (subst (λ (x : ℕ). n < 2 ^ x) (sym (add-one k)) h)))

-- ## Words of a set

module _ (w : Words) (long : length w ≡ 4) (n : ℕ) where
  pub contains-not : 4 ≤ n / 64 → false ≡ (w ∋ n)
  unfolding ◌∋◌ bit_of
  contains-not h = rw (get_or-eq_default w 0 {n = n / 64} (omega arith), zero-div)

  pub insert-none : 4 ≤ n / 64 → w ≡ add w n
  unfolding add
  insert-none h = sym (set_out w (n / 64) (bit_or (get_or w (n / 64) 0) (2 ^ (n % 64))) (omega arith))

-- ## How many names a set has

few-ones : (k w : ℕ) → ones_in k w ≤ k
unfolding ones_in
few-ones zero w = omega arith
few-ones (suc k) w = omega (arith, few-ones k (w / 2))

pub size-is : (w : Words) → sum_by (ones_in 64) w ≡ size w
unfolding size
size-is [] = refl
size-is (w ∷ ws) = sum_by-cons (ones_in 64) w ws ∙ ap (λ n. ones_in 64 w + n) (size-is ws)

pub size-few : (w : Words) → sum_by (ones_in 64) w ≤ 64 * length w
size-few [] = omega arith
size-few (w ∷ ws) = omega (arith, sum_by-cons (ones_in 64) w ws, few-ones 64 w, size-few ws)
