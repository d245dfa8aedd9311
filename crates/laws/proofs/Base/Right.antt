-- A number set right in w columns is blanks and then its decimal digits (`right_is`): one definition of digits, and one function, can serve both.
-- Assumes nothing.
use Prim.Native.Nat.{ℕ, zero, suc, ◌*◌, ◌-◌, ◌/◌, ◌%◌, ◌^◌, ◌≤◌, ◌<◌}
use mathlib.Core.Path.{◌≡◌, refl, sym, ap, ◌∙◌}
use mathlib.Core.Bool.{Bool, true, false}
use mathlib.Core.List.{List, [], ◌∷◌, ◌++◌, append_assoc}
use native.Mathlib.Omega.{arith, pow_step}
use native.Mathlib.Decide.{dec_lt}
use lib.Dec.{eqb}
use lib.ListN.{length, replicate}
use borrow.Author.Tests.{eq-eqb, ne_eqb}
use Rattle.rules.specs.Text.{digit, decimal}
use Rattle.laws.proofs.Base.Digits.{decimal-small, decimal-more, length-small, length_more}

-- column by column, from right to left
pub right : (w n : ℕ) → List ℕ
right zero n = []
right (suc w) n = (elim (eqb (n / 10) 0) as (λ _. List ℕ) [ true ↦ replicate w 32 | false ↦ right w (n / 10) ]) ++ (digit (n % 10) ∷ [])

-- blanks, and then the digits
pub padded : (w n : ℕ) → List ℕ
padded w n = replicate (w - length (decimal n)) 32 ++ decimal n

front : (w n : ℕ) → Bool → List ℕ
front w n b = (elim b as (λ _. List ℕ) [ true ↦ replicate w 32 | false ↦ right w (n / 10) ]) ++ (digit (n % 10) ∷ [])

right-front : (w n : ℕ) → right (suc w) n ≡ front w n (eqb (n / 10) 0)
unfolding right front
right-front w n = refl

right-small : (w n : ℕ) → n < 10 → right (suc w) n ≡ padded (suc w) n
unfolding front padded
right-small w n l =
    right-front w n ∙ ap (front w n) (eq-eqb (n / 10) 0 (omega arith))
    ∙ ap (λ (t : List ℕ). replicate w 32 ++ t) (sym (decimal-small n l))
    ∙ ap (λ (k : ℕ). replicate k 32 ++ decimal n) (let z : w ≡ suc w - length (decimal n) = omega (arith, length-small n l) in z)

right-more : (w n : ℕ) → 10 ≤ n → right w (n / 10) ≡ padded w (n / 10) → right (suc w) n ≡ padded (suc w) n
unfolding front padded
right-more w n l ih =
    right-front w n ∙ ap (front w n) (ne_eqb (n / 10) 0 (λ e. omega arith))
    ∙ ap (λ (t : List ℕ). t ++ (digit (n % 10) ∷ [])) ih
    ∙ append_assoc (replicate (w - length (decimal (n / 10))) 32) (decimal (n / 10)) (digit (n % 10) ∷ [])
    ∙ ap (λ (t : List ℕ). replicate (w - length (decimal (n / 10))) 32 ++ t) (sym (decimal-more n l))
    ∙ ap (λ (k : ℕ). replicate k 32 ++ decimal n) (let z : w - length (decimal (n / 10)) ≡ suc w - length (decimal n) = omega (arith, length_more n l) in z)

pub right_is : (w n : ℕ) → n < 10 ^ suc w → right (suc w) n ≡ padded (suc w) n
right_is zero n h = right-small 0 n (let p : 10 ^ 1 ≡ 10 * 10 ^ 0 = pow_step 10 0 in omega arith)
right_is (suc w) n h = go (dec_lt n 10) (right_is w (n / 10) (let e : 10 ^ suc (suc w) ≡ 10 * 10 ^ suc w = pow_step 10 (suc w) in omega arith))
  where
    go : Dec (n < 10) → right (suc w) (n / 10) ≡ padded (suc w) (n / 10) → right (suc (suc w)) n ≡ padded (suc (suc w)) n
    go (yes l) ih = right-small (suc w) n l
    go (no l) ih = right-more (suc w) n (omega arith) ih
