-- About the definitions of the rules alone: sets of any number of words (`has-added`, `has-none`), and tests over the numbers below a bound.
-- Assumes nothing.
use Prim.Native.Nat.{ℕ, zero, suc, ◌/◌, ◌%◌, ◌^◌, ◌<◌}
use mathlib.Core.Path.{◌≡◌, refl, sym, ap, ◌∙◌}
use mathlib.Core.Bool.{Bool, true, false, ◌||◌}
use native.Mathlib.Omega.{arith}
use native.Mathlib.Nat.{zero-div}
use lib.Bits.{bit_or}
use lib.Dec.{eqb}
use lib.ListN.{length, get_or, set, replicate}
use lib.Seq.{get_or-set_same, get_or-set_other}
use borrow.Author.Tests.{eq-eqb, ne_eqb, eqb-true, eqb-false}
use Rattle.rules.specs.Base.{some}
use Rattle.rules.specs.Names.{Words, bit_of, add, ◌∋◌}
use Rattle.laws.proofs.Base.Counts.{Eq?, same, other, eq?}
use Rattle.laws.proofs.Base.Lists.{zeros-get}
use Rattle.laws.proofs.Base.Tests.{both}
use Rattle.scratch.proofs.OneMore.{bit-set}

-- ## Sets of any number of words

pub has-added : (w : Words) (i x : ℕ) → i / 64 < length w → (add w i ∋ x) ≡ (eqb x i || (w ∋ x))
unfolding add ◌∋◌
has-added w i x h = go (eq? (x / 64) (i / 64))
  where
    v : ℕ
    v = bit_or (get_or w (i / 64) 0) (2 ^ (i % 64))

    near : x / 64 ≡ i / 64 → eqb (x % 64) (i % 64) ≡ eqb x i
    near p = both (eqb x i)
        (λ t. let z = eqb-true x i t in eq-eqb (x % 64) (i % 64) (omega arith) ∙ sym t)
        (λ t. let z = eqb-false x i t in ne_eqb (x % 64) (i % 64) (λ u. z (omega arith)) ∙ sym t)

    go : Eq? (x / 64) (i / 64) → eqb (bit_of (get_or (set w (i / 64) v) (x / 64) 0) (x % 64)) 1 ≡ (eqb x i || eqb (bit_of (get_or w (x / 64) 0) (x % 64)) 1)
    go (same _ p) = rw (p, get_or-set_same w (i / 64) v 0 h, ← (near p)) (bit-set (get_or w (i / 64) 0) (i % 64) (x % 64) (omega arith) (omega arith))
    go (other _ p) = rw (get_or-set_other w (i / 64) (x / 64) v 0 p, ne_eqb x i (λ e. p (ap (λ (n : ℕ). n / 64) e)))

pub has-none : (n x : ℕ) → (replicate n 0 ∋ x) ≡ false
unfolding ◌∋◌ bit_of
has-none n x = ap (λ w. eqb (w / 2 ^ (x % 64) % 2) 1) (zeros-get n (x / 64)) ∙ ap (λ m. eqb (m % 2) 1) (zero-div (2 ^ (x % 64)))

-- ## Tests over the numbers below a bound

pub some_same : (k : ℕ) (p q : ℕ → Bool) → ((j : ℕ) → j < k → p j ≡ q j) → some k p ≡ some k q
unfolding some
some_same zero p q h = refl
some_same (suc k) p q h =
    ap (λ (b : Bool). elim b as (λ _. Bool) [ true ↦ true | false ↦ some k p ]) (h k (omega arith))
    ∙ ap (λ (t : Bool). elim (q k) as (λ _. Bool) [ true ↦ true | false ↦ t ]) (some_same k p q (λ j l. h j (omega arith)))
