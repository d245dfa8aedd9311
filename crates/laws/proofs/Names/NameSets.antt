-- What a set of names contains: the empty set nothing, `add` one name more.
-- Assumes nothing.
use mathlib.Core.Path.{◌≡◌, refl, sym, ap, ◌∙◌}
use mathlib.Core.Logic.{◌≢◌}
use mathlib.Core.Bool.{true, false, ◌||◌}
use mathlib.Core.List.{List, []}
use Prim.Native.Nat.{ℕ, zero, suc, ◌+◌, ◌-◌, ◌*◌, ◌/◌, ◌%◌, ◌^◌, ◌<◌, max}
use native.Mathlib.Nat.{div-eq_of_lt, zero-div}
use native.Mathlib.Omega.{arith}
use native.Mathlib.Decide.{dec_lt}
use lib.Bits.{bit_or, or_step, or_shr}
use lib.Pow.{pow-lt, pow-add, shl-shr}
use lib.Arith.{digits_mod}
use lib.Dec.{eqb}
use lib.ListN.{length, get_or, set, length-set}
use lib.Seq.{get_or-set_same, get_or-set_other}
use Rattle.laws.proofs.Base.Counts.{Eq?, same, other, eq?}
use Rattle.rules.specs.Names.{bit_of, empty, add, ◌∋◌ as has}

or-mod2 : (a b : ℕ) → bit_or a b % 2 ≡ max (a % 2) (b % 2)
or-mod2 a b = ap (λ n. n % 2) (or_step a b) ∙ digits_mod (bit_or (a / 2) (b / 2)) (small a b)
  where
    small : (a b : ℕ) → max (a % 2) (b % 2) < 2
    small a b = omega arith

pub or-bit : (a b k : ℕ) → bit_of (bit_or a b) k ≡ max (bit_of a k) (bit_of b k)
unfolding bit_of
or-bit a b k = ap (λ n. n % 2) (or_shr a b k) ∙ or-mod2 (a / 2 ^ k) (b / 2 ^ k)

pow-same : (k : ℕ) → bit_of (2 ^ k) k ≡ 1
unfolding bit_of
pow-same k = ap (λ n. n % 2) (ap (λ n. n / 2 ^ k) (sym (one-mul (2 ^ k))) ∙ shl-shr 1 k)
  where
    one-mul : (n : ℕ) → 1 * n ≡ n
    one-mul n = omega arith

pow-above : (b k : ℕ) → b < k → bit_of (2 ^ b) k ≡ 0
unfolding bit_of
pow-above b k l = ap (λ n. n % 2) (div-eq_of_lt (pow-lt l))

pow_below : (b k : ℕ) → k < b → bit_of (2 ^ b) k ≡ 0
unfolding bit_of
pow_below b k l =
    let e : b ≡ suc (b - suc k) + k = omega arith in
    let d : 2 ^ b ≡ 2 ^ suc (b - suc k) * 2 ^ k = ap (λ n. 2 ^ n) e ∙ pow-add 2 (suc (b - suc k)) k in
    ap (λ n. n % 2) (ap (λ n. n / 2 ^ k) d ∙ shl-shr (2 ^ suc (b - suc k)) k) ∙ even (b - suc k)
  where
    even : (j : ℕ) → 2 ^ suc j % 2 ≡ 0
    even j = omega arith

pow-other : (b k : ℕ) → k ≢ b → bit_of (2 ^ b) k ≡ 0
pow-other b k ne = go (dec_lt b k)
  where
    go : Dec (b < k) → bit_of (2 ^ b) k ≡ 0
    go (yes l) = pow-above b k l
    go (no l) = pow_below b k (omega arith)

bit-lt : (w k : ℕ) → bit_of w k < 2
unfolding bit_of
bit-lt w k = omega arith

-- one name more
pub has-add : (s : List ℕ) (i x : ℕ) → length s ≡ 4 → i < 256 → has (add s i) x ≡ (eqb x i || has s x)
unfolding has add
has-add s i x l h = go (eq? (x / 64) (i / 64)) (eq? (x % 64) (i % 64)) (eq? x i)
  where
    w : ℕ
    w = bit_or (get_or s (i / 64) 0) (2 ^ (i % 64))

    fits : i / 64 < length s
    fits = omega arith

    there : x / 64 ≡ i / 64 → get_or (set s (i / 64) w) (x / 64) 0 ≡ w
    there p = ap (λ n. get_or (set s (i / 64) w) n 0) p ∙ get_or-set_same s (i / 64) w 0 fits

    bits : x / 64 ≡ i / 64 → bit_of (get_or (set s (i / 64) w) (x / 64) 0) (x % 64)
        ≡ max (bit_of (get_or s (x / 64) 0) (x % 64)) (bit_of (2 ^ (i % 64)) (x % 64))
    bits p =
        ap (λ n. bit_of n (x % 64)) (there p) ∙ or-bit (get_or s (i / 64) 0) (2 ^ (i % 64)) (x % 64)
        ∙ ap (λ n. max (bit_of (get_or s n 0) (x % 64)) (bit_of (2 ^ (i % 64)) (x % 64))) (sym p)

    go : Eq? (x / 64) (i / 64) → Eq? (x % 64) (i % 64) → Eq? x i
        → eqb (bit_of (get_or (set s (i / 64) w) (x / 64) 0) (x % 64)) 1 ≡ (eqb x i || eqb (bit_of (get_or s (x / 64) 0) (x % 64)) 1)
    go (same _ p) (same _ q) (same e r) =
        let one : bit_of (2 ^ (i % 64)) (x % 64) ≡ 1 = ap (λ n. bit_of (2 ^ (i % 64)) n) q ∙ pow-same (i % 64) in
        let v : bit_of (get_or (set s (i / 64) w) (x / 64) 0) (x % 64) ≡ 1 = omega (arith, bits p, bit-lt (get_or s (x / 64) 0) (x % 64)) in
        let g : eqb (bit_of (get_or (set s (i / 64) w) (x / 64) 0) (x % 64)) 1 ≡ true = ap (λ n. eqb n 1) v in
        rw e g
    go (same _ p) (same _ q) (other e r) = absurd (r (omega arith))
    go (same _ p) (other _ q) (same e r) = absurd (q (ap (λ n. n % 64) r))
    go (same _ p) (other _ q) (other e r) =
        let none : bit_of (2 ^ (i % 64)) (x % 64) ≡ 0 = pow-other (i % 64) (x % 64) q in
        let v : bit_of (get_or (set s (i / 64) w) (x / 64) 0) (x % 64) ≡ bit_of (get_or s (x / 64) 0) (x % 64) = omega (arith, bits p) in
        let g : eqb (bit_of (get_or (set s (i / 64) w) (x / 64) 0) (x % 64)) 1 ≡ eqb (bit_of (get_or s (x / 64) 0) (x % 64)) 1 = ap (λ n. eqb n 1) v in
        rw e g
    go (other _ p) q (same e r) = absurd (p (ap (λ n. n / 64) r))
    go (other _ p) q (other e r) = rw (e, get_or-set_other s (i / 64) (x / 64) w 0 p)

pub length-add : (s : List ℕ) (i : ℕ) → length (add s i) ≡ length s
unfolding add
length-add s i = length-set s (i / 64) (bit_or (get_or s (i / 64) 0) (2 ^ (i % 64)))

pub empty-get : (q : ℕ) → get_or empty q 0 ≡ length {A = ℕ} []
empty-get zero = refl
empty-get (suc zero) = refl
empty-get (suc (suc zero)) = refl
empty-get (suc (suc (suc zero))) = refl
empty-get (suc (suc (suc (suc q)))) = refl

pub has-empty : (x : ℕ) → has empty x ≡ false
unfolding has bit_of
has-empty x = ap (λ w. eqb (w / 2 ^ (x % 64) % 2) 1) (empty-get (x / 64)) ∙ ap (λ n. eqb (n % 2) 1) (zero-div (2 ^ (x % 64)))
