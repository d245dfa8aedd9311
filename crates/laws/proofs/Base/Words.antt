-- A word whose bits are tests of a list's entries: what its lowest bit says, and what it is without that bit. A loop over the entries that pass reads them off
-- the word, lowest bit first.
-- Assumes nothing.
use Prim.Native.Nat.{ℕ, zero, suc, ◌+◌, ◌-◌, ◌*◌, ◌/◌, ◌%◌, ◌^◌, ◌≤◌, ◌<◌}
use mathlib.Core.Path.{◌≡◌, refl, sym, ap, ◌∙◌}
use mathlib.Core.Bool.{Bool, true, false}
use native.Mathlib.Nat.{pow-suc, mul_assoc, mul_comm, mul-suc, mul-div_cancel}
use native.Mathlib.Omega.{arith}
use lib.Count.{under, count_trailing_zeros}
use lib.Pow.{pow-add, pow_pos}
use Rattle.rules.specs.Diagnostics.{bit}
use Rattle.laws.specs.Word.{word_of}
use Rattle.laws.proofs.Base.Tests.{both}

-- of n entries, with those from k on in a word: entry j is the next that passes, and without its bit the word is `rest`, which has those behind it
pub record NextOf (p : ℕ → Bool) (k n rest j : ℕ) : Type 0 where
  pub from : k ≤ j
  pub within : j < n
  pub before : (i : ℕ) → k ≤ i → i < j → p i ≡ false
  pub passes : p j ≡ true
  pub behind : rest ≡ 2 ^ (j + 1) * word_of p (j + 1) (n - (j + 1))

-- the same of a word whose lowest bit is entry k's: z entries fail, the one behind them passes, and behind that one the word, shifted, goes on
pub record NextShifted (p : ℕ → Bool) (k n w z : ℕ) : Type 0 where
  pub within : k + z < n
  pub before : (j : ℕ) → j < z → p (k + j) ≡ false
  pub passes : p (k + z) ≡ true
  pub behind : w / 2 ^ z / 2 ≡ word_of p (k + z + 1) (n - (k + z + 1))

-- of m entries from k on, with the first one's bit the lowest of the word w: z of these fail, the one behind them passes, and then come the others
record Low (p : ℕ → Bool) (k m w z : ℕ) : Type 0 where
  within : z < m
  before : (i : ℕ) → i < z → p (k + i) ≡ false
  passes : p (k + z) ≡ true
  behind : w ≡ 2 ^ z * (1 + 2 * word_of p (k + z + 1) (m - (z + 1)))

pub bit_le : (b : Bool) → bit b ≤ 1
bit_le true = omega arith
bit_le false = omega arith

-- a word with a 0 below it
doubled : (k x v : ℕ) → v ≡ 2 ^ k * x → 2 * v ≡ 2 ^ suc k * x
doubled k x v e = ap (λ (y : ℕ). 2 * y) e ∙ sym (mul_assoc 2 (2 ^ k) x) ∙ ap (λ (y : ℕ). y * x) (mul_comm 2 (2 ^ k) ∙ sym (pow-suc 2 k))

-- k zeros below a word, which is 0 as before, or not
is-none : (k v : ℕ) → 2 ^ k * v ≡ 0 → v ≡ 0
is-none k zero h = refl
is-none k (suc v) h = absurd (omega (arith, h, pow_pos k, mul-suc (2 ^ k) v))

not-none : (k v : ℕ) → 0 < 2 ^ k * v → 0 < v
not-none k zero h = absurd (omega (arith, h))
not-none k (suc v) h = omega arith

-- and the zeros below its lowest bit are k more
zeros-shifted : (k d v : ℕ) → count_trailing_zeros (k + d) (2 ^ k * v) ≡ k + count_trailing_zeros d v
unfolding count_trailing_zeros
zeros-shifted zero d v =
    let w : 2 ^ 0 * v ≡ v = omega arith in
    let n : 0 + d ≡ d = omega arith in
    let m : 0 + count_trailing_zeros d v ≡ count_trailing_zeros d v = omega arith in
    rw (w, n, m) refl
zeros-shifted (suc k) d v =
    let w : 2 ^ suc k * v ≡ 2 * (2 ^ k * v) = sym (doubled k v _ refl) in
    let n : suc k + d ≡ suc (k + d) = omega arith in
    let m : suc k + count_trailing_zeros d v ≡ suc (k + count_trailing_zeros d v) = omega arith in
    let even : 2 * (2 ^ k * v) % 2 ≡ 0 = omega arith in
    let half : 2 * (2 ^ k * v) / 2 ≡ 2 ^ k * v = omega arith in
    rw (w, n, m, even, half) (ap suc (zeros-shifted k d v))

-- the lowest bit taken away
without : (k z v x rest : ℕ) → v ≡ 2 ^ z * (1 + 2 * x) → rest + 2 ^ (k + z) ≡ 2 ^ k * v → rest ≡ 2 ^ (k + z + 1) * x
without k z v x rest e r =
    let whole = ap (λ (y : ℕ). 2 ^ k * y) e ∙ sym (mul_assoc (2 ^ k) (2 ^ z) (1 + 2 * x)) ∙ ap (λ (y : ℕ). y * (1 + 2 * x)) (sym (pow-add 2 k z)) in
    let next : 2 ^ (k + z + 1) ≡ 2 ^ (k + z) * 2 = let o : k + z + 1 ≡ suc (k + z) = omega arith in rw o (pow-suc 2 (k + z)) in
    rw next (omega (arith, r, whole))

-- a word shifted behind the zeros below it
shifted : (z y : ℕ) → 2 ^ z * y / 2 ^ z ≡ y
shifted z y = ap (λ (x : ℕ). x / 2 ^ z) (mul_comm (2 ^ z) y) ∙ mul-div_cancel y (pow_pos z)

module _ (p : ℕ → Bool) where
  pub word_lt : (k m : ℕ) → word_of p k m < 2 ^ m
  unfolding word_of
  word_lt k zero = omega arith
  word_lt k (suc m) = let h = word_lt (suc k) m in rw (pow-suc 2 m) (omega (arith, bit_le (p k)))

  -- one entry more, before the others
  pub word-down : (k n : ℕ) → 0 < k → k ≤ n → 2 * word_of p k (n - k) + bit (p (k - 1)) ≡ word_of p (k - 1) (n - (k - 1))
  unfolding word_of
  word-down zero n l h = absurd (omega arith)
  word-down (suc k) n l h =
      let here : suc k - 1 ≡ k = omega arith in
      let more : n - k ≡ suc (n - suc k) = omega arith in
      rw (here, more) (omega arith)

  -- the word is 0: no entry passes
  pub word_none : (k m : ℕ) → word_of p k m ≡ 0 → (j : ℕ) → j < m → p (k + j) ≡ false
  unfolding word_of
  word_none k zero h j l = absurd (omega arith)
  word_none k (suc m) h zero l =
      let z : k + 0 ≡ k = omega arith in
      rw z (both (p k) (λ e. absurd (let g : bit (p k) + 2 * word_of p (suc k) m ≡ 0 = h in omega (arith, rw e at g))) (λ e. e))
  word_none k (suc m) h (suc j) l =
      let z : suc k + j ≡ k + suc j = omega arith in
      rw z at (word_none (suc k) m (omega (arith, h)) j (omega arith))

  -- the same of a word that has the bits in their places
  pub none_left : (k m : ℕ) → 2 ^ k * word_of p k m ≡ 0 → (j : ℕ) → j < m → p (k + j) ≡ false
  none_left k m h = word_none k m (is-none k (word_of p k m) h)

  pub word_same : (q : ℕ → Bool) (k m : ℕ) → ((j : ℕ) → k ≤ j → j < k + m → p j ≡ q j) → word_of p k m ≡ word_of q k m
  unfolding word_of
  word_same q k zero h = refl
  word_same q k (suc m) h = rw (h k (omega arith) (omega arith), word_same q (suc k) m (λ j a b. h j (omega arith) (omega arith)))

  -- one entry more at the low end
  low_step : (k m w t : ℕ) (b : Bool) → p k ≡ b → w ≡ word_of p (suc k) m → (0 < w → Low p (suc k) m w t) → 0 < bit b + 2 * w
      → Low p k (suc m) (bit b + 2 * w) (under ((bit b + 2 * w) % 2) t)
  low_step k m w t true e q n h =
      let odd : (1 + 2 * w) % 2 ≡ 1 = omega arith in
      let here : k + 0 ≡ k = omega arith in
      let next : k + 0 + 1 ≡ suc k = omega arith in
      let less : suc m - (0 + 1) ≡ m = omega arith in
      rw odd (record { within = omega arith; before = λ i l. absurd (omega arith); passes = rw here e; behind = rw (next, less) (omega (arith, q)) })
  low_step k m w t false e q n h =
      let even : (0 + 2 * w) % 2 ≡ 0 = omega arith in
      let a = n (omega (arith, h)) in
      let here : k + suc t ≡ suc k + t = omega arith in
      let less : suc m - (suc t + 1) ≡ m - (t + 1) = omega arith in
      rw even (record {
        within = omega (arith, a.within);
        before = below a.before;
        passes = rw here a.passes;
        behind = rw (here, less) (twice (1 + 2 * word_of p (suc k + t + 1) (m - (t + 1))) a.behind);
      })
    where
      below : ((i : ℕ) → i < t → p (suc k + i) ≡ false) → (i : ℕ) → i < suc t → p (k + i) ≡ false
      below f zero l = let z : k + 0 ≡ k = omega arith in rw z e
      below f (suc i) l = let z : k + suc i ≡ suc k + i = omega arith in rw z (f i (omega arith))

      twice : (x : ℕ) → w ≡ 2 ^ t * x → 0 + 2 * w ≡ 2 ^ suc t * x
      twice x f = let z : 0 + 2 * w ≡ 2 * w = omega arith in rw z (doubled t x w f)

  low_of : (d k m : ℕ) → m ≤ d → 0 < word_of p k m → Low p k m (word_of p k m) (count_trailing_zeros d (word_of p k m))
  unfolding word_of count_trailing_zeros
  low_of d k zero l h = absurd (omega arith)
  low_of zero k (suc m) l h = absurd (omega arith)
  low_of (suc d) k (suc m) l h =
      let half : (bit (p k) + 2 * word_of p (suc k) m) / 2 ≡ word_of p (suc k) m = omega (arith, bit_le (p k)) in
      rw half (low_step k m (word_of p (suc k) m) _ (p k) refl refl (low_of d (suc k) m (omega arith)) h)

  -- the lowest bit of a word that is not 0, and the word without it
  pub next_of : (k n w rest j : ℕ) → n ≤ 64 → k ≤ n → w ≡ 2 ^ k * word_of p k (n - k) → 0 < w → j ≡ count_trailing_zeros 64 w → rest + 2 ^ j ≡ w
      → NextOf p k n rest j
  next_of k n w rest j few upto e some q r =
      let d = 64 - k in
      let v = word_of p k (n - k) in
      let all : k + d ≡ 64 = omega arith in
      let z = count_trailing_zeros d v in
      let at : j ≡ k + z = rw (e, ← all) at q ∙ zeros-shifted k d v in
      let a = low_of d k (n - k) (omega arith) (not-none k v (rw e at some)) in
      let next : k + z + 1 ≡ j + 1 = omega arith in
      let less : n - k - (z + 1) ≡ n - (j + 1) = omega arith in
      record {
        from = omega arith;
        within = omega (arith, a.within);
        before = λ i f l. (let b = a.before (i - k) (omega arith) in let o : k + (i - k) ≡ i = omega arith in rw o at b);
        passes = rw at a.passes;
        behind = rw (next, less) at (without k z v (word_of p (k + z + 1) (n - k - (z + 1))) rest a.behind (rw (at, e) at r));
      }

  -- the zeros at the low end of a word that is not 0, and the word shifted behind them
  pub next_shifted : (k n w z : ℕ) → n ≤ 64 → w ≡ word_of p k (n - k) → (w ≡ 0 → ⊥) → z ≡ count_trailing_zeros 64 w → NextShifted p k n w z
  next_shifted k n w z few e some q =
      let a : Low p k (n - k) w z = rw (q, e) (low_of 64 k (n - k) (omega arith) (rw e at (positive w some))) in
      let rest : n - k - (z + 1) ≡ n - (k + z + 1) = omega arith in
      let x = word_of p (k + z + 1) (n - k - (z + 1)) in
      let half : (1 + 2 * x) / 2 ≡ x = omega arith in
      record {
        within = omega (arith, a.within);
        before = a.before;
        passes = a.passes;
        behind = rw rest at (ap (λ (y : ℕ). y / 2 ^ z / 2) a.behind ∙ ap (λ (y : ℕ). y / 2) (shifted z (1 + 2 * x)) ∙ half);
      }
    where
      positive : (x : ℕ) → (x ≡ 0 → ⊥) → 0 < x
      positive zero h = absurd (h refl)
      positive (suc x) h = omega arith
