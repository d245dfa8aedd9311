-- Decimal numbers of any width, by two equations: a number below 10 is its digit (`decimal-small`), any other is what stands before its last digit, and that
-- digit (`decimal-more`). A number below 10 ^ w has at most w digits (`short`). Two numbers never look alike (`decimal-apart`).
-- Assumes nothing.
use Prim.Native.Nat.{ℕ, zero, suc, ◌+◌, ◌*◌, ◌/◌, ◌%◌, ◌^◌, ◌-◌, ◌≤◌, ◌<◌}
use mathlib.Core.Path.{◌≡◌, refl, sym, ap, ◌∙◌}
use mathlib.Core.Bool.{Bool, true, false}
use mathlib.Core.List.{List, [], ◌∷◌, ◌++◌}
use native.Mathlib.Omega.{arith, pow_step}
use native.Mathlib.Decide.{dec_lt}
use lib.Dec.{ltb}
use lib.ListN.{length, length-append}
use borrow.Author.Tests.{lt-ltb, le-ltb}
use Rattle.rules.specs.Text.{digit, digits_by, decimal, spaced}

-- ## The two equations

-- one step, by what the test says
by : (f n : ℕ) → Bool → List ℕ
by f n b = (elim b as (λ _. List ℕ) [ true ↦ [] | false ↦ digits_by f (n / 10) ]) ++ (digit (n % 10) ∷ [])

step : (f n : ℕ) → digits_by (suc f) n ≡ by f n (ltb n 10)
unfolding digits_by by
step f n = refl

step_small : (f n : ℕ) → n < 10 → digits_by (suc f) n ≡ digit (n % 10) ∷ []
unfolding by
step_small f n h = step f n ∙ ap (by f n) (lt-ltb n 10 h)

step-more : (f n : ℕ) → 10 ≤ n → digits_by (suc f) n ≡ digits_by f (n / 10) ++ (digit (n % 10) ∷ [])
unfolding by
step-more f n h = step f n ∙ ap (by f n) (le-ltb n 10 h)

-- the fuel does not show
same : (f g n : ℕ) → n < f → n < g → digits_by f n ≡ digits_by g n
same zero g n h k = absurd (omega arith)
same (suc f) zero n h k = absurd (omega arith)
same (suc f) (suc g) n h k = go (dec_lt n 10) (λ l. same f g (n / 10) (omega arith) (omega arith))
  where
    go : Dec (n < 10) → (10 ≤ n → digits_by f (n / 10) ≡ digits_by g (n / 10)) → digits_by (suc f) n ≡ digits_by (suc g) n
    go (yes l) ih = step_small f n l ∙ sym (step_small g n l)
    go (no l) ih =
        let m : 10 ≤ n = omega arith in
        step-more f n m ∙ ap (λ (d : List ℕ). d ++ (digit (n % 10) ∷ [])) (ih m) ∙ sym (step-more g n m)

pub decimal-small : (n : ℕ) → n < 10 → decimal n ≡ digit (n % 10) ∷ []
unfolding decimal
decimal-small n h = step_small n n h

pub decimal-more : (n : ℕ) → 10 ≤ n → decimal n ≡ decimal (n / 10) ++ (digit (n % 10) ∷ [])
unfolding decimal
decimal-more n h = step-more n n h ∙ ap (λ (d : List ℕ). d ++ (digit (n % 10) ∷ [])) (same n (suc (n / 10)) (n / 10) (omega arith) (omega arith))

-- ## Lengths

pub length-small : (n : ℕ) → n < 10 → length (decimal n) ≡ 1
length-small n h = ap length (decimal-small n h)

pub length_more : (n : ℕ) → 10 ≤ n → length (decimal n) ≡ length (decimal (n / 10)) + 1
length_more n h = ap length (decimal-more n h) ∙ length-append (decimal (n / 10)) (digit (n % 10) ∷ [])

-- a number below 10 ^ w has at most w digits
pub short : (w n : ℕ) → n < 10 ^ suc w → length (decimal n) ≤ suc w
short zero n h = let e : length (decimal n) ≡ 1 = length-small n (let p : 10 ^ 1 ≡ 10 * 10 ^ 0 = pow_step 10 0 in omega arith) in omega arith
short (suc w) n h = go (dec_lt n 10) (short w (n / 10) (let e : 10 ^ suc (suc w) ≡ 10 * 10 ^ suc w = pow_step 10 (suc w) in omega arith))
  where
    go : Dec (n < 10) → length (decimal (n / 10)) ≤ suc w → length (decimal n) ≤ suc (suc w)
    go (yes l) ih = omega (arith, length-small n l)
    go (no l) ih = omega (arith, length_more n (omega arith), ih)

pub byte-short : (n : ℕ) → n < 256 → length (decimal n) ≤ 3
byte-short n h = short 2 n (omega arith)

pub pair-short : (n : ℕ) → n < 65536 → length (decimal n) ≤ 5
pair-short n h = short 4 n (omega arith)

pub word-short : (n : ℕ) → n < 2 ^ 64 → length (decimal n) ≤ 20
word-short n h = short 19 n (omega arith)

pub spaced-length : (n : ℕ) → length (spaced n) ≡ 1 + length (decimal n)
unfolding spaced
spaced-length n = omega arith

-- ## Read back

-- what digits say, from the first on
pub read : ℕ → List ℕ → ℕ
read n [] = n
read n (d ∷ ds) = read (10 * n + (d - 48)) ds

read-append : (n : ℕ) (xs ys : List ℕ) → read n (xs ++ ys) ≡ read (read n xs) ys
unfolding read
read-append n [] ys = refl
read-append n (x ∷ xs) ys = read-append (10 * n + (x - 48)) xs ys

read_back : (f n : ℕ) → n < f → read 0 (digits_by f n) ≡ n
unfolding read
read_back zero n h = absurd (omega arith)
read_back (suc f) n h = go (dec_lt n 10) (λ l. read_back f (n / 10) (omega arith))
  where
    go : Dec (n < 10) → (10 ≤ n → read 0 (digits_by f (n / 10)) ≡ n / 10) → read 0 (digits_by (suc f) n) ≡ n
    go (yes l) ih = ap (read 0) (step_small f n l) ∙ (let z : 10 * 0 + (48 + n % 10 - 48) ≡ n = omega arith in z)
    go (no l) ih =
        ap (read 0) (step-more f n (omega arith))
        ∙ read-append 0 (digits_by f (n / 10)) (digit (n % 10) ∷ [])
        ∙ ap (λ (k : ℕ). 10 * k + (48 + n % 10 - 48)) (ih (omega arith))
        ∙ (let z : 10 * (n / 10) + (48 + n % 10 - 48) ≡ n = omega arith in z)

pub decimal-read : (n : ℕ) → read 0 (decimal n) ≡ n
unfolding decimal
decimal-read n = read_back (suc n) n (omega arith)

pub decimal-apart : (m n : ℕ) → decimal m ≡ decimal n → m ≡ n
decimal-apart m n e = sym (decimal-read m) ∙ ap (read 0) e ∙ decimal-read n
