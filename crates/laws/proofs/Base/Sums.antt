-- Sums over the numbers below a bound, and over the entries of a list; what stands once in a list of numbers below n makes it no longer than n.
-- Assumes nothing.
use mathlib.Core.Path.{◌≡◌, refl, sym, ap, ◌∙◌}
use mathlib.Core.Logic.{◌≢◌}
use mathlib.Core.Bool.{Bool, true}
use mathlib.Core.List.{List, [], ◌∷◌, ◌++◌}
use Prim.Native.Nat.{ℕ, zero, suc, ◌*◌, ◌+◌, ◌≤◌, ◌<◌}
use native.Mathlib.Omega.{arith}
use lib.Dec.{eqb}
use lib.ListN.{length}
use Rattle.rules.specs.Diagnostics.{bit}
use Rattle.rules.specs.Count.{count}
use Rattle.laws.proofs.Base.Counts.{Eq?, same, other, eq?, eqb_same}
use Rattle.laws.proofs.Base.Tests.{bit_le}

unfoldable pub sum_to : ℕ → (ℕ → ℕ) → ℕ
sum_to zero h = 0
sum_to (suc k) h = sum_to k h + h k

pub sum_same : (k : ℕ) (a b : ℕ → ℕ) → ((x : ℕ) → x < k → a x ≡ b x) → sum_to k a ≡ sum_to k b
unfolding sum_to
sum_same zero a b h = refl
sum_same (suc k) a b h = rw (h k (omega arith), sum_same k a b (λ x l. h x (omega arith)))

pub sum-bits : (k : ℕ) (p : ℕ → Bool) → sum_to k (λ x. bit (p x)) ≤ k
unfolding sum_to
sum-bits zero p = omega arith
sum-bits (suc k) p = omega (arith, sum-bits k p, bit_le (p k))

pub sum-add : (k : ℕ) (a b : ℕ → ℕ) → sum_to k (λ x. a x + b x) ≡ sum_to k a + sum_to k b
unfolding sum_to
sum-add zero a b = refl
sum-add (suc k) a b = omega (arith, sum-add k a b)

pub sum-none : (k : ℕ) (a : ℕ → ℕ) → ((x : ℕ) → x < k → a x ≡ 0) → sum_to k a ≡ 0
unfolding sum_to
sum-none zero a h = refl
sum-none (suc k) a h = omega (arith, h k (omega arith), sum-none k a (λ x l. h x (omega arith)))

pub sum_one : (k y : ℕ) (a : ℕ → ℕ) → y < k → sum_to k (λ x. bit (eqb x y) * a x) ≡ a y
unfolding sum_to
sum_one zero y a l = absurd (omega arith)
sum_one (suc k) y a l = go (eq? k y) (sum_one k y a)
  where
    miss : (x : ℕ) → x ≢ y → Eq? x y → bit (eqb x y) * a x ≡ 0
    miss x ne (same _ p) = absurd (ne p)
    miss x ne (other e _) = rw e (omega arith)

    go : Eq? k y → (y < k → sum_to k (λ x. bit (eqb x y) * a x) ≡ a y) → sum_to k (λ x. bit (eqb x y) * a x) + bit (eqb k y) * a k ≡ a y
    go (same e p) ih = let q : a k ≡ a y = ap a p in rw e (omega (arith, sum-none k (λ x. bit (eqb x y) * a x) (λ x m. miss x (omega arith) (eq? x y))))
    go (other e p) ih = rw e (omega (arith, ih (omega arith)))

unfoldable pub weight : (ℕ → ℕ) → List ℕ → ℕ
weight h [] = 0
weight h (x ∷ l) = h x + weight h l

pub weight-append : (h : ℕ → ℕ) (l t : List ℕ) → weight h (l ++ t) ≡ weight h l + weight h t
unfolding weight
weight-append h [] t = omega arith
weight-append h (x ∷ l) t = omega (arith, weight-append h l t)

pub weight-sum : (n : ℕ) (h : ℕ → ℕ) (l : List ℕ) → ((x : ℕ) → 0 < count x l → x < n) → weight h l ≡ sum_to n (λ x. count x l * h x)
unfolding weight
weight-sum n h [] b = sym (sum-none n (λ x. 0 * h x) (λ x _. omega arith))
weight-sum n h (y ∷ l) b =
    let e₁ : weight h l ≡ sum_to n (λ x. count x l * h x) = weight-sum n h l (λ x m. b x (omega arith)) in
    let e₂ : sum_to n (λ x. (bit (eqb x y) + count x l) * h x) ≡ sum_to n (λ x. bit (eqb x y) * h x + count x l * h x) =
    sum_same n (λ x. (bit (eqb x y) + count x l) * h x) (λ x. bit (eqb x y) * h x + count x l * h x) (λ x _. omega arith) in
    omega (
      arith,
      e₁,
      e₂,
      sum-add n (λ x. bit (eqb x y) * h x) (λ x. count x l * h x),
      sum_one n y h (b y (let z : 0 < bit true + count y l = omega arith in rw (eqb_same y) z)),
    )

pub weight-one : (l : List ℕ) → length l ≡ weight (λ _. 1) l
unfolding weight
weight-one [] = refl
weight-one (x ∷ l) = omega (arith, weight-one l)

pub sum-le : (k : ℕ) (a b : ℕ → ℕ) → ((x : ℕ) → x < k → a x ≤ b x) → sum_to k a ≤ sum_to k b
unfolding sum_to
sum-le zero a b h = omega arith
sum-le (suc k) a b h = omega (arith, h k (omega arith), sum-le k a b (λ x l. h x (omega arith)))

pub sum-const : (k c : ℕ) → sum_to k (λ _. c) ≡ k * c
unfolding sum_to
sum-const zero c = omega arith
sum-const (suc k) c = omega (arith, sum-const k c)

-- a sum from its first number on, and in two parts
pub sum_first : (n : ℕ) (a : ℕ → ℕ) → sum_to (suc n) a ≡ a 0 + sum_to n (λ k. a (suc k))
unfolding sum_to
sum_first zero a = omega arith
sum_first (suc n) a = omega (arith, sum_first n a)

pub sum-split : (m n : ℕ) (a : ℕ → ℕ) → sum_to (m + n) a ≡ sum_to m a + sum_to n (λ k. a (m + k))
unfolding sum_to
sum-split m zero a = let e : m + 0 ≡ m = omega arith in rw e (omega arith)
sum-split m (suc n) a = let e : m + suc n ≡ suc (m + n) = omega arith in rw e (omega (arith, sum-split m n a))

-- what is 0 from m on adds nothing
pub sum-cut : (m n : ℕ) (a : ℕ → ℕ) → m ≤ n → ((x : ℕ) → m ≤ x → a x ≡ 0) → sum_to n a ≡ sum_to m a
unfolding sum_to
sum-cut m zero a l h = let e : 0 ≡ m = omega arith in ap (λ k. sum_to k a) e
sum-cut m (suc n) a l h = go (eq? m (suc n)) (sum-cut m n a)
  where
    go : Eq? m (suc n) → (m ≤ n → ((x : ℕ) → m ≤ x → a x ≡ 0) → sum_to n a ≡ sum_to m a) → sum_to n a + a n ≡ sum_to m a
    go (same _ e) ih = ap (λ k. sum_to k a) (sym e)
    go (other _ e) ih = omega (arith, ih (omega arith) h, h n (omega arith))

-- as many numbers below n as stand in a list, each once, are at most n
pub once-few : (n : ℕ) (l : List ℕ) → ((x : ℕ) → count x l ≤ 1) → ((x : ℕ) → 0 < count x l → x < n) → length l ≤ n
once-few n l once below =
    let e : length l ≡ sum_to n (λ x. count x l * 1) = weight-one l ∙ weight-sum n (λ _. 1) l below in
    let m : sum_to n (λ x. count x l * 1) ≤ sum_to n (λ _. 1) = sum-le n (λ x. count x l * 1) (λ _. 1) (λ x _. omega (arith, once x)) in
    omega (arith, sum-const n 1)
