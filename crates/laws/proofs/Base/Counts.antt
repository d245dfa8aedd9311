-- How often a number stands in a list, where it first stands; how many are left, and what a store does to the count.
-- Assumes nothing.
use mathlib.Core.Path.{◌≡◌, refl, sym, ap, ◌∙◌, subst}
use mathlib.Core.Logic.{◌≢◌}
use mathlib.Core.Bool.{Bool, true, false, not}
use mathlib.Core.List.{List, [], ◌∷◌, ◌++◌}
use Prim.Native.Nat.{ℕ, zero, suc, ◌+◌, ◌≤◌, ◌<◌}
use native.Mathlib.Omega.{arith}
use lib.Dec.{T, eqb, eqb→eq, eqb_refl}
use lib.ListN.{length, get_or, set, replicate}
use Rattle.rules.specs.Diagnostics.{bit}
use Rattle.rules.specs.Count.{count, place}
use Rattle.laws.specs.Left.{fresh, free}

-- the test, decided, with its equation
pub data Eq? (x y : ℕ) : Type 0 where
  same : eqb x y ≡ true → x ≡ y → Eq? x y
  other : eqb x y ≡ false → x ≢ y → Eq? x y

pub eqb_same : (x : ℕ) → eqb x x ≡ true
eqb_same x = go (eqb x x) refl (eqb_refl x)
  where
    go : (b : Bool) → eqb x x ≡ b → T b → eqb x x ≡ true
    go true e t = e
    go false e t = absurd t

pub eq? : (x y : ℕ) → Eq? x y
eq? x y = go (eqb x y) refl
  where
    go : (b : Bool) → eqb x y ≡ b → Eq? x y
    go true e = same e (eqb→eq x y (subst T (sym e) tt))
    go false e = other e λ p. subst T (sym (subst (λ (z : ℕ). eqb x z ≡ true) p (eqb_same x)) ∙ e) tt

pub eqb-true : (x y : ℕ) → eqb x y ≡ true → x ≡ y
eqb-true x y e = eqb→eq x y (subst T (sym e) tt)

pub eqb-false : (x y : ℕ) → eqb x y ≡ false → x ≢ y
eqb-false x y e p = subst T (sym (subst (λ (z : ℕ). eqb x z ≡ true) p (eqb_same x)) ∙ e) tt

pub count-append : (x : ℕ) (s t : List ℕ) → count x (s ++ t) ≡ count x s + count x t
count-append x [] t = omega arith
count-append x (y ∷ s) t = omega (arith, count-append x s t)

pub count-snoc-same : (x : ℕ) (l : List ℕ) → count x (l ++ (x ∷ [])) ≡ suc (count x l)
count-snoc-same x l = rw count-append (rw (eqb_same x) (omega arith))

pub count-snoc-other : (x y : ℕ) (l : List ℕ) → eqb x y ≡ false → count x (l ++ (y ∷ [])) ≡ count x l
count-snoc-other x y l e = rw count-append (rw e (omega arith))

-- a number that stands in the list has a place in it
pub place-lt : (l : List ℕ) (x : ℕ) → 0 < count x l → place l x < length l
place-lt [] x h = omega arith
place-lt (y ∷ l) x h = go (eqb x y) refl (place-lt l x)
  where
    go : (b : Bool) → eqb x y ≡ b → (0 < count x l → place l x < length l) → place (y ∷ l) x < length (y ∷ l)
    go true e r = rw e (omega arith)
    go false e r = rw e (omega (arith, r (let z : 0 < 0 + count x l = rw e at h in omega arith)))

pub place-append : (l t : List ℕ) (x : ℕ) → place l x < length l → place (l ++ t) x ≡ place l x
place-append [] t x h = omega arith
place-append (y ∷ l) t x h = go (eqb x y) refl (place-append l t x)
  where
    go : (b : Bool) → eqb x y ≡ b → (place l x < length l → place (l ++ t) x ≡ place l x) → place (y ∷ (l ++ t)) x ≡ place (y ∷ l) x
    go true e r = rw e
    go false e r = rw e (ap suc (r (let z : suc (place l x) < suc (length l) = rw e at h in omega arith)))

-- a number that is new stands right behind the list
pub place-new : (l t : List ℕ) (x : ℕ) → count x l ≡ 0 → place (l ++ (x ∷ t)) x ≡ length l
place-new [] t x h = rw (eqb_same x)
place-new (y ∷ l) t x h = go (eqb x y) refl (place-new l t x)
  where
    go : (b : Bool) → eqb x y ≡ b → (count x l ≡ 0 → place (l ++ (x ∷ t)) x ≡ length l) → place (y ∷ (l ++ (x ∷ t))) x ≡ length (y ∷ l)
    go true e r = let z : 1 + count x l ≡ 0 = rw e at h in omega arith
    go false e r = rw e (ap suc (r (let z : 0 + count x l ≡ 0 = rw e at h in omega arith)))

-- what does not stand in a list's first part stands behind it
pub place_after : (l t : List ℕ) (x : ℕ) → count x l ≡ 0 → length l ≤ place (l ++ t) x
place_after [] t x h = omega arith
place_after (y ∷ l) t x h = go (eqb x y) refl (place_after l t x)
  where
    go : (b : Bool) → eqb x y ≡ b → (count x l ≡ 0 → length l ≤ place (l ++ t) x) → length (y ∷ l) ≤ place (y ∷ (l ++ t)) x
    go true e r = let z : 1 + count x l ≡ 0 = rw e at h in absurd (omega arith)
    go false e r = let z : 0 + count x l ≡ 0 = rw e at h in rw e (omega (arith, r (omega arith)))

pub place-get : (l : List ℕ) (x : ℕ) → 0 < count x l → get_or l (place l x) 0 ≡ x
place-get [] x h = omega arith
place-get (y ∷ l) x h = go (eq? x y) (place-get l x)
  where
    go : Eq? x y → (0 < count x l → get_or l (place l x) 0 ≡ x) → get_or (y ∷ l) (place (y ∷ l) x) 0 ≡ x
    go (same e p) r = rw e (sym p)
    go (other e p) r = rw e (r (let z : 0 < 0 + count x l = rw e at h in omega arith))

-- to mark one takes it from the count
pub fresh_set : (l : List ℕ) (i v : ℕ) → i < length l → get_or l i 0 ≡ 0 → suc (fresh (set l i (suc v))) ≡ fresh l
fresh_set [] i v h e = omega arith
fresh_set (zero ∷ l) zero v h e = refl
fresh_set (suc y ∷ l) zero v h e = absurd (omega arith)
fresh_set (zero ∷ l) (suc i) v h e = ap suc (fresh_set l i v (omega arith) e)
fresh_set (suc y ∷ l) (suc i) v h e = fresh_set l i v (omega arith) e

pub fresh-set-le : (l : List ℕ) (i v : ℕ) → fresh (set l i (suc v)) ≤ fresh l
fresh-set-le [] i v = omega arith
fresh-set-le (zero ∷ l) zero v = omega arith
fresh-set-le (suc y ∷ l) zero v = omega arith
fresh-set-le (zero ∷ l) (suc i) v = omega (arith, fresh-set-le l i v)
fresh-set-le (suc y ∷ l) (suc i) v = fresh-set-le l i v

pub fresh-zeros : (k : ℕ) → fresh (replicate k 0) ≡ k
fresh-zeros zero = refl
fresh-zeros (suc k) = ap suc (fresh-zeros k)

-- ## The numbers that a test refuses

pub free-same : (k : ℕ) (p q : ℕ → Bool) → ((x : ℕ) → x < k → q x ≡ p x) → free k q ≡ free k p
unfolding free
free-same zero p q h = refl
free-same (suc k) p q h = rw (h k (omega arith)) (ap (λ m. bit (not (p k)) + m) (free-same k p q (λ x l. h x (omega arith))))

pub free_one : (k i : ℕ) (p q : ℕ → Bool) → ((x : ℕ) → x ≢ i → q x ≡ p x) → p i ≡ false → q i ≡ true → i < k → suc (free k q) ≡ free k p
unfolding free
free_one zero i p q h a b l = absurd (omega arith)
free_one (suc k) i p q h a b l = go (eq? k i) (free_one k i p q h a b)
  where
    go : Eq? k i → (i < k → suc (free k q) ≡ free k p) → suc (free (suc k) q) ≡ free (suc k) p
    go (same _ e) r = rw (e, a, b) (omega (arith, free-same i p q (λ x m. h x (omega arith))))
    go (other _ e) r = rw (h k e) (omega (arith, r (omega arith)))

pub free-le : (k : ℕ) (p : ℕ → Bool) → free k p ≤ k
unfolding free
free-le zero p = omega arith
free-le (suc k) p = omega (arith, free-le k p, bit_le (p k))
  where
    bit_le : (b : Bool) → bit (not b) ≤ 1
    bit_le true = omega arith
    bit_le false = omega arith

pub count-get : (l : List ℕ) (p : ℕ) → p < length l → 0 < count (get_or l p 0) l
count-get [] p h = absurd (omega arith)
count-get (y ∷ l) zero h = rw (eqb_same y) (omega arith)
count-get (y ∷ l) (suc p) h = omega (arith, count-get l p (omega arith))

-- what stands once stands only there
pub place_of : (l : List ℕ) (p : ℕ) → p < length l → count (get_or l p 0) l ≤ 1 → place l (get_or l p 0) ≡ p
place_of [] p h c = absurd (omega arith)
place_of (y ∷ l) zero h c = rw (eqb_same y)
place_of (y ∷ l) (suc p) h c = go (eqb (get_or l p 0) y) refl (place_of l p (omega arith))
  where
    go : (b : Bool) → eqb (get_or l p 0) y ≡ b → (count (get_or l p 0) l ≤ 1 → place l (get_or l p 0) ≡ p) → place (y ∷ l) (get_or l p 0) ≡ suc p
    go true e ih = let z : 1 + count (get_or l p 0) l ≤ 1 = rw e at c in absurd (omega (arith, count-get l p (omega arith)))
    go false e ih = let z : 0 + count (get_or l p 0) l ≤ 1 = rw e at c in rw e (ap suc (ih (omega arith)))

pub get-place : (l : List ℕ) (x : ℕ) → place l x < length l → get_or l (place l x) 0 ≡ x
get-place [] x h = absurd (omega arith)
get-place (y ∷ l) x h = go (eq? x y) (get-place l x)
  where
    go : Eq? x y → (place l x < length l → get_or l (place l x) 0 ≡ x) → get_or (y ∷ l) (place (y ∷ l) x) 0 ≡ x
    go (same e p) ih = rw e (sym p)
    go (other e p) ih = rw e (ih (let z : suc (place l x) < suc (length l) = rw e at h in omega arith))
