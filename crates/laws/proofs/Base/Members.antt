-- What stands in a list, `In x l`: in a list with a head, in two lists joined, in a list of one entry for each number below n; and the test for it.
-- Assumes nothing.
use mathlib.Core.Path.{◌≡◌, refl, sym, ap, ◌∙◌}
use mathlib.Core.Logic.{◌⊎◌, inl, inr}
use mathlib.Core.Bool.{Bool, true, false}
use mathlib.Core.List.{List, [], ◌∷◌, ◌++◌}
use Prim.Native.Nat.{ℕ, zero, suc, ◌+◌, ◌<◌}
use native.Mathlib.Omega.{arith}
use native.Mathlib.Decide.{dec_lt}
use lib.Dec.{eqb}
use Rattle.rules.specs.Base.{over, any_of}
use Rattle.rules.specs.Count.{count}
use Rattle.rules.specs.Reach.{In}
use Rattle.laws.specs.Skip.{seen}
use Rattle.laws.proofs.Base.Counts.{Eq?, same, other, eq?, eqb_same, count-append}

pub in-none : {A : Type 0} (x : ℕ) → In x [] → A
in-none x h = absurd (omega arith)

pub in_head : (x : ℕ) (l : List ℕ) → In x (x ∷ l)
in_head x l = rw (eqb_same x) (omega arith)

pub in_tail : (x y : ℕ) (l : List ℕ) → In x l → In x (y ∷ l)
in_tail x y l h = omega arith

pub in-cons : (x y : ℕ) (l : List ℕ) → In x (y ∷ l) → (x ≡ y) ⊎ In x l
in-cons x y l h = go (eq? x y)
  where
    go : Eq? x y → (x ≡ y) ⊎ In x l
    go (same _ e) = inl e
    go (other e _) = inr (let z : 0 < 0 + count x l = rw e at h in omega arith)

pub in_one : (x y : ℕ) → In x (y ∷ []) → x ≡ y
in_one x y h = go (in-cons x y [] h)
  where
    go : (x ≡ y) ⊎ In x [] → x ≡ y
    go (inl e) = e
    go (inr i) = in-none x i

pub in_left : (x : ℕ) (a b : List ℕ) → In x a → In x (a ++ b)
in_left x a b h = omega (arith, count-append x a b)

pub in_right : (x : ℕ) (a b : List ℕ) → In x b → In x (a ++ b)
in_right x a b h = omega (arith, count-append x a b)

pub in-cases : (x : ℕ) (a b : List ℕ) → In x (a ++ b) → In x a ⊎ In x b
in-cases x a b h = go (dec_lt 0 (count x a))
  where
    go : Dec (0 < count x a) → In x a ⊎ In x b
    go (yes l) = inl l
    go (no l) = inr (omega (arith, count-append x a b))

-- ## One entry for each number below n

module _ (f : ℕ → ℕ) where
  pub in-over : (n x : ℕ) → In x (over n (λ j. f j ∷ [])) → (j : ℕ) × (j < n) × (x ≡ f j)
  unfolding over
  in-over zero x h = in-none x h
  in-over (suc n) x h = go (in-over n x) (in-cases x (over n (λ j. f j ∷ [])) (f n ∷ []) h)
    where
      go : (In x (over n (λ j. f j ∷ [])) → (j : ℕ) × (j < n) × (x ≡ f j)) → In x (over n (λ j. f j ∷ [])) ⊎ In x (f n ∷ []) → (j : ℕ) × (j < suc n) × (x ≡ f j)
      go ih (inl i) = let r = ih i in let l : r.0 < n = r.1 in (r.0, omega arith, r.2)
      go ih (inr i) = (n, omega arith, in_one x (f n) i)

-- ## The test

-- the test, decided
pub data Seen? (all : List ℕ) (r : ℕ) : Type 0 where
  old : seen all r ≡ true → In r all → Seen? all r
  new : seen all r ≡ false → count r all ≡ 0 → Seen? all r

pub seen? : (all : List ℕ) (r : ℕ) → Seen? all r
unfolding seen any_of
seen? [] r = new refl refl
seen? (x ∷ all) r = go (eq? x r) (eq? r x) (seen? all r)
  where
    test : (b : Bool) → eqb x r ≡ b → seen (x ∷ all) r ≡ elim b as (λ _. Bool) [ true ↦ true | false ↦ seen all r ]
    test b e = ap (λ c. elim c as (λ _. Bool) [ true ↦ true | false ↦ seen all r ]) e

    go : Eq? x r → Eq? r x → Seen? all r → Seen? (x ∷ all) r
    go (same e _) (same d _) h = old (test true e) (rw d (omega arith))
    go (same _ e) (other _ d) h = absurd (d (sym e))
    go (other _ e) (same _ d) h = absurd (e (sym d))
    go (other e _) (other d _) (old t i) = old (test false e ∙ t) (omega arith)
    go (other e _) (other d _) (new t i) = new (test false e ∙ t) (rw d (omega arith))
