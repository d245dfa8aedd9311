-- Tests that are true or false: of `||`, `&&` and `eqb`, as propositions `T b` and as paths; and a test of all numbers below a bound.
-- Assumes nothing.
use mathlib.Core.Path.{◌≡◌, refl, sym, ap, ◌∙◌, subst}
use mathlib.Core.Logic.{◌≢◌, ◌⊎◌, inl, inr}
use mathlib.Core.Bool.{Bool, true, false, not, ◌&&◌, ◌||◌}
use Prim.Native.Nat.{ℕ, zero, suc, ◌≤◌, ◌<◌}
use native.Mathlib.Omega.{arith}
use lib.Dec.{T, eqb}
use Rattle.rules.specs.Base.{some}
use Rattle.rules.specs.Diagnostics.{bit}
use Rattle.laws.proofs.Base.Counts.{Eq?, same, other, eq?}

pub never : {A : Type 0} → false ≡ true → A
never h = absurd (let z : ◌≡◌ {A = ℕ} 0 1 = cc in omega arith)

-- a test, decided, with its path
pub both : {P : Type 0} (b : Bool) → (b ≡ true → P) → (b ≡ false → P) → P
both true p q = p refl
both false p q = q refl

pub is_true : (b : Bool) → T b → b ≡ true
is_true true t = refl
is_true false t = absurd t

pub is_false : (b : Bool) → (T b → ⊥) → b ≡ false
is_false true f = absurd (f tt)
is_false false f = refl

pub holds : {b : Bool} → b ≡ true → T b
holds e = subst T (sym e) tt

pub fails : {b : Bool} → b ≡ false → T b → ⊥
fails e t = subst T e t

-- ## `||` and `&&`

pub or_cases : (a b : Bool) → T (a || b) → T a ⊎ T b
or_cases true b t = inl tt
or_cases false b t = inr t

pub or_left : (a b : Bool) → T a → T (a || b)
or_left true b t = tt
or_left false b t = absurd t

pub or_right : (a b : Bool) → T b → T (a || b)
or_right true b t = tt
or_right false b t = t

pub and_left : (a b : Bool) → T (a && b) → T a
and_left true b t = tt
and_left false b t = t

pub and_right : (a b : Bool) → T (a && b) → T b
and_right true b t = t
and_right false b t = absurd t

pub and_both : (a b : Bool) → T a → T b → T (a && b)
and_both true b t u = u
and_both false b t u = t

pub neither : (a b : Bool) → (a || b) ≡ false → (a ≡ false) × (b ≡ false)
neither true b e = never (sym e)
neither false b e = (refl, e)

pub or-false : (a : Bool) → (a || false) ≡ a
or-false true = refl
or-false false = refl

pub or_assoc : (a b c : Bool) → (a || (b || c)) ≡ ((a || b) || c)
or_assoc true b c = refl
or_assoc false b c = refl

pub or-true : (a : Bool) → (a || true) ≡ true
or-true true = refl
or-true false = refl

pub and-true : (a : Bool) → (a && true) ≡ a
and-true true = refl
and-true false = refl

pub and-false : (a : Bool) → (a && false) ≡ false
and-false true = refl
and-false false = refl

pub or_is : (a b : Bool) → (a || b) ≡ true → (a ≡ true) ⊎ (b ≡ true)
or_is true b h = inl refl
or_is false b h = inr h

pub both-are : (a b : Bool) → (a && b) ≡ true → (a ≡ true) × (b ≡ true)
both-are true b h = (refl, h)
both-are false b h = never h

pub and_is : {a b : Bool} → a ≡ true → b ≡ true → (a && b) ≡ true
and_is e d = rw (e, d) refl

-- a implies b
pub implied : (a b : Bool) → (not a || b) ≡ true → a ≡ true → b ≡ true
implied true b h e = h
implied false b h e = never e

-- ## Numbers

pub bit_le : (b : Bool) → bit b ≤ 1
bit_le true = omega arith
bit_le false = omega arith

pub no_eq : (a b : ℕ) → a ≢ b → eqb a b ≡ false
no_eq a b ne = go (eq? a b)
  where
    go : Eq? a b → eqb a b ≡ false
    go (same _ e) = absurd (ne e)
    go (other e _) = e

-- where no number below n passes, none does: one computed test for all
pub none_passes : (n : ℕ) (p : ℕ → Bool) → some n p ≡ false → (k : ℕ) → k < n → p k ≡ false
unfolding some
none_passes zero p h k l = absurd (omega arith)
none_passes (suc n) p h k l = go (p n) refl h (none_passes n p)
  where
    go : (b : Bool) → p n ≡ b → elim b as (λ _. Bool) [ true ↦ true | false ↦ some n p ] ≡ false → (some n p ≡ false → (k : ℕ) → k < n → p k ≡ false)
        → p k ≡ false
    go true e t ih = never (sym t)
    go false e t ih = by (eq? k n)
      where
        by : Eq? k n → p k ≡ false
        by (same _ q) = ap p q ∙ e
        by (other _ q) = ih t k (omega arith)

-- all numbers below n pass
pub all_pass : (n : ℕ) (p : ℕ → Bool) → some n (λ k. not (p k)) ≡ false → (k : ℕ) → k < n → p k ≡ true
all_pass n p h k l = of (p k) (none_passes n (λ x. not (p x)) h k l)
  where
    of : (b : Bool) → not b ≡ false → b ≡ true
    of true e = refl
    of false e = never (sym e)
