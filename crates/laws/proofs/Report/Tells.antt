-- Which messages a list of diagnostics has, and which messages a row can have, by its kind.
-- Assumes nothing.
use Prim.Native.Nat.{ℕ, zero, suc, ◌<◌}
use mathlib.Core.Path.{◌≡◌, refl, sym, ap, ◌∙◌, subst}
use mathlib.Core.Logic.{◌⊎◌, inl, inr}
use mathlib.Core.Bool.{Bool, true, false, ◌&&◌, ◌||◌}
use mathlib.Core.List.{List, [], ◌∷◌, ◌++◌}
use lib.Dec.{T, eqb, eqb→eq, eqb_refl}
use Rattle.rules.specs.declared.Diagnostic.{Diagnostic}
use Rattle.rules.specs.Base.{if'◌then◌else◌, over}
use Rattle.rules.specs.Diagnostics.{when}
use Rattle.rules.specs.Rule3.{Some, first, later}
use Rattle.laws.specs.Tells.{has, tells}
use native.Mathlib.Omega.{arith}
use Rattle.laws.proofs.Base.Counts.{Eq?, same, other, eq?}
use Rattle.laws.proofs.Base.Tests.{or_left, or_right, or_cases, or-false, or_assoc, or-true}

-- ## Branches

pub if-test : (a : Bool) → (if' a then true else false) ≡ a
unfolding if'◌then◌else◌
if-test true = refl
if-test false = refl

pub if_no : {A : Type 0} (x y : A) → (if' false then x else y) ≡ y
unfolding if'◌then◌else◌
if_no x y = refl

pub if-same : {A : Type 0} (a : Bool) (x : A) → (if' a then x else x) ≡ x
unfolding if'◌then◌else◌
if-same true x = refl
if-same false x = refl

-- ## Lists

module _ (p : Diagnostic → Bool) where
  pub has-append : (a b : List Diagnostic) → has p (a ++ b) ≡ (has p a || has p b)
  unfolding has
  has-append [] b = refl
  has-append (d ∷ a) b = ap (λ c. p d || c) (has-append a b) ∙ or_assoc (p d) (has p a) (has p b)

  pub has_one : (d : Diagnostic) → has p (d ∷ []) ≡ p d
  unfolding has
  has_one d = or-false (p d)

  pub has-none : has p [] ≡ false
  unfolding has
  has-none = refl

  pub has-when : (b : Bool) (d : Diagnostic) → has p (when b (d ∷ [])) ≡ (b && p d)
  unfolding has when
  has-when true d = or-false (p d)
  has-when false d = refl

  pub has-if : (b : Bool) (x y : List Diagnostic) → has p (if' b then x else y) ≡ (if' b then has p x else has p y)
  unfolding if'◌then◌else◌
  has-if true x y = refl
  has-if false x y = refl

  pub has_left : (a b : List Diagnostic) → has p a ≡ true → has p (a ++ b) ≡ true
  has_left a b h = has-append a b ∙ ap (λ c. c || has p b) h

  pub has-among : (n : ℕ) (f : ℕ → List Diagnostic) (i : ℕ) → i < n → has p (f i) ≡ true → has p (over n f) ≡ true
  unfolding over
  has-among zero f i l h = absurd (omega arith)
  has-among (suc n) f i l h = go (eq? i n) (has-among n f i)
    where
      go : Eq? i n → (i < n → has p (f i) ≡ true → has p (over n f) ≡ true) → has p (over n f ++ f n) ≡ true
      go (same _ e) ih = has-append (over n f) (f n) ∙ ap (λ c. has p (over n f) || c) (ap (λ k. has p (f k)) (sym e) ∙ h) ∙ or-true (has p (over n f))
      go (other _ e) ih = has_left (over n f) (f n) (ih (omega arith) h)

-- in the words of rule 3
abbrev HasOne : (m : ℕ) → List Diagnostic → Type 0
HasOne m ds = Some (λ (d : Diagnostic). d.message ≡ m) ds

pub tells-some : (m : ℕ) (ds : List Diagnostic) → T (tells m ds) → HasOne m ds
unfolding has
tells-some m [] t = absurd t
tells-some m (d ∷ ds) t = go (or_cases (eqb d.message m) (tells m ds) t) (tells-some m ds)
  where
    go : T (eqb d.message m) ⊎ T (tells m ds) → (T (tells m ds) → HasOne m ds) → HasOne m (d ∷ ds)
    go (inl u) ih = first (eqb→eq d.message m u)
    go (inr u) ih = later (ih u)

pub some-tells : (m : ℕ) {ds : List Diagnostic} → HasOne m ds → T (tells m ds)
unfolding has
some-tells m (first {x = d} {xs = ds} e) = or_left (eqb d.message m) (tells m ds) (subst (λ (x : ℕ). T (eqb x m)) (sym e) (eqb_refl m))
some-tells m (later {x = d} {xs = ds} s) = or_right (eqb d.message m) (tells m ds) (some-tells m s)
