-- Each entry of a list, by the forms of the definitions: a test, a branch, a loop.
-- Assumes nothing.
use Prim.Native.Nat.{ℕ, zero, suc, ◌<◌}
use mathlib.Core.Bool.{Bool, true, false}
use mathlib.Core.List.{List, [], ◌∷◌, ◌++◌}
use native.Mathlib.Omega.{arith}
use Rattle.rules.specs.declared.Diagnostic.{Diagnostic}
use Rattle.rules.specs.Base.{if'◌then◌else◌, over}
use Rattle.rules.specs.Diagnostics.{when}
use Rattle.rules.specs.Rule3.{Some, first, later}

pub data All {X : Type 0} (P : X → Type 0) : List X → Type 0 where
  none : All P []
  more : {x : X} {xs : List X} → P x → All P xs → All P (x ∷ xs)

module _ {X : Type 0} {P : X → Type 0} where
  infixl 20 ◌&◌
  pub ◌&◌ : {a b : List X} → All P a → All P b → All P (a ++ b)
  none & q = q
  more p ps & q = more p (ps & q)

  pub branch : (b : Bool) {x y : List X} → All P x → All P y → All P (if' b then x else y)
  unfolding if'◌then◌else◌
  branch true p q = p
  branch false p q = q

  pub loop : (n : ℕ) (f : ℕ → List X) → ((j : ℕ) → j < n → All P (f j)) → All P (over n f)
  unfolding over
  loop zero f h = none
  loop (suc n) f h = loop n f (λ j l. h j (omega arith)) & h n (omega arith)

  -- what has an entry of one kind, where each is of another
  pub all-some : {Q : X → Type 0} {C : Type 0} {xs : List X} → ((x : X) → P x → Q x → C) → All P xs → Some Q xs → C
  all-some f (more {x = x} p ps) (first q) = f x p q
  all-some f (more p ps) (later q) = all-some f ps q
  all-some {Q = Q} {C = C} f none q = elim q [ ]

pub all_map : {X : Type 0} (P Q : X → Type 0) → ((x : X) → P x → Q x) → {xs : List X} → All P xs → All Q xs
all_map P Q f none = none
all_map P Q f (more {x = x} p ps) = more (f x p) (all_map P Q f ps)

pub said : {P : Diagnostic → Type 0} (b : Bool) {ds : List Diagnostic} → All P ds → All P (when b ds)
unfolding when
said true p = p
said false p = none
