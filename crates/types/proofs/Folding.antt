-- Steps over one list after another are the steps over both (`fold-then`); so a loop's turns are the steps over all that its turns add (`over-more`).
-- Assumes nothing.
use Prim.Native.Nat.{ℕ, ◌+◌}
use mathlib.Core.Path.{◌≡◌, refl, sym, ◌∙◌}
use mathlib.Core.List.{List, [], ◌++◌, foldl-append}
use native.Mathlib.Numerals.{add-one}
use Rattle.rules.specs.Base.{over}
use Rattle.types.specs.Folded.{Folded}

module _ {A B : Type 0} {step : B → A → B} where
  pub fold-none : {w : B} → Folded step w [] w
  fold-none = record { is = refl }

  pub fold-then : {xs ys : List A} {w u v : B} → Folded step w xs u → Folded step u ys v → Folded step w (xs ++ ys) v
  fold-then {xs} {ys} {w} p q = record { is = (rw p.is at q.is) ∙ sym (foldl-append step w xs ys) }

  module _ (f : ℕ → List A) where
    pub over_none : {w : B} → Folded step w (over 0 f) w
    unfolding over
    over_none = fold-none

    pub over-more : (j : ℕ) {w u v : B} → Folded step w (over j f) u → Folded step u (f j) v → Folded step w (over (j + 1) f) v
    unfolding over
    over-more j p q = rw (add-one j) (fold-then p q)

    pub over-end : (j : ℕ) {n : ℕ} {w u : B} → Folded step w (over j f) u → j ≡ n → Folded step w (over n f) u
    over-end j p e = rw (← e) p
