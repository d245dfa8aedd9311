-- What the steps of `Format` are, by the tests on the way: a limited pair, a row or none, a list, and bodies one after the other. Each law has its
-- conclusion as a `return` asks for it, and its premises as the tests and the calls before it give them.
-- Assumes nothing.
use Prim.Native.Nat.{ℕ, suc, ◌+◌, ◌-◌, ◌≤◌, ◌<◌}
use mathlib.Core.Path.{◌≡◌, refl, sym, ap, ◌∙◌}
use mathlib.Core.List.{List}
use mathlib.Core.Bool.{Bool, true, false}
use native.Mathlib.Omega.{arith}
use lib.ListN.{length}
use lib.Dec.{leb}
use borrow.Author.Tests.{lt-ltb, le-ltb, leb-true, ne_eqb}
use Rattle.rules.specs.Numbers.{no_row}
use Rattle.rules.specs.declared.Refusal.{Refusal}
use Rattle.rules.specs.declared.Fault.{Fault}
use Rattle.rules.specs.declared.Fault.TheVariants.{Misplaced, BadRow}
use Rattle.std.specs.Prelude.{Ok, Err}
use Rattle.rules.specs.Format.{Step, refusal, after, pair_at, one, limited, or_none, times, each}

module _ (s : List ℕ) (at : ℕ) where
  pub pair_fits : {b : Bool} → b ≡ leb (at + 2) (length s) → b ≡ true → at + 2 ≤ length s
  pair_fits e h = leb-true (at + 2) (length s) (sym e ∙ h)

  module _ (w : Fault) (n : ℕ) {b : Bool} (e : b ≡ leb (at + 2) (length s)) where
    pub limited-cut : b ≡ false → refusal Misplaced (length s) ≡ limited s w n at
    unfolding limited one
    limited-cut h = simp (sym e ∙ h)

    pub limited-next : {v : ℕ} → b ≡ true → v ≡ pair_at s at → v < n → Ok (at + 2) ≡ limited s w n at
    unfolding limited one
    limited-next h q l = simp (sym e ∙ h, lt-ltb (pair_at s at) n (rw q at l))

    pub limited-bad : {v : ℕ} → b ≡ true → v ≡ pair_at s at → n ≤ v → refusal w at ≡ limited s w n at
    unfolding limited one
    limited-bad h q l = simp (sym e ∙ h, le-ltb (pair_at s at) n (rw q at l))

-- a step that was refused, and one that was not, at the head of a sequence
module _ {x m : Step} (k : ℕ → Step) (e : x ≡ m) where
  pub stop : {r : Refusal} → x ≡ Err r → x ≡ after m k
  stop h = h ∙ ap (λ (z : Step). after z k) (sym h ∙ e)

  pub go : {p : ℕ} {y : Step} → x ≡ Ok p → y ≡ k p → y ≡ after m k
  go h f = f ∙ ap (λ (z : Step). after z k) (sym h ∙ e)

-- the pairs of a list, one after the other; whole is what is left where the loop began
module _ (s : List ℕ) (P : ℕ → Step) (whole : Step) (n j here : ℕ) (h : whole ≡ times s P (n - j) here) where
  times_on : j < n → whole ≡ after (P here) (times s P (n - (j + 1)))
  unfolding times
  times_on l = let q : n - j ≡ suc (n - (j + 1)) = omega arith in rw q at h

  pub times-stop : {x : Step} {r : Refusal} → j < n → x ≡ P here → x ≡ Err r → x ≡ whole
  times-stop l e q = stop _ e q ∙ sym (times_on l)

  pub times-go : {x : Step} {p : ℕ} → j < n → x ≡ P here → x ≡ Ok p → whole ≡ times s P (n - (j + 1)) p
  times-go l e q = times_on l ∙ sym (go (times s P (n - (j + 1))) e q refl)

  pub times-end : n ≤ j → Ok here ≡ whole
  unfolding times
  times-end l = let q : n - j ≡ 0 = omega arith in sym (rw q at h)

module _ (s : List ℕ) (n at : ℕ) {v : ℕ} {x : Step} where
  pub or-none-none : v ≡ pair_at s at → v ≡ no_row → x ≡ limited s BadRow 65536 at → x ≡ or_none s n at
  unfolding or_none limited one
  or-none-none e h f = f ∙ simp (sym e ∙ h)

  pub or-none-row : v ≡ pair_at s at → (v ≡ no_row → ⊥) → x ≡ limited s BadRow n at → x ≡ or_none s n at
  unfolding or_none limited one
  or-none-row e h f = f ∙ simp (ne_eqb (pair_at s at) no_row (λ q. h (e ∙ q)))

-- bodies one after the other; whole is what is left where the loop began
module _ (P : ℕ → ℕ → Step) (whole : Step) (n i here : ℕ) (h : whole ≡ each P (n - i) i here) where
  each_on : i < n → whole ≡ after (P i here) (each P (n - (i + 1)) (i + 1))
  unfolding each
  each_on l = let q : n - i ≡ suc (n - (i + 1)) = omega arith in rw q at h

  pub each-stop : {x : Step} {r : Refusal} → i < n → x ≡ P i here → x ≡ Err r → x ≡ whole
  each-stop l e q = stop _ e q ∙ sym (each_on l)

  pub each-go : {x : Step} {p : ℕ} → i < n → x ≡ P i here → x ≡ Ok p → whole ≡ each P (n - (i + 1)) (i + 1) p
  each-go l e q = each_on l ∙ sym (go (each P (n - (i + 1)) (i + 1)) e q refl)

  pub each-end : n ≤ i → Ok here ≡ whole
  unfolding each
  each-end l = let q : n - i ≡ 0 = omega arith in sym (rw q at h)

pub ruleset choosing = (or-none-none, or-none-row)

pub ruleset limiting = (pair_fits, limited-cut, limited-next, limited-bad)
