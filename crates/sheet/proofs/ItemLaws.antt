-- What an item is, by its kind: the repr row of an enum, a receiver, a function from its receiver on, and the kinds that are joined in one arm.
-- Assumes nothing.
use Prim.Native.Nat.{ℕ, zero, suc, ◌+◌, ◌-◌, ◌*◌, ◌≤◌}
use mathlib.Core.Path.{◌≡◌, refl, sym, ◌∙◌}
use mathlib.Core.List.{List}
use mathlib.Core.Bool.{Bool, true, false, ◌&&◌, and-true}
use native.Mathlib.Omega.{arith}
use lib.ListN.{length, get_or}
use lib.Dec.{leb, ltb, eqb}
use borrow.Author.Tests.{eq-eqb, ne_eqb}
use Rattle.rules.specs.declared.Refusal.{Refusal}
use Rattle.rules.specs.declared.Fault.TheVariants.{Misplaced, BadValue, BadRow}
use Rattle.std.specs.Prelude.{Ok, Err}
use Rattle.rules.specs.Numbers.{name_count, lifetime_name_count, most_lifetimes, most_args}
use Rattle.rules.specs.Format.{Step, refusal, check, after, end, pair_at, offset, one, limited, list, or_none, repr, receiver, receivers, function}
use Rattle.rules.specs.Format.{item_of, item_kinds, item, item_at}
use Rattle.sheet.proofs.StepLaws.{stop, go}

-- `one` by its two tests; a second test b && c
tested : Bool → Bool → (n at : ℕ) → Step
tested a b n at = after (check a Misplaced n at) (λ _. after (check b BadRow at at) (λ _. Ok (at + 2)))

tested-stop : (a b c : Bool) (n at : ℕ) {r : Refusal} → tested a b n at ≡ Err r → tested a b n at ≡ tested a (b && c) n at
unfolding tested
tested-stop false b c n at h = refl
tested-stop true false c n at h = refl
tested-stop true true c n at h = absurd (let z : ◌≡◌ {A = ℕ} 0 1 = cc in omega arith)

tested-wrong : (a b : Bool) (n at : ℕ) {p : ℕ} → tested a b n at ≡ Ok p → refusal BadRow at ≡ tested a (b && false) n at
unfolding tested
tested-wrong false b n at h = absurd (let z : ◌≡◌ {A = ℕ} 0 1 = cc in omega arith)
tested-wrong true false n at h = refl
tested-wrong true true n at h = refl

-- a pair below T whose row is of kind 0
module _ (s : List ℕ) (T at : ℕ) where
  pub repr-refused : {x : Step} {r : Refusal} → x ≡ limited s BadRow T at → x ≡ Err r → x ≡ repr s T at
  unfolding repr limited one tested
  repr-refused ex r = ex ∙ tested-stop (leb (at + 2) (length s)) (ltb (pair_at s at) T) (eqb (pair_at s (offset s (pair_at s at))) 0) (length s) at (sym ex ∙ r)

module _ (s : List ℕ) (T at : ℕ) {x : Step} {v o k : ℕ} (ex : x ≡ limited s BadRow T at) (ev : v ≡ pair_at s at) (eo : o ≡ offset s v)
    (ek : k ≡ pair_at s o) where
  kind : k ≡ pair_at s (offset s (pair_at s at))
  kind = rw (← ev, ← eo) ek

  pub repr-fine : k ≡ 0 → x ≡ repr s T at
  unfolding repr limited one
  repr-fine q = ex ∙ simp (eq-eqb (pair_at s (offset s (pair_at s at))) 0 (sym kind ∙ q), and-true)

  pub repr-wrong : {p : ℕ} → (k ≡ 0 → ⊥) → x ≡ Ok p → refusal BadRow at ≡ repr s T at
  unfolding repr limited one tested
  repr-wrong q r =
      rw (ne_eqb (pair_at s (offset s (pair_at s at))) 0 (λ z. q (kind ∙ z)))
      (tested-wrong (leb (at + 2) (length s)) (ltb (pair_at s at) T) (length s) at (sym ex ∙ r))

-- a receiver that is neither an associated function's nor a method's
pub receiver-free : (s : List ℕ) (v p : ℕ) → (v ≡ 1 → ⊥) → (v ≡ 2 → ⊥) → ◌≡◌ {A = Step} (Ok p) (get_or (receivers s) v end p)
unfolding receivers
receiver-free s zero p h1 h2 = refl
receiver-free s (suc zero) p h1 h2 = absurd (h1 refl)
receiver-free s (suc (suc zero)) p h1 h2 = absurd (h2 refl)
receiver-free s (suc (suc (suc k))) p h1 h2 = refl

-- a function whose name, flags and lifetimes were not refused: what it is from its receiver on
pub function-from-receiver : (s : List ℕ) (flags T at : ℕ) {x y z : Step} {p q r : ℕ} → x ≡ limited s BadValue name_count at → x ≡ Ok p
    → y ≡ limited s BadValue flags p → y ≡ Ok q → z ≡ list s most_lifetimes BadValue lifetime_name_count q → z ≡ Ok r
    → function s flags T at ≡ after (after (receiver s r) (or_none s T)) (list s most_args BadRow T)
unfolding function
function-from-receiver s flags T at ex x ey y ez z = rw (← ex, x, ← ey, y, ← ez, z) refl

-- a number that is no kind's
pub item-past : (s : List ℕ) (T k at : ℕ) → 9 ≤ k → ◌≡◌ {A = Step} (Ok at) (item_of s T k at)
unfolding item_of item_kinds
item-past s T k at h = let q : k ≡ suc (suc (suc (suc (suc (suc (suc (suc (suc (k - 9))))))))) = omega arith in rw q

module _ (s : List ℕ) (T i at : ℕ) {o : ℕ} (eo : o ≡ offset s (T + i)) where
  pub item-offset : (o ≡ at → ⊥) → refusal Misplaced (4 + 2 * (T + i)) ≡ item_at s T i at
  unfolding item_at
  item-offset d = simp (ne_eqb (offset s (T + i)) at (λ q. d (eo ∙ q)))

  module _ (here : o ≡ at) {x : Step} (ex : x ≡ limited s BadValue 9 at) where
    item_on : item_at s T i at ≡ after (limited s BadValue 9 at) (item_of s T (pair_at s at))
    unfolding item_at item
    item_on = simp (eq-eqb (offset s (T + i)) at (sym eo ∙ here))

    pub item_refused : {r : Refusal} → x ≡ Err r → x ≡ item_at s T i at
    item_refused q = stop _ ex q ∙ sym item_on

    pub item-go : {p k : ℕ} {y : Step} → x ≡ Ok p → k ≡ pair_at s at → y ≡ item_of s T k p → y ≡ item_at s T i at
    item-go q ek h = go (item_of s T (pair_at s at)) ex q (rw (← ek) h) ∙ sym item_on
