-- The pass over the items: what holds before item i (`Passed`), at the start and at the end.
-- Assumes nothing.
use Prim.Native.Nat.{ℕ, ◌+◌, ◌<◌, ◌≤◌}
use mathlib.Core.Path.{◌≡◌, subst}
use mathlib.Core.Bool.{Bool}
use mathlib.Core.List.{List}
use native.Mathlib.Omega.{arith}
use Rattle.rules.specs.declared.Diagnostic.{Diagnostic}
use Rattle.rules.specs.declared.Place.TheVariants.{I}
use Rattle.rules.specs.Base.{over}
use Rattle.rules.specs.Diagnostics.{say, when}
use Rattle.rules.specs.Format.{Accepted}
use Rattle.rules.specs.Names.{Words}
use Rattle.rules.specs.View.{items, item_kind, item_name}
use Rattle.rules.specs.Collect.{duplicate, duplicates}
use Rattle.laws.proofs.Sheet.Accepted.Items.{item-of}
use Rattle.errors.specs.declared.Errors.{Errors}
use Rattle.errors.specs.Sink.{Reported, start, turn, meant-if, whole}
use Rattle.types.specs.Named.{Item, Named, keys_to, Nameable, Declared}

-- the duplicate of one item
abbrev told : List ℕ → ℕ → List Diagnostic
told s i = when (duplicate s i) (say 1 (I i))

pub record Passed (s : List ℕ) (cx₀ : Errors) (i : ℕ) (w : List ℕ) (cx : Errors) (bits : List ℕ) : Type 0 where
  pub names : Named s i w
  pub keys : bits ≡ keys_to s i
  pub reported : Reported cx₀ (over i (told s)) cx

module _ {s w : List ℕ} {cx : Errors} where
  pub pass-start : {keys : Words} → Nameable s w → keys ≡ keys_to s 0 → Passed s cx 0 w cx keys
  pass-start h q = record { names = h.names; keys = q; reported = start cx (told s) }

module _ {s : List ℕ} {cx₀ : Errors} {w : List ℕ} {cx : Errors} {keys : List ℕ} where
  pub pass-turn : {i : ℕ} {w' : List ℕ} {cx' : Errors} {keys' : Words} {again : Bool} → Passed s cx₀ i w cx keys
      → again ≡ duplicate s i
      → Reported cx (when again (say 1 (I i))) cx'
      → Named s (i + 1) w'
      → keys' ≡ keys_to s (i + 1)
      → Passed s cx₀ (i + 1) w' cx' keys'
  pass-turn {i} p d e f q =
      record { names = f; keys = q; reported = turn (told s) i p.reported (meant-if (say 1 (I i)) e d) }

  pub pass-end : {i : ℕ} → Passed s cx₀ i w cx keys → i ≡ items s → Declared s w cx₀ cx
  unfolding duplicates
  pass-end {i} p e = record { names = subst (λ (j : ℕ). Named s j w) e p.names; reported = whole (told s) p.reported e }

pub item-is : {s : List ℕ} {i k n count : ℕ} → Accepted s → count ≡ items s → i < count → k ≡ item_kind s i → n ≡ item_name s i → Item s i k n
item-is acc e l p q = record { accepted = acc; below = omega arith; kind = p; name = q }

-- of an accepted sheet no item's kind is unknown
pub never-past : {s : List ℕ} {i count : ℕ} {A : Type 0} → Accepted s → count ≡ items s → i < count → 9 ≤ item_kind s i → A
never-past {s} {i} acc e l p = absurd (let k = (item-of s acc i (omega arith)).known in omega arith)
