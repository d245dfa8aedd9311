-- What the accessors ask: a pair at the end, the two branches of `inner` and of `lifetimes_place`, and tests of an item's kind.
-- Assumes nothing.
use Prim.Native.Nat.{ℕ, ◌+◌, ◌≤◌, ◌<◌}
use mathlib.Core.Path.{◌≡◌, sym, ap, ◌∙◌}
use mathlib.Core.List.{List}
use mathlib.Core.Bool.{Bool, true, false}
use native.Mathlib.Omega.{arith}
use lib.ListN.{length, get_or, get_or-eq_default}
use lib.Dec.{leb}
use borrow.Author.Tests.{le-leb, lt-leb, leb-false}
use Rattle.std.specs.Prelude.{Option, Some, None}
use Rattle.std.specs.Option.{MatchOption}
use Rattle.rules.specs.declared.item.ItemKind.{ItemKind}
use Rattle.rules.specs.Kinds.{item_kind, item_number}
use Rattle.rules.proofs.KindLaws.{item_kind-back, item_kind-past}
use Rattle.rules.specs.Base.{if'◌then◌else◌}
use Rattle.rules.specs.Format.{pair_at, offset}
use Rattle.rules.specs.View.{kind, inner, item_place, is_type, lifetimes_place}

module _ (s : List ℕ) (at : ℕ) where
  pub pair-cut : {b : Bool} {x : ℕ} → b ≡ leb (at + 2) (length s) → b ≡ false → x ≡ get_or s at 0 → x ≡ pair_at s at
  unfolding pair_at
  pair-cut e h q =
      let l = leb-false (at + 2) (length s) (sym e ∙ h) in
      rw (q, get_or-eq_default s 0 {n = at + 1} (omega arith)) (omega arith)

module _ (s : List ℕ) (r : ℕ) {o k x : ℕ} (eo : o ≡ offset s r) (ek : k ≡ pair_at s o) where
  pub inner-near : k ≤ 6 → x ≡ pair_at s (o + 2) → x ≡ inner s r
  unfolding inner kind if'◌then◌else◌
  inner-near h e = rw (le-leb (kind s r) 6 (rw (ek, eo) at h), if'◌then◌else◌) (rw eo at e)

  pub inner-far : 6 < k → x ≡ pair_at s (o + 4) → x ≡ inner s r
  unfolding inner kind if'◌then◌else◌
  inner-far h e = rw (lt-leb (kind s r) 6 (rw (ek, eo) at h), if'◌then◌else◌) (rw eo at e)

module _ (s : List ℕ) (i : ℕ) {o : ℕ} {b : Bool} (eo : o ≡ item_place s i) (eb : b ≡ is_type s i) where
  pub place-type : b ≡ true → o + 4 ≡ lifetimes_place s i
  unfolding lifetimes_place if'◌then◌else◌
  place-type h = rw (← eb, h, eo)

  pub place_other : b ≡ false → o + 6 ≡ lifetimes_place s i
  unfolding lifetimes_place if'◌then◌else◌
  place_other h = rw (← eb, h, eo)

-- a test of an item's kind, by whether its number is a kind's; of a kind the test gives what P says
pub kind_passes :
    (test : ℕ → Bool) (n : ℕ) (o : Option ItemKind) (x : Bool) (P : ItemKind → Type 0) → o ≡ item_kind n → MatchOption o (x ≡ false) P
    → ((k : ItemKind) → P k → x ≡ test (item_number k)) → ((k : ℕ) → 9 ≤ k → test k ≡ false) → x ≡ test n
kind_passes test n None x P e h some none = h ∙ sym (none n (item_kind-past n (sym e)))
kind_passes test n (Some k) x P e h some none = some k h ∙ ap test (sym (item_kind-back n (sym e)))

-- ## What the check may use by itself

pub ruleset cutting = (pair-cut)

pub ruleset inside = (inner-near, inner-far)

pub ruleset placing = (place-type, place_other)
