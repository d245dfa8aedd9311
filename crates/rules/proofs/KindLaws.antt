-- The number of a known kind is that kind's (`back`), and a number without a kind lies past the last one's (`past`), for any list in which kinds stand by
-- their numbers; and what a number that may mean none is, by the option (`of_none`, `of_some`).
-- Assumes nothing.
use Rattle.std.specs.Prelude.{ℕ, zero, suc, ◌+◌, List, [], ◌∷◌, ◌≡◌, ◌≤◌, length, slice_get, Option, Some, None, eqb, Bool, true, false, not, is_some}
use Rattle.std.proofs.Common.{sym, ap, arith, rules}
use mathlib.Core.Path.{refl}
use Rattle.rules.specs.Base.{if'◌then◌else◌}
use Rattle.rules.specs.Kinds.{row_number, row_kind, kinds_of_rows, item_number, item_kind, kinds_of_items, some_unless}
use Rattle.rules.specs.declared.row.RowKind.{RowKind}
use Rattle.rules.specs.declared.item.ItemKind.{ItemKind}

none : {A B : Type 0} {x : A} → ◌≡◌ {A = Option A} None (Some x) → B
none e = absurd (let z : ◌≡◌ {A = ℕ} 0 1 = cc in omega arith)

-- ## A list of kinds

module _ {K : Type 0} (number : K → ℕ) where
  number_in : ℕ → Option K → ℕ
  number_in k (Some x) = number x
  number_in k None = k

  -- they stand by their numbers, from k on
  abbrev Numbered : ℕ → List K → Type 0
  Numbered k [] = Unit {0}
  Numbered k (x ∷ l) = (number x ≡ k) × Numbered (suc k) l

  back : (k : ℕ) (l : List K) → Numbered k l → (n : ℕ) {x : K} → slice_get l n ≡ Some x → k + n ≡ number x
  unfolding number_in
  back k [] h n e = none e
  back k (y ∷ l) h zero {x} e =
      let first : number y ≡ number x = ap (number_in k) e in
      omega (arith, h.0, first)
  back k (y ∷ l) h (suc n) e = let r = back (suc k) l h.1 n e in omega (arith, r)

past : {K : Type 0} (l : List K) (n : ℕ) → slice_get l n ≡ None → length l ≤ n
past [] n e = omega arith
past (y ∷ l) zero e = none (sym e)
past (y ∷ l) (suc n) e = let r = past l n e in omega (arith, r)

-- ## Rows and items

pub row_kind-back : (n : ℕ) {k : RowKind} → row_kind n ≡ Some k → n ≡ row_number k
unfolding row_kind
row_kind-back n e =
    let by_number : Numbered row_number 0 kinds_of_rows =
    (refl, (refl, (refl, (refl, (refl, (refl, (refl, (refl, (refl, (refl, (refl, (refl, (refl, (refl, tt)))))))))))))) in
    let h = back row_number 0 kinds_of_rows by_number n e in
    omega (arith, h)

pub row_kind-past : (n : ℕ) → row_kind n ≡ None → 14 ≤ n
unfolding row_kind
row_kind-past n e = past kinds_of_rows n e

pub item_kind-back : (n : ℕ) {k : ItemKind} → item_kind n ≡ Some k → n ≡ item_number k
unfolding item_kind
item_kind-back n e =
    let h = back item_number 0 kinds_of_items (refl, (refl, (refl, (refl, (refl, (refl, (refl, (refl, (refl, tt))))))))) n e in
    omega (arith, h)

pub item_kind-past : (n : ℕ) → item_kind n ≡ None → 9 ≤ n
unfolding item_kind
item_kind-past n e = past kinds_of_items n e

-- ## A number that may mean none

number_of : Option ℕ → ℕ
number_of (Some y) = y
number_of None = 0

module _ (a n : ℕ) where
  pub of_none : None ≡ some_unless a n → n ≡ a
  unfolding some_unless if'◌then◌else◌
  of_none e = go (eqb n a) refl e
    where
      go : (b : Bool) → eqb n a ≡ b → None ≡ if' b then None else Some n → n ≡ a
      go true t e = search rules
      go false t e = none e

  pub of_some : {x : ℕ} → Some x ≡ some_unless a n → (n ≡ x) × (eqb n a ≡ false)
  unfolding some_unless if'◌then◌else◌ number_of
  of_some {x} e = go (eqb n a) refl e
    where
      go : (b : Bool) → eqb n a ≡ b → Some x ≡ if' b then None else Some n → (n ≡ x) × (eqb n a ≡ false)
      go true t e = none (sym e)
      go false t e = (sym (ap number_of e), t)

  pub some-is : is_some (some_unless a n) ≡ not (eqb n a)
  unfolding some_unless if'◌then◌else◌
  some-is = go (eqb n a)
    where
      go : (b : Bool) → is_some (if' b then None else Some n) ≡ not b
      go true = refl
      go false = refl
