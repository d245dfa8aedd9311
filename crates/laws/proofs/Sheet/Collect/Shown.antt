-- What a row of an accepted sheet shows are smaller rows, and what an item shows are rows.
-- Assumes nothing.
use Prim.Native.Nat.{ℕ, ◌+◌, ◌<◌}
use mathlib.Core.Path.{◌≡◌, refl, sym, ap, ◌∙◌}
use mathlib.Core.Logic.{◌⊎◌, inl, inr}
use mathlib.Core.Bool.{Bool, true, false, ◌||◌}
use mathlib.Core.List.{List, [], ◌∷◌, ◌++◌}
use lib.Dec.{eqb}
use borrow.Author.Tests.{eqb-true}
use Rattle.rules.specs.Numbers.{Fn, Struct, Enum, CxxFunction, RustFunction, Impl, no_row}
use Rattle.rules.specs.Base.{if'◌then◌else◌, some}
use Rattle.rules.specs.Format.{pair_at, offset, Accepted}
use Rattle.rules.specs.View.{enum_kind, function_kind, rows, kind, inner, fn_return, fn_args, fn_arg_count, fn_arg, shown, or_nothing, entry, entries}
use Rattle.rules.specs.View.{items, item_kind, item_is, is_enum_item, is_function, rest, fields, field_count, field, enum_repr, args, arg_count}
use Rattle.rules.specs.View.{arg, return_place, return, impl_row}
use Rattle.rules.specs.Collect.{shown_by}
use Rattle.laws.specs.Kinds.{leaf}
use Rattle.laws.specs.Kinds.{RowOrNone}
use Rattle.rules.specs.Reach.{In}
use Rattle.laws.proofs.Base.Tests.{never, both, all_pass}
use Rattle.laws.proofs.Base.Members.{in-none, in_one, in-cases, in-over}
use Rattle.laws.proofs.Sheet.Accepted.Rows.{RowOf, has_inner, row_of}
use Rattle.laws.proofs.Sheet.Accepted.Items.{ItemOf, FunctionOf, item-of}

-- ## A list of rows, and a return row or none

module _ (s : List ℕ) (limit : ℕ) where
  entries_below : (at : ℕ) → ((j : ℕ) → j < pair_at s at → entry s at j < limit) → (x : ℕ) → In x (entries s at) → x < limit
  unfolding entries
  entries_below at h x i = let r = in-over (entry s at) (pair_at s at) x i in rw r.2 (h r.0 r.1)

  or-nothing-below : (v : ℕ) → RowOrNone limit v → (x : ℕ) → In x (or_nothing v) → x < limit
  unfolding or_nothing if'◌then◌else◌
  or-nothing-below v h x i = go (eqb v no_row) refl h i
    where
      go : (b : Bool) → eqb v no_row ≡ b → RowOrNone limit v → In x (if' b then [] else v ∷ []) → x < limit
      go true e h i = in-none x i
      go false e (inl q) i = never (sym (ap (λ n. eqb n no_row) (sym q) ∙ e))
      go false e (inr l) i = rw (in_one x v i) l

-- ## Rows

module _ (s : List ℕ) (r : ℕ) where
  abbrev shown_as : (is_leaf is_fn : Bool) → List ℕ
  shown_as b c = if' b then [] else if' c then or_nothing (fn_return s r) ++ fn_args s r else inner s r ∷ []

  shown-as : (k : ℕ) → kind s r ≡ k → shown s r ≡ shown_as (leaf k) (eqb k Fn)
  unfolding shown
  shown-as k e = ap (λ (x : ℕ). shown_as (leaf x) (eqb x Fn)) e

  -- what a row shows, by its kind
  pub shown-leaf : (k : ℕ) → leaf k ≡ true → kind s r ≡ k → shown s r ≡ []
  unfolding if'◌then◌else◌
  shown-leaf k h e = shown-as k e ∙ ap (λ (b : Bool). shown_as b (eqb k Fn)) h

  pub shown-fn : kind s r ≡ Fn → shown s r ≡ or_nothing (fn_return s r) ++ fn_args s r
  unfolding if'◌then◌else◌
  shown-fn e = shown-as Fn e

  pub shown-inner : (k : ℕ) → leaf k ≡ false → eqb k Fn ≡ false → kind s r ≡ k → shown s r ≡ inner s r ∷ []
  unfolding if'◌then◌else◌
  shown-inner k h g e = shown-as k e ∙ ap (λ (b : Bool). shown_as b (eqb k Fn)) h ∙ ap (shown_as false) g

-- one computed test: a kind that is no leaf and no Fn has a row inside
kinds-inner : (k : ℕ) → k < 14 → (leaf k || eqb k Fn || has_inner k) ≡ true
unfolding some
kinds-inner = all_pass 14 (λ k. leaf k || eqb k Fn || has_inner k) refl

module _ (s : List ℕ) (acc : Accepted s) where
  pub shown-falls : (r : ℕ) → r < rows s → (x : ℕ) → In x (shown s r) → x < r
  unfolding fn_args fn_arg_count fn_arg
  shown-falls r l x i = both (leaf (kind s r)) leaves (λ h. both (eqb (kind s r) Fn) signs (holds h))
    where
      row : RowOf s r
      row = row_of s acc r l

      leaves : leaf (kind s r) ≡ true → x < r
      leaves h = in-none x (rw (shown-leaf s r (kind s r) h refl) at i)

      signs : eqb (kind s r) Fn ≡ true → x < r
      signs h = by (eqb-true (kind s r) Fn h)
        where
          by : kind s r ≡ Fn → x < r
          by e = of (in-cases x (or_nothing (fn_return s r)) (fn_args s r) (rw (shown-fn s r e) at i))
            where
              of : In x (or_nothing (fn_return s r)) ⊎ In x (fn_args s r) → x < r
              of (inl j) = or-nothing-below s r (fn_return s r) (row.return-falls e) x j
              of (inr j) = entries_below s r (offset s r + 6) (row.arg-falls e) x j

      holds : leaf (kind s r) ≡ false → eqb (kind s r) Fn ≡ false → x < r
      holds h g =
          let q : has_inner (kind s r) ≡ true = rw (h, g) at (kinds-inner (kind s r) row.known) in
          rw (in_one x (inner s r) (rw (shown-inner s r (kind s r) h g refl) at i)) (row.inner-falls (kind s r) q refl)

-- ## Items

module _ (s : List ℕ) (i : ℕ) where
  abbrev shown_by_as : (is_struct is_enum is_fn is_impl : Bool) → List ℕ
  shown_by_as a b c d =
      if' a then fields s i else
      if' b then enum_repr s i ∷ [] else
      if' c then args s i ++ or_nothing (return s i) else
      if' d then impl_row s i ∷ [] else []

  shown_by-as : (k : ℕ) → item_kind s i ≡ k → shown_by s i ≡ shown_by_as (eqb k Struct) (enum_kind k) (function_kind k) (eqb k Impl)
  unfolding shown_by item_is is_enum_item is_function
  shown_by-as k e = ap (λ (x : ℕ). shown_by_as (eqb x Struct) (enum_kind x) (function_kind x) (eqb x Impl)) e

  -- what an item shows, by its kind
  pub shown_by-struct : item_kind s i ≡ Struct → shown_by s i ≡ fields s i
  unfolding if'◌then◌else◌
  shown_by-struct e = shown_by-as Struct e

  pub shown_by-enum : item_kind s i ≡ Enum → shown_by s i ≡ enum_repr s i ∷ []
  unfolding if'◌then◌else◌
  shown_by-enum e = shown_by-as Enum e

  pub shown_by-function : (item_kind s i ≡ CxxFunction) ⊎ (item_kind s i ≡ RustFunction) → shown_by s i ≡ args s i ++ or_nothing (return s i)
  unfolding if'◌then◌else◌
  shown_by-function (inl e) = shown_by-as CxxFunction e
  shown_by-function (inr e) = shown_by-as RustFunction e

  pub shown_by-impl : item_kind s i ≡ Impl → shown_by s i ≡ impl_row s i ∷ []
  unfolding if'◌then◌else◌
  shown_by-impl e = shown_by-as Impl e

  -- Include, CxxType, RustType and TypeAlias
  pub shown_by-other : (k : ℕ) → (eqb k Struct || enum_kind k || function_kind k || eqb k Impl) ≡ false → item_kind s i ≡ k → shown_by s i ≡ []
  unfolding if'◌then◌else◌
  shown_by-other k h e = shown_by-as k e ∙ of (eqb k Struct) (enum_kind k) (function_kind k) (eqb k Impl) h
    where
      of : (a b c d : Bool) → (a || b || c || d) ≡ false → shown_by_as a b c d ≡ []
      of true b c d h = never (sym h)
      of false true c d h = never (sym h)
      of false false true d h = never (sym h)
      of false false false true h = never (sym h)
      of false false false false h = refl

module _ (s : List ℕ) (acc : Accepted s) where
  pub shown_by-below : (i : ℕ) → i < items s → (x : ℕ) → In x (shown_by s i) → x < rows s
  unfolding shown_by if'◌then◌else◌ item_is is_enum_item fields field_count field args arg_count arg
  shown_by-below i l x j = go (item_is s Struct i) (item_is s Enum i) (is_function s i) (item_is s Impl i) refl refl refl refl j
    where
      item : ItemOf s i
      item = item-of s acc i l

      of_function : FunctionOf s i → In x (args s i) ⊎ In x (or_nothing (return s i)) → x < rows s
      of_function f (inl j) = entries_below s (rows s) (return_place s i + 2) f.arg-below x j
      of_function f (inr j) = or-nothing-below s (rows s) (return s i) f.return-below x j

      go : (a b c d : Bool) → eqb (item_kind s i) Struct ≡ a → eqb (item_kind s i) Enum ≡ b → is_function s i ≡ c → eqb (item_kind s i) Impl ≡ d
          → In x (shown_by_as s i a b c d) → x < rows s
      go true b c d e _ _ _ j = entries_below s (rows s) (rest s i) (item.as_struct (eqb-true (item_kind s i) Struct e)).field_below x j
      go false true c d _ e _ _ j = rw (in_one x (enum_repr s i) j) (item.as_enum (eqb-true (item_kind s i) Enum e)).repr-below
      go false false true d _ _ e _ j = of_function (item.as_function e) (in-cases x (args s i) (or_nothing (return s i)) j)
      go false false false true _ _ _ e j = rw (in_one x (impl_row s i) j) (item.as-impl (eqb-true (item_kind s i) Impl e)).row_below
      go false false false false _ _ _ _ j = in-none x j
