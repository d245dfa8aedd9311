-- Every diagnostic of an accepted sheet's full report has numbers that fit a record's fields: its message, place and detail are those of Messages, and an
-- accepted sheet has few rows, items, fields, arguments, derives and lifetimes.
-- Assumes nothing.
use Prim.Native.Nat.{ℕ, zero, suc, ◌≤◌, ◌<◌}
use mathlib.Core.Path.{◌≡◌, refl}
use mathlib.Core.Logic.{◌⊎◌, inl, inr}
use mathlib.Core.Bool.{Bool, true, false}
use mathlib.Core.List.{List}
use native.Mathlib.Omega.{arith}
use native.Mathlib.Decide.{dec_lt}
use lib.ListN.{length, get_or, set, replicate}
use lib.Seq.{get_or-set_same, get_or-set_other, set_out}
use Rattle.rules.specs.Numbers.{RustVec, Impl, no_item}
use Rattle.rules.specs.declared.Place.{Place}
use Rattle.rules.specs.declared.Place.TheVariants.{R, G, I, F, A, O, D, L}
use Rattle.rules.specs.declared.Diagnostic.{Diagnostic}
use Rattle.rules.specs.Diagnostics.{SmallPlace, Small}
use Rattle.rules.specs.Format.{Accepted}
use Rattle.rules.specs.View.{rows, items, item_name, is_type, is_function, item_kind, lifetime_count}
use Rattle.rules.specs.Collect.{last_to, duplicates}
use Rattle.rules.specs.Types.{Types, types_of, untrusted_of, reasons_for}
use Rattle.rules.specs.Order.{graph_of, walk_of}
use Rattle.rules.specs.Check.{check_type, check_api}
use Rattle.rules.specs.Report.{report_of, report}
use Rattle.laws.proofs.Base.Counts.{Eq?, same, other, eq?}
use Rattle.laws.proofs.Base.Forms.{All, ◌&◌, loop, all_map}
use Rattle.laws.proofs.Names.LastItems.{struct_is}
use Rattle.laws.proofs.Rule3.PlainFields.{good}
use Rattle.laws.proofs.Sheet.Accepted.Sheet.{sheet-of}
use Rattle.laws.proofs.Sheet.Accepted.Rows.{row_of}
use Rattle.laws.proofs.Sheet.Accepted.Items.{ItemOf, item-of}
use Rattle.laws.proofs.Report.Bounds.Reasons.{reasons-few}
use Rattle.laws.proofs.Sheet.Collect.{all-below}
use Rattle.laws.proofs.Report.Messages.{OfDuplicate, ItemOnly, duplicates-told}
use Rattle.laws.proofs.Report.Messages.Rows.{RowPlace, between_is, row_told, row-range}
use Rattle.laws.proofs.Report.Messages.Items.{OfItem, ItemPlace, ItemDetail, item-told}
use Rattle.laws.proofs.Report.Messages.Walk.{OfField, FieldPlace, walk-told}

-- ## Last items

same-get : (k n d : ℕ) → get_or (replicate k d) n d ≡ d
same-get zero n d = refl
same-get (suc k) zero d = refl
same-get (suc k) (suc n) d = same-get k n d

last-below : (s : List ℕ) (p : ℕ → Bool) (k : ℕ) → k ≤ 255 → (n : ℕ) → get_or (last_to s p k) n no_item < 256
unfolding last_to
last-below s p zero l n = let e = same-get 256 n no_item in omega arith
last-below s p (suc k) l n = go (p k) (last-below s p k (omega arith) n)
  where
    t : List ℕ
    t = last_to s p k

    stored : get_or t n no_item < 256 → Eq? n (item_name s k) → get_or (set t (item_name s k) k) n no_item < 256
    stored h (other _ e) = rw (get_or-set_other t (item_name s k) n k no_item e) h
    stored h (same _ e) = inside (dec_lt (item_name s k) (length t))
      where
        inside : Dec (item_name s k < length t) → get_or (set t (item_name s k) k) n no_item < 256
        inside (yes q) = rw (e, get_or-set_same t (item_name s k) k no_item q) (omega arith)
        inside (no q) = rw (set_out t (item_name s k) k (omega arith)) h

    go : (b : Bool) → get_or t n no_item < 256 → get_or {A = ℕ} (elim b as (λ _. List ℕ) [ true ↦ set t (item_name s k) k | false ↦ t ]) n no_item < 256
    go true h = stored h (eq? n (item_name s k))
    go false h = h

module _ (s : List ℕ) (acc : Accepted s) where
  -- ## Rows

  module _ (t : Types) (r : ℕ) (l : r < rows s) where
    row-place : (p : Place) → RowPlace s r p → SmallPlace p
    row-place (R q) (inl e) = omega (arith, (sheet-of s acc).few-rows)
    row-place (R q) (inr h) = let e = h.1 in let b = (row_of s acc r l).inner-falls RustVec refl h.0 in omega (arith, (sheet-of s acc).few-rows)
    row-place (G q j) h = let e = h.0 in (omega (arith, (sheet-of s acc).few-rows), omega (arith, h.2, (row_of s acc r l).few-args h.1))
    row-place (I i) h = absurd h
    row-place (F i j) h = absurd h
    row-place (A i j) h = absurd h
    row-place (O i) h = absurd h
    row-place (D i j) h = absurd h
    row-place (L i j) h = absurd h

    row_small : All Small (check_type s t r)
    row_small =
        all_map _ Small
        (λ d h. record {
          message = (let b = row-range s r h in omega arith);
          place = row-place d.place h.place;
          detail = (let x = h.detail in omega arith);
        })
        (row_told s t r)

  -- ## Items

  module _ (t : Types) (lasts : (n : ℕ) → untrusted_of t n < 256) (counts : (n : ℕ) → reasons_for t n < 65536) (i : ℕ) (l : i < items s) where
    item : ItemOf s i
    item = item-of s acc i l

    few : i < 256
    few = omega (arith, (sheet-of s acc).few-items)

    lifetimes-few : (is_type s i ≡ true) ⊎ ((is_function s i ≡ true) ⊎ (item_kind s i ≡ Impl)) → lifetime_count s i ≤ 8
    lifetimes-few (inl e) = (item.as-type e).lifetimes.few
    lifetimes-few (inr (inl e)) = (item.as_function e).lifetimes.few
    lifetimes-few (inr (inr e)) = (item.as-impl e).lifetimes.few

    item-place : (p : Place) → ItemPlace s t i p → SmallPlace p
    item-place (R r) h = absurd h
    item-place (G r j) h = absurd h
    item-place (I k) (inl e) = omega (arith, few)
    item-place (I k) (inr e) = omega (arith, lasts (item_name s i))
    item-place (F k j) h = let e = h.0 in (omega (arith, few), omega (arith, h.2, (item.as_struct h.1).few-fields))
    item-place (A k j) h = let e = h.0 in (omega (arith, few), omega (arith, h.2, (item.as_function h.1).few-args))
    item-place (O k) h = omega (arith, few)
    item-place (D k j) h = let e = h.0 in (omega (arith, few), omega (arith, h.2, (item.as-type h.1).few-derives))
    item-place (L k j) h = let e = h.0 in (omega (arith, few), omega (arith, h.2, lifetimes-few h.1))

    item-detail : (x : ℕ) → ItemDetail s t i x → x < 65536
    item-detail x (inl h) = omega arith
    item-detail x (inr (inl h)) = let e = item.as_enum h.0 in omega (arith, h.1, e.few-defaults, e.few-variants)
    item-detail x (inr (inr h)) = omega (arith, counts (item_name s i))

    item-small : All Small (check_api s t i)
    item-small = all_map (OfItem s t i) Small small (item-told s t i)
      where
        small : (d : Diagnostic) → OfItem s t i d → Small d
        small d h =
            let b = between_is 27 58 d.message h.message in
            record { message = omega (arith, b.1); place = item-place d.place h.place; detail = item-detail d.detail h.detail }

  -- ## Messages 1 and 2

  duplicate-place : (p : Place) → ItemOnly s p → SmallPlace p
  duplicate-place (R r) h = absurd h
  duplicate-place (G r j) h = absurd h
  duplicate-place (I i) h = omega (arith, (sheet-of s acc).few-items)
  duplicate-place (F i j) h = absurd h
  duplicate-place (A i j) h = absurd h
  duplicate-place (O i) h = absurd h
  duplicate-place (D i j) h = absurd h
  duplicate-place (L i j) h = absurd h

  duplicates-small : All Small (duplicates s)
  duplicates-small = all_map (OfDuplicate s) Small small (duplicates-told s)
    where
      small : (d : Diagnostic) → OfDuplicate s d → Small d
      small d h = record { message = omega (arith, h.message); place = duplicate-place d.place h.place; detail = omega (arith, h.detail) }

  field-place : (p : Place) → FieldPlace (graph_of s (types_of s)) p → SmallPlace p
  field-place (R r) h = absurd h
  field-place (G r j) h = absurd h
  field-place (I i) h = absurd h
  field-place (F i j) h =
      let k = (struct_is s i).0 h.0 in
      (omega (arith, k.below, (sheet-of s acc).few-items), omega (arith, h.1, ((item-of s acc i k.below).as_struct k.is_struct).few-fields))
  field-place (A i j) h = absurd h
  field-place (O i) h = absurd h
  field-place (D i j) h = absurd h
  field-place (L i j) h = absurd h

  walk-small : All Small (walk_of s (types_of s)).errors
  unfolding walk_of
  walk-small = all_map (OfField (graph_of s (types_of s))) Small small (walk-told (graph_of s (types_of s)) 255 (good s acc))
    where
      small : (d : Diagnostic) → OfField (graph_of s (types_of s)) d → Small d
      small d h = record { message = omega (arith, h.message); place = field-place d.place h.place; detail = omega (arith, h.detail) }

  -- ## The full report

  lasts : (n : ℕ) → untrusted_of (types_of s) n < 256
  unfolding types_of untrusted_of
  lasts = last-below s _ (items s) (sheet-of s acc).few-items

  few-reasons : (n : ℕ) → reasons_for (types_of s) n ≤ 17344
  unfolding reasons_for
  few-reasons n = reasons-few s acc n

  pub small-report : All Small (report s)
  unfolding report report_of
  small-report =
      duplicates-small & walk-small & loop _ _ (λ k l. row_small (types_of s) (get_or (types_of s).all k 0) (all-below s acc k l))
      & loop _ _ (λ i l. item-small (types_of s) lasts (λ n. omega (arith, few-reasons n)) i l)
