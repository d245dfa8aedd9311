-- The reasons of a name are as many as stand for it in the list of reasons; on an accepted sheet at most 17,344.
-- Assumes nothing.
use Prim.Native.Nat.{ℕ, ◌*◌, ◌≤◌, ◌<◌}
use mathlib.Core.Path.{◌≡◌, refl}
use mathlib.Core.Bool.{Bool, true, false}
use mathlib.Core.List.{List, [], ◌∷◌, ◌++◌}
use native.Mathlib.Omega.{arith}
use native.Mathlib.Decide.{dec_lt}
use lib.Dec.{eqb}
use lib.ListN.{length, get_or, length-append, get_or-eq_default}
use borrow.Author.Tests.{eqb-true}
use Rattle.rules.specs.Numbers.{Struct}
use Rattle.rules.specs.Base.{if'◌then◌else◌, over}
use Rattle.rules.specs.Count.{count}
use Rattle.rules.specs.Format.{Accepted}
use Rattle.rules.specs.View.{items, item_kind, item_is, is_function, field_count, field, arg_count, arg, has_return, return}
use Rattle.rules.specs.Trivial.{extern_in, insist, reasons_of_item, reasons_of_row, reason_names, reasons_of}
use Rattle.rules.specs.Types.{Types, types_of}
use Rattle.laws.proofs.Base.Counts.{Eq?, same, other, eq?}
use Rattle.laws.proofs.Base.Lists.{over-length, over-get}
use Rattle.laws.proofs.Sheet.Accepted.Sheet.{sheet-of}
use Rattle.laws.proofs.Sheet.Accepted.Items.{ItemOf, item-of}
use Rattle.laws.proofs.Sheet.Collect.{all-few}
use Rattle.laws.proofs.Report.Bounds.Lengths.{none≤1, one≤1, if-few, over-few}

-- ## The counts

pub reasons-length : (ns : List ℕ) → length (reasons_of ns) ≡ 256
unfolding reasons_of
reasons-length ns = over-length (λ n. count n ns) 256

-- as often as the name stands in the list
pub reasons-are : (ns : List ℕ) (n : ℕ) → n < 256 → get_or (reasons_of ns) n 0 ≡ count n ns
unfolding reasons_of
reasons-are ns n l = over-get (λ n. count n ns) 0 256 n l

count-few : (n : ℕ) (l : List ℕ) → count n l ≤ length l
count-few n [] = omega arith
count-few n (m ∷ l) = go (eq? n m) (count-few n l)
  where
    go : Eq? n m → count n l ≤ length l → count n (m ∷ l) ≤ length (m ∷ l)
    go (same e _) ih = rw e (omega arith)
    go (other e _) ih = rw e (omega arith)

-- ## How many reasons there are

module _ (s : List ℕ) (extern : ℕ → Bool) where
  insist-few : (r : ℕ) → length (insist s extern r) ≤ 1
  unfolding insist
  insist-few r = search (if-few, one≤1, none≤1)

  row-few : (r : ℕ) → length (reasons_of_row s extern r) ≤ 1
  unfolding reasons_of_row
  row-few r = search (if-few, insist-few, none≤1)

  return-few : (i : ℕ) → length (if' has_return s i then insist s extern (return s i) else []) ≤ 1
  return-few i = search (if-few, insist-few, none≤1)

  item-few : Accepted s → (i : ℕ) → i < items s → length (reasons_of_item s extern i) ≤ 64
  unfolding reasons_of_item item_is if'◌then◌else◌
  item-few acc i l = go (eqb (item_kind s i) Struct) (is_function s i) refl refl
    where
      item : ItemOf s i
      item = item-of s acc i l

      fields : List ℕ
      fields = over (field_count s i) (λ j. insist s extern (field s i j))

      args : List ℕ
      args = over (arg_count s i) (λ j. insist s extern (arg s i j))

      returned : List ℕ
      returned = if' has_return s i then insist s extern (return s i) else []

      go : (a b : Bool) → eqb (item_kind s i) Struct ≡ a → is_function s i ≡ b → length (if' a then fields else if' b then args ++ returned else []) ≤ 64
      go true b e _ =
          let few : length fields ≤ field_count s i * 1 =
          over-few (λ j. insist s extern (field s i j)) (field_count s i) 1 (λ j _. insist-few (field s i j)) in
          omega (arith, (item.as_struct (eqb-true (item_kind s i) Struct e)).few-fields)
      go false true _ e =
          let few : length args ≤ arg_count s i * 1 = over-few (λ j. insist s extern (arg s i j)) (arg_count s i) 1 (λ j _. insist-few (arg s i j)) in
          omega (arith, (item.as_function e).few-args, length-append args returned, return-few i)
      go false false _ _ = omega arith

  pub names-few : Accepted s → (all : List ℕ) → length all ≤ 1024 → length (reason_names s extern all) ≤ 17344
  unfolding reason_names
  names-few acc all h =
      let a = over-few (reasons_of_item s extern) (items s) 64 (item-few acc) in
      let b = over-few (λ k. reasons_of_row s extern (get_or all k 0)) (length all) 1 (λ k _. row-few (get_or all k 0)) in
      simp length-append (omega (arith, (sheet-of s acc).few-items))

pub reasons-few : (s : List ℕ) → Accepted s → (n : ℕ) → get_or (types_of s).reasons n 0 ≤ 17344
unfolding types_of
reasons-few s acc n = go (dec_lt n 256)
  where
    t : Types
    t = types_of s

    names : List ℕ
    names = reason_names s (extern_in t.structs t.enums t.cxx) t.all

    go : Dec (n < 256) → get_or (reasons_of names) n 0 ≤ 17344
    go (yes l) = omega (arith, reasons-are names n l, count-few n names, names-few s (extern_in t.structs t.enums t.cxx) acc t.all (all-few s acc))
    go (no l) =
        omega (arith, get_or-eq_default (reasons_of names) 0 (let e = reasons-length names in let m : length (reasons_of names) ≤ n = omega arith in m))
