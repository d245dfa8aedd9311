-- What items show: where their rows stand, that this is inside the sheet, that these are rows of the sheet, and the walk over them by kinds.
-- Assumes nothing.
use Prim.Native.Nat.{ℕ, zero, suc, ◌+◌, ◌*◌, ◌<◌, ◌≤◌}
use mathlib.Core.Path.{◌≡◌, refl, sym, ap, ◌∙◌}
use mathlib.Core.Bool.{Bool, true, false, ◌||◌}
use mathlib.Core.List.{List, [], ◌∷◌, ◌++◌, foldl, foldl-append}
use native.Mathlib.Omega.{arith}
use native.Mathlib.Numerals.{add-one}
use lib.ListN.{get_or}
use lib.Dec.{eqb}
use borrow.Author.Tests.{ne_eqb, eqb-true}
use native.Mathlib.Nat.{le_refl}
use mathlib.Core.Logic.{◌⊎◌, inl, inr}
use Rattle.std.specs.Prelude.{Option, Some}
use Rattle.rules.specs.declared.item.ItemKind.{ItemKind}
use Rattle.rules.specs.Kinds.{item_kind as kind_of_item, item_number, some_unless}
use Rattle.rules.proofs.KindLaws.{item_kind-back}
use Rattle.rules.specs.Numbers.{Struct, Enum, CxxFunction, RustFunction, Impl, no_row}
use Rattle.rules.specs.Base.{over}
use Rattle.rules.specs.Format.{pair_at, offset, Accepted}
use Rattle.rules.specs.View.{function_kind, rows, past, entry, entries, or_nothing, items, item_place, item_kind, is_function}
use Rattle.rules.specs.View.{rest, fields, field_count, field, enum_repr, receiver_place, form, return_place, return, arg_count, arg, args, impl_row}
use Rattle.rules.specs.Collect.{shown_by}
use Rattle.rules.specs.Types.{types_of}
use Rattle.laws.specs.Skip.{skip_visit, skip_to}
use Rattle.laws.proofs.Base.Tests.{or_is}
use Rattle.laws.proofs.Sheet.Collect.{all-skip}
use Rattle.row_tables.specs.Tables.{one_of}
use Rattle.laws.proofs.Sheet.Accepted.Items.{item-of}
use Rattle.laws.proofs.Sheet.Collect.Shown.{shown_by-struct, shown_by-enum, shown_by-function, shown_by-impl, shown_by-other}
use Rattle.scratch.specs.declared.Rows.{Rows}
use Rattle.scratch.specs.Bytes.{rows_of, Grown}
use Rattle.scratch.specs.Collecting.{collected, Grows}
use Rattle.types.specs.Walk.{Inside, Held, Walks}
use Rattle.types.proofs.Walking.{still, wider, further, read_shown, read-below}

-- ## Places

module _ (s : List ℕ) (byte : (i : ℕ) → get_or s i 0 < 256) where
  pair_small : (at : ℕ) → pair_at s at < 65536
  unfolding pair_at
  pair_small at = omega (arith, byte at, byte (at + 1))

  -- so a place of 32 bits can be moved on
  pub place-small : (i : ℕ) → return_place s i < 1000000
  unfolding return_place receiver_place past form item_place offset
  place-small i =
      omega (arith, pair_small (4 + 2 * (pair_at s 0 + i)), pair_small (pair_at s (4 + 2 * (pair_at s 0 + i)) + 6), pair_small (past s (item_place s i + 6)))

-- ## Rows of the sheet

module _ (s : List ℕ) (acc : Accepted s) (i : ℕ) (l : i < items s) where
  pub args-below : is_function s i ≡ true → {at : ℕ} → at ≡ return_place s i → (j : ℕ) → j < pair_at s (at + 2) → entry s (at + 2) j < rows s
  unfolding arg_count arg
  args-below h e = rw e ((item-of s acc i l).as_function h).arg-below

  pub args-inside : is_function s i ≡ true → {at : ℕ} → at ≡ return_place s i → Inside s (at + 2)
  unfolding arg_count
  args-inside h e = rw e ((item-of s acc i l).as_function h).args-inside

  pub return-below : is_function s i ≡ true → {at : ℕ} {row : Option ℕ} → at ≡ return_place s i → row ≡ some_unless no_row (pair_at s at) → (r : ℕ)
      → row ≡ Some r → r < rows s
  unfolding return
  return-below h e q = read-below q (rw e ((item-of s acc i l).as_function h).return-below)

  pub fields-below : {k at : ℕ} → k ≡ item_kind s i → k ≡ Struct → at ≡ rest s i → (j : ℕ) → j < pair_at s at → entry s at j < rows s
  unfolding field_count field
  fields-below p h e = rw e ((item-of s acc i l).as_struct (sym p ∙ h)).field_below

  pub fields-inside : {k at : ℕ} → k ≡ item_kind s i → k ≡ Struct → at ≡ rest s i → Inside s at
  unfolding field_count
  fields-inside p h e = rw e ((item-of s acc i l).as_struct (sym p ∙ h)).fields-inside

  pub repr-below : {k x : ℕ} → k ≡ item_kind s i → k ≡ Enum → x ≡ enum_repr s i → x < rows s
  repr-below p h e = rw e ((item-of s acc i l).as_enum (sym p ∙ h)).repr-below

  pub impl-below : {k x : ℕ} → k ≡ item_kind s i → k ≡ Impl → x ≡ impl_row s i → x < rows s
  impl-below p h e = rw e ((item-of s acc i l).as-impl (sym p ∙ h)).row_below

-- ## The walks

module _ {s : List ℕ} {b : Rows} (i : ℕ) where
  pub function-walk : {d e : Rows} {at bound : ℕ} {row : Option ℕ} → at ≡ return_place s i → row ≡ some_unless no_row (pair_at s at)
      → Walks s b bound (entries s (at + 2)) d
      → Walks s d bound (one_of row) e → Walks s b bound (args s i ++ or_nothing (return s i)) e
  unfolding args return
  function-walk e q w v = rw (← e, ← (read_shown _ q)) (further w v)

  pub fields-walk : {d : Rows} {k at bound : ℕ} → k ≡ item_kind s i → k ≡ Struct → at ≡ rest s i → Walks s b bound (entries s at) d
      → Walks s b bound (shown_by s i) d
  unfolding fields
  fields-walk p h e w = rw (shown_by-struct s i (sym p ∙ h), ← e) w

  pub repr-walk : {d : Rows} {k x bound : ℕ} → k ≡ item_kind s i → k ≡ Enum → x ≡ enum_repr s i → x < bound → Walks s b (suc x) (x ∷ []) d
      → Walks s b bound (shown_by s i) d
  repr-walk p h e l w = rw (shown_by-enum s i (sym p ∙ h), ← e) (wider w (omega arith))

  pub impl-walk : {d : Rows} {k x bound : ℕ} → k ≡ item_kind s i → k ≡ Impl → x ≡ impl_row s i → x < bound → Walks s b (suc x) (x ∷ []) d
      → Walks s b bound (shown_by s i) d
  impl-walk p h e l w = rw (shown_by-impl s i (sym p ∙ h), ← e) (wider w (omega arith))

  pub function-shown : {d : Rows} {k bound : ℕ} {t : Bool} → k ≡ item_kind s i → t ≡ function_kind k → t ≡ true
      → Walks s b bound (args s i ++ or_nothing (return s i)) d → Walks s b bound (shown_by s i) d
  function-shown p q h w = rw (shown_by-function s i (kinds p (or_is _ _ (sym q ∙ h)))) w
    where
      kinds : {k : ℕ} → k ≡ item_kind s i → (eqb k CxxFunction ≡ true) ⊎ (eqb k RustFunction ≡ true)
          → (item_kind s i ≡ CxxFunction) ⊎ (item_kind s i ≡ RustFunction)
      kinds {k} e (inl t) = inl (sym e ∙ eqb-true k CxxFunction t)
      kinds {k} e (inr t) = inr (sym e ∙ eqb-true k RustFunction t)

  -- the kinds that show nothing
  pub none-shown : {k bound : ℕ} → Held s b.scratch.now b.count → k ≡ item_kind s i
      → (eqb k Struct || eqb k Enum || function_kind k || eqb k Impl) ≡ false
      → Walks s b bound (shown_by s i) b
  none-shown {k} h p e = rw (shown_by-other s i k e (sym p)) (still h)

  pub past-shown : {bound : ℕ} → Held s b.scratch.now b.count → 9 ≤ item_kind s i → Walks s b bound (shown_by s i) b
  past-shown h l =
      let not : (k : ℕ) → k < 9 → eqb (item_kind s i) k ≡ false = λ k m. ne_eqb (item_kind s i) k (λ q. omega arith) in
      none-shown h refl (rw (not 1 (omega arith), not 2 (omega arith), not 5 (omega arith), not 6 (omega arith), not 8 (omega arith)))

-- a kind that was read is that of the number
pub kind-of : {n : ℕ} {o : Option ItemKind} {k : ItemKind} → o ≡ kind_of_item n → o ≡ Some k → n ≡ item_number k
kind-of {n} e h = item_kind-back n (sym e ∙ h)

pub is_function_lem : (s : List ℕ) (i : ℕ) {k : ℕ} {t : Bool} → k ≡ item_kind s i → t ≡ function_kind k → t ≡ true → is_function s i ≡ true
unfolding is_function
is_function_lem s i e q h = rw (← e) (sym q ∙ h)

-- ## The whole sheet

-- what the first k items show, one after the other
pub to-items : (s : List ℕ) (k : ℕ) → skip_to s k ≡ foldl (skip_visit s (rows s)) [] (over k (shown_by s))
unfolding skip_to over
to-items s zero = refl
to-items s (suc k) =
    ap (λ (all : List ℕ). foldl (skip_visit s (rows s)) all (shown_by s k)) (to-items s k)
    ∙ sym (foldl-append (skip_visit s (rows s)) [] (over k (shown_by s)) (shown_by s k))

module _ {s : List ℕ} {b : Rows} where
  pub items-none : Held s b.scratch.now b.count → Walks s b (rows s) (over 0 (shown_by s)) b
  unfolding over
  items-none h = still h

  pub items_more : {d e : Rows} (i : ℕ) → Walks s b (rows s) (over i (shown_by s)) d → Walks s d (rows s) (shown_by s i) e
      → Walks s b (rows s) (over (i + 1) (shown_by s)) e
  unfolding over
  items_more i w v = rw (add-one i) (further w v)

  pub items-end : {d : Rows} (i : ℕ) → Accepted s → b.count ≡ 0 → Walks s b (rows s) (over i (shown_by s)) d → i ≡ items s → Grows b (types_of s).all d
  unfolding rows_of over
  items-end i acc z w e =
      let g = w.grown (rows s) (le_refl (rows s)) in
      let none : collected b ≡ [] = ap (rows_of b.scratch.now) z in
      let first : foldl (skip_visit s (rows s)) (collected b) (over i (shown_by s)) ≡ skip_to s i =
      ap (λ l. foldl (skip_visit s (rows s)) l (over i (shown_by s))) none ∙ sym (to-items s i) in
      rw (first ∙ ap (skip_to s) e ∙ sym (all-skip s acc)) at g

-- the bytes of the scratch, which nobody borrows any more
pub left : {b d : Rows} {all bytes : List ℕ} → Grows b all d → bytes ≡ d.scratch.now → Grown b.scratch.now bytes d.count all
left g e = rw e g.grown
