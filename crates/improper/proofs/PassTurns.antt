-- The turns of a pass: over the fields of a name's last struct, and over the names.
-- Assumes nothing.
use Prim.Native.Nat.{ℕ, zero, suc, ◌+◌, ◌-◌, ◌<◌}
use mathlib.Core.Path.{◌≡◌, refl, sym, ap, ◌∙◌}
use mathlib.Core.Logic.{◌≢◌}
use mathlib.Core.Bool.{Bool, true, false, ◌||◌}
use mathlib.Core.List.{List}
use native.Mathlib.Numerals.{add-one}
use native.Mathlib.Omega.{arith}
use borrow.Author.Tests.{ne_eqb}
use lib.ListN.{get_or}
use Rattle.rules.specs.Numbers.{no_item, most_rows}
use Rattle.rules.specs.Base.{if'◌then◌else◌}
use Rattle.rules.specs.Format.{pair_at}
use Rattle.rules.specs.Names.{Words, ◌∋◌, add}
use Rattle.rules.specs.View.{rows, rest, entry, field_count, field}
use Rattle.rules.specs.Types.{Types, types_of, struct_of}
use Rattle.rules.specs.Improper.{Looks, look_row, looks_fields, looks_look, looks_of, hits, found, is_new, pass_to}
use Rattle.rules.specs.Rule3.{IsStruct}
use Rattle.laws.proofs.Names.LastItems.{of-last}
use Rattle.laws.proofs.Sheet.Accepted.{field_row}
use Rattle.laws.proofs.Sheet.Accepted.Items.{StructOf, item-of}
use Rattle.names.specs.Known.{tabled}
use Rattle.row_tables.specs.declared.looks.Look.{Look as Entry}
use Rattle.row_tables.specs.Tables.{look_of}
use Rattle.improper.specs.Post.{Searchable, Passes}
use Rattle.improper.specs.Fields.{FieldsOf}

-- ## The last struct of a name

-- i is what the table of names has for it
module _ (s names : List ℕ) (looks : List Entry) (given : Searchable s names looks) (n i : ℕ) (e : i ≡ struct_of (tabled s names) n) where
  struct_is : i ≡ struct_of (types_of s) n
  struct_is = e ∙ ap (λ (t : Types). struct_of t n) given.own

  no-fields : i ≡ no_item → looks_fields s (types_of s) n ≡ 0
  unfolding looks_fields if'◌then◌else◌
  no-fields q = rw (← struct_is, q)

  -- it has none
  pub fields-none : (at : ℕ) → i ≡ no_item → FieldsOf s looks n at 0
  fields-none at q =
      record {
        count = sym (no-fields q);
        inside = λ k l. absurd (omega arith);
        small = λ k row r l. absurd (omega arith);
        look = λ x k row r l. absurd (omega arith);
      }

  module _ (ne : i ≢ no_item) where
    is-item : IsStruct s i
    is-item = (of-last s n i (sym struct_is) ne).struct

    fields-are : (at m : ℕ) → at ≡ rest s i → m ≡ pair_at s at → m ≡ looks_fields s (types_of s) n
    unfolding looks_fields field_count if'◌then◌else◌
    fields-are at m a q = rw (← struct_is, ne_eqb i no_item ne, if'◌then◌else◌, ← a) q

    counts : looks_fields s (types_of s) n ≡ field_count s i
    unfolding looks_fields if'◌then◌else◌
    counts = rw (← struct_is, ne_eqb i no_item ne, if'◌then◌else◌)

    of_struct : StructOf s i
    of_struct = (item-of s given.accepted i is-item.below).as_struct is-item.is_struct

    -- field k of it
    module _ (at row k : ℕ) (a : at ≡ rest s i) (r : row ≡ entry s at k) (h : k < looks_fields s (types_of s) n) where
      row_is : row ≡ field s i k
      unfolding field
      row_is = rw a at r

      row_below : row < rows s
      row_below = rw row_is (field_row s given.accepted i k is-item (omega (arith, counts)))

      row_small : row < most_rows
      row_small = let few = given.rows.few in let below = row_below in omega arith

      look_is : (x : Entry) → look_of (get_or looks row x) ≡ looks_look s (types_of s) n k
      unfolding looks_look
      look_is x =
          given.rows.entries x row row_below
          ∙ ap (λ (t : Types). look_row s t (rows s) row) given.own
          ∙ ap (look_row s (types_of s) (rows s)) (row_is ∙ ap (λ x. field s x k) struct_is)

    -- as they are read
    pub fields-of : (at m : ℕ) → at ≡ rest s i → m ≡ pair_at s at → FieldsOf s looks n at m
    fields-of at m a q =
        let count : m ≡ looks_fields s (types_of s) n = fields-are at m a q in
        record {
          count = count;
          inside = λ k l. rw a (of_struct.fields-inside k (omega (arith, count, counts)));
          small = λ k row r l. row_small at row k a r (omega (arith, count));
          look = λ x k row r l. look_is at row k a r (omega (arith, count)) x;
        }

-- ## The fields

abbrev pub found_in : (s : List ℕ) → Words → (n k : ℕ) → Bool
found_in s w n k = found (looks_of s (types_of s)) w n k

or_right : (a b : Bool) → b ≡ true → (a || b) ≡ true
or_right true b e = refl
or_right false b e = e

module _ (s : List ℕ) (w : Words) (n : ℕ) where
  pub found-start : found_in s w n 0 ≡ false
  unfolding found
  found-start = refl

  pub found-on : (k : ℕ) → found_in s w n k ≡ false → hits w (looks_look s (types_of s) n k) ≡ false → found_in s w n (k + 1) ≡ false
  unfolding found
  found-on k e d = rw (add-one, found, e) d

  found-later : (k d : ℕ) → found_in s w n k ≡ true → found_in s w n (d + k) ≡ true
  unfolding found
  found-later k zero e = let z : 0 + k ≡ k = omega arith in rw z e
  found-later k (suc d) e = let z : suc d + k ≡ suc (d + k) = omega arith in rw (z, found, found-later k d e)

  pub found-hit : (k m : ℕ) → k < m → hits w (looks_look s (types_of s) n k) ≡ true → found_in s w n m ≡ true
  unfolding found
  found-hit k m l e =
      let h : found_in s w n (suc k) ≡ true = or_right (found_in s w n k) (hits w (looks_look s (types_of s) n k)) e in
      let d : (m - suc k) + suc k ≡ m = omega arith in
      ap (found_in s w n) (sym d) ∙ found-later (suc k) (m - suc k) h

-- ## The names

pub passes_none : (s : List ℕ) (w : Words) → Passes s w 0 w false
unfolding pass_to
passes_none s w = record { names = refl; found = refl }

module _ (s : List ℕ) (b : Words) (n : ℕ) (w : Words) (new : Bool) (h : Passes s b n w new) where
  abbrev g : Looks
  g = looks_of s (types_of s)

  -- as the pass asks it, of its own set
  asked : (a : Bool) → is_new g w n ≡ a → is_new g (pass_to g n b).0 n ≡ a
  asked a e = ap (λ x. is_new g x n) (sym h.names) ∙ e

  stays : is_new g w n ≡ false → Passes s b (n + 1) w new
  unfolding pass_to
  stays e = record { names = rw (add-one, pass_to, asked false e) h.names; found = rw (add-one, pass_to, asked false e) h.found }

  pub passes-had : w ∋ n ≡ true → Passes s b (n + 1) w new
  unfolding is_new
  passes-had e = stays (rw e)

  pub passes-not : w ∋ n ≡ false → found_in s w n (looks_fields s (types_of s) n) ≡ false → Passes s b (n + 1) w new
  unfolding is_new
  passes-not e d = stays (rw (e, d))

  pub passes-new : w ∋ n ≡ false → found_in s w n (looks_fields s (types_of s) n) ≡ true → Passes s b (n + 1) (add w n) true
  unfolding is_new pass_to
  passes-new e d =
      let q : is_new g w n ≡ true = rw (e, d) in
      record { names = rw (add-one, pass_to, asked true q) (ap (λ x. add x n) h.names); found = rw (add-one, pass_to, asked true q) }
