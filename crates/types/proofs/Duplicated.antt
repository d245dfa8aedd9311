-- What the duplicate tests say by the tables as of an item is what the rules say of the items before it.
-- Assumes nothing.
use Prim.Native.Nat.{ℕ, ◌<◌}
use mathlib.Core.Path.{◌≡◌, refl, sym, ap, ◌∙◌}
use mathlib.Core.Bool.{Bool, true, false}
use mathlib.Core.List.{List}
use native.Mathlib.Omega.{arith}
use lib.Dec.{ltb}
use Rattle.rules.specs.Numbers.{struct_set, enum_set, cxx_set}
use Rattle.rules.specs.Base.{if'◌then◌else◌}
use Rattle.rules.specs.Names.{Words, ◌∋◌}
use Rattle.rules.specs.View.{type_kind, function_kind, item_name, item_is, is_enum_item, is_type}
use Rattle.rules.specs.Collect.{names_to, enters_structs, enters_enums, enters_cxx, duplicate_type, duplicate_function, duplicate}
use Rattle.rules.specs.Types.{is_struct, is_enum, is_cxx}
use Rattle.names.specs.Known.{type_column, column_count, entry_at, names_in, tabled}
use Rattle.names.proofs.Columns.{has-is}
use Rattle.types.specs.Named.{clashes, Item, enters_column, WithNames, of_self, enters_keys}
use Rattle.types.proofs.Naming.{is-type, is_function_lem, set_is}

-- ## Types

module _ {s w : List ℕ} {i k n : ℕ} (h : WithNames s i k n w) where
  -- a name asked of a column is one of the items before
  in-column : (c : ℕ) → c < column_count → {b : Bool} → b ≡ (names_in w c ∋ n) → b ≡ (names_to s (enters_column s c) i ∋ item_name s i)
  in-column c l e =
      let below = h.item.below in
      e ∙ ap (λ (v : Words). v ∋ n) (set_is h.item.accepted (omega arith) h.names c l)
      ∙ ap (λ (m : ℕ). names_to s (enters_column s c) i ∋ m) h.item.name

  known_in : {b : Bool} → b ≡ ltb 0 (entry_at w type_column n) → b ≡ (names_to s (is_type s) i ∋ item_name s i)
  known_in e = in-column type_column (omega arith) (e ∙ sym (has-is w type_column n))

  structs-in : {b : Bool} → b ≡ is_struct (tabled s w) n → b ≡ (names_to s (enters_structs s) i ∋ item_name s i)
  unfolding is_struct tabled
  structs-in e = in-column struct_set (omega arith) e

  enums-in : {b : Bool} → b ≡ is_enum (tabled s w) n → b ≡ (names_to s (enters_enums s) i ∋ item_name s i)
  unfolding is_enum tabled
  enums-in e = in-column enum_set (omega arith) e

  cxx-in : {b : Bool} → b ≡ is_cxx (tabled s w) n → b ≡ (names_to s (enters_cxx s) i ∋ item_name s i)
  unfolding is_cxx tabled
  cxx-in e = in-column cxx_set (omega arith) e

  pub type-new : {known : Bool} → known ≡ ltb 0 (entry_at w type_column n) → known ≡ false → false ≡ duplicate_type s i
  unfolding duplicate_type if'◌then◌else◌
  type-new a e = rw (sym (known_in a) ∙ e) refl

  pub type-old : {known structs enums cxx r : Bool} → known ≡ ltb 0 (entry_at w type_column n) → known ≡ true
      → structs ≡ is_struct (tabled s w) n
      → enums ≡ is_enum (tabled s w) n
      → cxx ≡ is_cxx (tabled s w) n
      → r ≡ clashes k structs enums cxx
      → r ≡ duplicate_type s i
  unfolding duplicate_type item_is is_enum_item if'◌then◌else◌
  type-old a old b d e q = q ∙ sym (rw (← h.item.kind, structs-in b, enums-in d, cxx-in e, sym (known_in a) ∙ old) refl)

-- ## All items

module _ {s : List ℕ} {i k n : ℕ} (h : Item s i k n) where
  module _ {type : Bool} (is : type ≡ type_kind k) where
    pub of-type : {r : Bool} → type ≡ true → r ≡ duplicate_type s i → r ≡ duplicate s i
    unfolding duplicate if'◌then◌else◌
    of-type e q = rw (sym (is-type h is) ∙ e) q

    pub of_function : {r function : Bool} → type ≡ false → function ≡ function_kind k → function ≡ true → r ≡ duplicate_function s i → r ≡ duplicate s i
    unfolding duplicate if'◌then◌else◌
    of_function e f g q = rw (sym (is-type h is) ∙ e, sym (is_function_lem h f) ∙ g) q

    pub of_other : {function : Bool} → type ≡ false → function ≡ function_kind k → function ≡ false → false ≡ duplicate s i
    unfolding duplicate if'◌then◌else◌
    of_other e f g = rw (sym (is-type h is) ∙ e, sym (is_function_lem h f) ∙ g) refl

  -- whether the item enters the table of functions
  module _ {function : Bool} (is : function ≡ function_kind k) where
    pub enters_none : function ≡ false → enters_keys s i ≡ false
    unfolding enters_keys
    enters_none e = rw (sym (is_function_lem h is) ∙ e) refl

    pub enters-self : {self : Bool} → function ≡ true → self ≡ of_self s i → self ≡ true → enters_keys s i ≡ false
    unfolding enters_keys
    enters-self e q o = rw (sym (is_function_lem h is) ∙ e, sym q ∙ o) refl

    pub enters-some : {self : Bool} → function ≡ true → self ≡ of_self s i → self ≡ false → enters_keys s i ≡ true
    unfolding enters_keys
    enters-some e q o = rw (sym (is_function_lem h is) ∙ e, sym q ∙ o) refl
