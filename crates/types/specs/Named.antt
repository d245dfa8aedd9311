-- What the items before item i made known of the names, in the table of crate names, and of the functions, in one table of bits.
-- Assumes nothing: these are definitions.
use Rattle.std.specs.Prelude.{ℕ, zero, suc, ◌+◌, ◌*◌, ◌<◌, ◌≡◌, Bool, true, false, not, ◌&&◌, ◌||◌, List, [], ◌∷◌, length, get_or, replicate, eqb}
use Rattle.rules.specs.Numbers.{Struct, CxxType, name_self, name_count}
use Rattle.rules.specs.Base.{if'◌then◌else◌}
use Rattle.rules.specs.Format.{Accepted}
use Rattle.rules.specs.Names.{Words, add}
use Rattle.rules.specs.View.{enum_kind, items, item_kind, is_type, is_function, item_name, is_free, self_type}
use Rattle.rules.specs.Collect.{enters_structs, enters_enums, enters_cxx, enters_rust, enters_aliases, enters_untrusted, duplicates}
use Rattle.names.specs.Known.{column_count, table_size, LastColumn}
use Rattle.errors.specs.declared.Errors.{Errors}
use Rattle.errors.specs.Sink.{Reported}

-- the functions have a bit for each self type, or none, and each name: so many bits, and so many words
abbrev pub key_count : ℕ
key_count = name_count * (name_count + 1)

abbrev pub key_words : ℕ
key_words = 1028

-- whether an item of a kind does not go with what was declared before of its name: a struct, an enum, a type that is in cxx
abbrev pub clashes : (kind : ℕ) (structs enums cxx : Bool) → Bool
clashes k structs enums cxx =
    if' eqb k Struct || enum_kind k then not cxx || structs || enums else
    if' eqb k CxxType then cxx || (not structs && not enums) else true

module _ (s : List ℕ) where
  -- item i of an accepted sheet, with its kind and its name
  pub record Item (i k n : ℕ) : Type 0 where
    pub accepted : Accepted s
    pub below : i < items s
    pub kind : k ≡ item_kind s i
    pub name : n ≡ item_name s i

  -- ## The names

  -- which items enter column k: the six sets of items, none for the reasons, and the types
  abbrev pub enters_column : (k : ℕ) → ℕ → Bool
  enters_column k =
      get_or
      (enters_structs s ∷ enters_enums s ∷ enters_cxx s ∷ enters_rust s ∷ enters_aliases s ∷ enters_untrusted s ∷ (λ _. false) ∷ is_type s ∷ [])
      k
      (λ _. false)

  -- each column has the last of the first i items that enter it, for each name
  pub record Named (i : ℕ) (w : List ℕ) : Type 0 where
    pub long : length w ≡ table_size
    pub column : (k : ℕ) → k < column_count → LastColumn s (enters_column k) i w k

  -- ## The functions

  -- self type Self is neither looked up nor entered
  unfoldable pub of_self : ℕ → Bool
  of_self i = not (is_free s i) && eqb (self_type s i) name_self

  -- a bit for each self type and name; the number of names stands for no self type
  unfoldable pub key_of : ℕ → ℕ
  key_of i = name_count * (if' is_free s i then name_count else self_type s i) + item_name s i

  unfoldable pub enters_keys : ℕ → Bool
  enters_keys i = is_function s i && not (of_self i)

  unfoldable pub keys_to : (i : ℕ) → Words
  keys_to zero = replicate key_words 0
  keys_to (suc i) = let w = keys_to i in elim (enters_keys i) [ true ↦ add w (key_of i) | false ↦ w ]

-- ## What stands before an item's turn

-- the names
pub record WithNames (s : List ℕ) (i k n : ℕ) (w : List ℕ) : Type 0 where
  pub item : Item s i k n
  pub names : Named s i w

-- the functions
pub record WithKeys (s : List ℕ) (i k n : ℕ) (bits : List ℕ) : Type 0 where
  pub item : Item s i k n
  pub keys : bits ≡ keys_to s i

-- both
pub record KnownItem (s : List ℕ) (i k n : ℕ) (w bits : List ℕ) : Type 0 where
  pub item : Item s i k n
  pub names : Named s i w
  pub keys : bits ≡ keys_to s i

-- the functions, where the item is one
pub record KnownFunction (s : List ℕ) (i n : ℕ) (bits : List ℕ) : Type 0 where
  pub accepted : Accepted s
  pub below : i < items s
  pub is_function : is_function s i ≡ true
  pub name : n ≡ item_name s i
  pub keys : bits ≡ keys_to s i

-- ## The whole pass

-- it begins with what no items make known
pub record Nameable (s w : List ℕ) : Type 0 where
  pub accepted : Accepted s
  pub names : Named s 0 w

-- and ends with what all items do, and their duplicates reported
pub record Declared (s w : List ℕ) (cx : Errors) (cx' : Errors) : Type 0 where
  pub names : Named s (items s) w
  pub reported : Reported cx (duplicates s) cx'
