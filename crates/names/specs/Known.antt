-- What is known of the names, in one table: eight columns with an entry for each of the 256 names. The first six have the last item that put the name into
-- structs, enums, cxx, rust, aliases and untrusted, as its number plus 1; the seventh how many reasons the name has to be trivial; the eighth the last item
-- that is a type, as its number plus 1. So in every column 0 is none, and the first seven are sets: the names with an entry above 0.
-- Assumes nothing: these are definitions.
use Rattle.std.specs.Prelude.{ℕ, zero, suc, ◌+◌, ◌*◌, ◌<◌, ◌≡◌, Bool, ◌&&◌, List, [], ◌∷◌, get_or, set, ltb, eqb}
use Rattle.rules.specs.Numbers.{no_item, name_count, struct_set, enum_set, cxx_set, rust_set, alias_set, untrusted_set, required_trivial_set}
use Rattle.rules.specs.Base.{if'◌then◌else◌, over}
use Rattle.rules.specs.Format.{Accepted}
use Rattle.rules.specs.Names.{Words, names_below}
use Rattle.rules.specs.Collect.{last_to}
use Rattle.rules.specs.Types.{Types, types_of}
use Rattle.names.specs.declared.known.Known.{Known}

abbrev pub type_column : ℕ
type_column = 7

abbrev pub column_count : ℕ
column_count = 8

-- how many entries there are
abbrev pub table_size : ℕ
table_size = name_count * column_count

-- the entry of name n in column k; there is none in another column, or of a number that is no name
unfoldable pub entry_at : List ℕ → (k n : ℕ) → ℕ
entry_at w k n = if' ltb k column_count && ltb n name_count then get_or w (name_count * k + n) 0 else 0

-- the item that an entry means
abbrev pub item_in : ℕ → ℕ
item_in zero = no_item
item_in (suc i) = i

-- the entry that means an item, or none
abbrev pub entry_of : ℕ → ℕ
entry_of i = if' eqb i no_item then 0 else i + 1

-- ## Columns

-- the names that have an entry in column k
unfoldable pub names_in : List ℕ → (k : ℕ) → Words
names_in w k = names_below (λ n. ltb 0 (entry_at w k n)) name_count

-- the item of each name
unfoldable pub last_in : List ℕ → (k : ℕ) → List ℕ
last_in w k = over name_count (λ n. item_in (entry_at w k n) ∷ [])

-- the count of each name
unfoldable pub counts_in : List ℕ → (k : ℕ) → List ℕ
counts_in w k = over name_count (λ n. entry_at w k n ∷ [])

-- column k has for each name the last of the first i items that pass a test
pub record LastColumn (s : List ℕ) (p : ℕ → Bool) (i : ℕ) (w : List ℕ) (k : ℕ) : Type 0 where
  pub at : (n : ℕ) → n < name_count → entry_at w k n ≡ entry_of (get_or (last_to s p i) n no_item)

-- the types of a sheet, as the table has them
unfoldable pub tabled : (s w : List ℕ) → Types
tabled s w =
    record {
      all = (types_of s).all;
      structs = names_in w struct_set;
      enums = names_in w enum_set;
      cxx = names_in w cxx_set;
      rust = names_in w rust_set;
      aliases = names_in w alias_set;
      untrusted = names_in w untrusted_set;
      reasons = counts_in w required_trivial_set;
      required_trivial = names_in w required_trivial_set;
      last_struct = last_in w struct_set;
      last_untrusted = last_in w untrusted_set;
      last_type = last_in w type_column;
    }

-- the bytes of a sheet that is lent with its table, and the types, as the table has them
abbrev pub sheet : Known → List ℕ
sheet known = known.s.now

abbrev pub types : Known → Types
types known = tabled known.s.now known.names.now

-- the sheet is accepted, and the table is its own
pub record OwnNames (s w : List ℕ) : Type 0 where
  pub accepted : Accepted s
  pub own : tabled s w ≡ types_of s

-- ## A store

-- name n gets the entry x in column k, if so
unfoldable pub entered : List ℕ → (k : ℕ) → (so : Bool) → (n x : ℕ) → List ℕ
entered w k so n x = if' so && ltb k column_count && ltb n name_count then set w (name_count * k + n) x else w
