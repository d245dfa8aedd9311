-- The fields of a name's last struct, as a list of rows in the sheet, and what the table of looks says of them.
-- Assumes nothing: these are definitions.
use Rattle.std.specs.Prelude.{ℕ, ◌+◌, ◌*◌, ◌≤◌, ◌<◌, ◌≡◌, List, length, get_or}
use Rattle.rules.specs.Numbers.{most_rows}
use Rattle.rules.specs.View.{entry}
use Rattle.rules.specs.Types.{types_of}
use Rattle.rules.specs.Improper.{looks_fields, looks_look}
use Rattle.row_tables.specs.declared.looks.Look.{Look as Entry}
use Rattle.row_tables.specs.Tables.{look_of}

-- they begin at a place, and there are so many; what a row among them is. A default x is never read
pub record FieldsOf (s : List ℕ) (looks : List Entry) (n at fields : ℕ) : Type 0 where
  pub count : fields ≡ looks_fields s (types_of s) n
  pub inside : (k : ℕ) → k < fields → at + 4 + 2 * k ≤ length s
  pub small : (k row : ℕ) → row ≡ entry s at k → k < fields → row < most_rows
  pub look : (x : Entry) (k row : ℕ) → row ≡ entry s at k → k < fields → look_of (get_or looks row x) ≡ looks_look s (types_of s) n k
