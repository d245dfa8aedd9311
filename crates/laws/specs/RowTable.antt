-- Tables with an entry for each row of a sheet, so that what is asked of a row many times is found once.
-- Assumes nothing: these are definitions.
use Rattle.std.specs.Prelude.{ℕ, ◌≤◌, ◌<◌, ◌≡◌, List, Bool, false, ltb, Option, Some, None, get_or}
use Rattle.rules.specs.Numbers.{no_item, most_rows}
use Rattle.rules.specs.Kinds.{some_unless}
use Rattle.rules.specs.Base.{if'◌then◌else◌}
use Rattle.rules.specs.View.{rows}
use Rattle.rules.specs.Rule3.{IsStruct}

-- entry r as the code reads it: there is room for 1,024, and what is no entry says none
unfoldable pub entry_or : {T : Type 0} (none : T) (d : List T) (r : ℕ) → T
entry_or none d r = if' ltb r most_rows then get_or d r none else none

-- d is the table of f: of each of the first n rows it says what f does. An entry is any value, and `says` is what it says
pub record TableOf {T A : Type 0} (says : T → A) (n : ℕ) (f : (row : ℕ) → A) (d : List T) : Type 0 where
  pub few : n ≤ most_rows
  pub entries : (x : T) (r : ℕ) → r < n → says (get_or d r x) ≡ f r

-- ## Tables of tests

-- row r is marked
abbrev pub marked : (table : List Bool) (r : ℕ) → Bool
marked u r = entry_or false u r

-- the marked rows of the sheet are those that pass
abbrev pub Marks : (s : List ℕ) (passes : (row : ℕ) → Bool) (d : List Bool) → Type 0
Marks s p d = TableOf (λ b. b) (rows s) p d

-- ## Tables of the items to which rows lead

-- the item of an entry
abbrev pub item_of : Option ℕ → ℕ
item_of None = no_item
item_of (Some i) = i

-- d has the item to which f leads each row of the sheet
abbrev pub LeadRows : (s : List ℕ) (f : (row : ℕ) → ℕ) (d : List (Option ℕ)) → Type 0
LeadRows s f d = TableOf (λ e. e) (rows s) (λ r. some_unless no_item (f r)) d

-- each row of the sheet leads to a struct item, or to none
pub record LeadTable (s : List ℕ) (d : List (Option ℕ)) : Type 0 where
  pub to_structs : (r i : ℕ) → r < rows s → get_or d r None ≡ Some i → IsStruct s i

-- what a row leads to by the table; to none, where it is no row of the sheet
unfoldable pub lead_by : (s : List ℕ) (d : List (Option ℕ)) → (row : ℕ) → ℕ
lead_by s d r = if' ltb r (rows s) then item_of (get_or d r None) else no_item
