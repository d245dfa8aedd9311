-- Reasons counted as the code counts them: in a column of the table of names, one more for each name of a list.
-- Assumes nothing: these are definitions.
use Rattle.std.specs.Prelude.{ℕ, ◌+◌, ◌*◌, ◌<◌, ◌≡◌, true, Bool, ◌||◌, ltb, eqb, Option, Some, None}
use mathlib.Core.List.{List, [], ◌++◌, foldl}
use Rattle.rules.specs.Numbers.{RustBox, RustVec, SliceRef, required_trivial_set}
use Rattle.rules.specs.Base.{if'◌then◌else◌, over}
use Rattle.rules.specs.Format.{pair_at, Accepted}
use Rattle.rules.specs.View.{entry, items}
use Rattle.rules.specs.Trivial.{insist, reasons_of_item, reasons_of_row}
use Rattle.rules.specs.Types.{is_extern}
use Rattle.names.specs.Known.{entry_at, tabled, entered}
use Rattle.row_tables.specs.Tables.{WantRows}
use Rattle.types.specs.declared.reasons.Reasons.{Reasons}
use Rattle.types.specs.Folded.{Folded}
use Rattle.types.specs.Walk.{Inside}

-- a count stops at its largest, so that no sum wraps and no caller owes a bound; no sheet has so many reasons
abbrev pub most_reasons : ℕ
most_reasons = 65535

unfoldable pub one_more : ℕ → ℕ
one_more x = if' ltb x most_reasons then x + 1 else x

-- a table with one reason more for a name
abbrev pub counted : (w : List ℕ) (n : ℕ) → List ℕ
counted w n = entered w required_trivial_set true n (one_more (entry_at w required_trivial_set n))

-- and for each name of a list
abbrev pub tally : (w ns : List ℕ) → List ℕ
tally w ns = foldl counted w ns

-- u is w with the reasons of a list counted
abbrev pub Tallied : (w ns u : List ℕ) → Type 0
Tallied w ns u = Folded counted w ns u

-- Box, Vec and slice give a reason for the name in them
abbrev pub holder : (kind : ℕ) → Bool
holder k = eqb k RustBox || eqb k RustVec || eqb k SliceRef

-- u is t with the reasons of a list counted, of the same sheet and in the same table of names
pub record Counted (t : Reasons) (ns : List ℕ) (u : Reasons) : Type 0 where
  pub names : Tallied t.names.now ns u.names.now
  pub sheet : u.s ≡ t.s
  pub wants : u.wants ≡ t.wants
  pub same : u.names.ghost_name ≡ t.names.ghost_name

-- the table of the names that the rows want
abbrev pub Wants : Reasons → Type 0
Wants u = WantRows u.s.now (tabled u.s.now u.names.now) u.wants.now

-- what the reasons of the list at a place need: that table, and entries that stand in the sheet
pub record WantsList (u : Reasons) (at : ℕ) : Type 0 where
  pub wants : Wants u
  pub inside : Inside u.s.now at

-- those of an item: that table, and an accepted sheet that has the item
pub record WantsItem (u : Reasons) (i : ℕ) : Type 0 where
  pub wants : Wants u
  pub accepted : Accepted u.s.now
  pub below : i < items u.s.now

-- and those of all items
pub record WantsItems (u : Reasons) : Type 0 where
  pub wants : Wants u
  pub accepted : Accepted u.s.now

-- the rules' lists of reasons, by what a table has of the names
module _ (s w : List ℕ) where
  abbrev pub of_plain : (r : ℕ) → List ℕ
  of_plain r = insist s (is_extern (tabled s w)) r

  -- of the rows of the list at a place
  abbrev pub of_list : (at : ℕ) → List ℕ
  of_list at = over (pair_at s at) (λ j. of_plain (entry s at j))

  -- of a return row, or of none
  abbrev pub of_return : Option ℕ → List ℕ
  of_return (Some r) = of_plain r
  of_return None = []

  abbrev pub of_item : (i : ℕ) → List ℕ
  of_item i = reasons_of_item s (is_extern (tabled s w)) i

  abbrev pub of_row : (r : ℕ) → List ℕ
  of_row r = reasons_of_row s (is_extern (tabled s w)) r

  abbrev pub of_items : List ℕ
  of_items = over (items s) of_item

  -- of the n rows that a scratch holds
  abbrev pub of_rows : (scratch : List ℕ) (n : ℕ) → List ℕ
  of_rows scratch n = over n (λ k. of_row (pair_at scratch (2 * k)))

  -- of all items, and then of those rows
  abbrev pub of_all : (scratch : List ℕ) (n : ℕ) → List ℕ
  of_all scratch n = of_items ++ of_rows scratch n
