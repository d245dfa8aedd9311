-- The walk over the rows of a sheet: what it needs of the scratch, and what it leaves in it.
-- Assumes nothing: these are definitions.
use Rattle.std.specs.Prelude.{ℕ, ◌+◌, ◌*◌, ◌≤◌, ◌<◌, ◌≡◌, true, length, Option, Some}
use mathlib.Core.List.{List, ◌++◌, foldl}
use Rattle.rules.specs.Numbers.{Fn}
use Rattle.rules.specs.Format.{pair_at, Accepted}
use Rattle.rules.specs.View.{rows, kind, fn_return, fn_args, or_nothing, entry, items, is_function, args, return}
use Rattle.laws.specs.Skip.{skip_visit}
use Rattle.scratch.specs.declared.Rows.{Rows}
use Rattle.scratch.specs.Bytes.{marks_end, rows_of, HoldsRows}
use Rattle.scratch.specs.Collecting.{collected, Grows}

-- what a signature shows: its return before its arguments; and a function: its arguments before its return
abbrev pub of_signature : (s : List ℕ) (row : ℕ) → List ℕ
of_signature s row = or_nothing (fn_return s row) ++ fn_args s row

abbrev pub of_function : (s : List ℕ) (i : ℕ) → List ℕ
of_function s i = args s i ++ or_nothing (return s i)

-- the entries of the list at a place stand in the sheet
abbrev pub Inside : (s : List ℕ) (at : ℕ) → Type 0
Inside s at = (j : ℕ) → j < pair_at s at → at + 4 + 2 * j ≤ length s

-- what a walk needs: an accepted sheet, and a scratch that holds what was collected so far
pub record Held (s b : List ℕ) (n : ℕ) : Type 0 where
  pub accepted : Accepted s
  pub long : marks_end ≤ length b
  pub held : HoldsRows b n (rows_of b n)

-- and a row to begin with
pub record Walkable (s : List ℕ) (so_far : Rows) (row : ℕ) : Type 0 where
  pub walk : Held s so_far.scratch.now so_far.count
  pub below : row < rows s

-- or one that is an Fn
pub record WalkableFn (s : List ℕ) (so_far : Rows) (row : ℕ) : Type 0 where
  pub ready : Walkable s so_far row
  pub is_fn : kind s row ≡ Fn

-- or none
pub record WalkableOrNone (s : List ℕ) (so_far : Rows) (row : Option ℕ) : Type 0 where
  pub walk : Held s so_far.scratch.now so_far.count
  pub below : (r : ℕ) → row ≡ Some r → r < rows s

-- or the list of rows at a place
pub record WalkableList (s : List ℕ) (so_far : Rows) (at : ℕ) : Type 0 where
  pub walk : Held s so_far.scratch.now so_far.count
  pub below : (j : ℕ) → j < pair_at s at → entry s at j < rows s
  pub inside : Inside s at

-- or an item
pub record WalkableItem (s : List ℕ) (so_far : Rows) (i : ℕ) : Type 0 where
  pub walk : Held s so_far.scratch.now so_far.count
  pub below : i < items s

-- or a function
pub record WalkableFunction (s : List ℕ) (so_far : Rows) (i : ℕ) : Type 0 where
  pub ready : WalkableItem s so_far i
  pub is_function : is_function s i ≡ true

-- what a walk over the rows of a list leaves, whatever the fuel from a bound on
pub record Walks (s : List ℕ) (before : Rows) (bound : ℕ) (l : List ℕ) (after : Rows) : Type 0 where
  pub grown : (f : ℕ) → bound ≤ f → Grows before (foldl (skip_visit s f) (collected before) l) after
