-- A table over the rows that is made upward: each entry by those of smaller rows.
-- Assumes nothing: these are definitions.
use Rattle.std.specs.Prelude.{ℕ, ◌<◌, ◌≤◌, ◌≡◌, List, get_or}
use Rattle.std.specs.Fn.{FnReturns}
use denote.Ref.{Bor}
use denote.Param.Members.{Shared}
use Rattle.rules.specs.Numbers.{most_rows}

-- the entry of row r is what the step says of it by a table that agrees with this one below r. A default x is never read
pub record EntryMade {T F : Type 0} (g : Shared F (Bor (List T) × (ℕ × Unit {0})) T) (f : F) (r : ℕ) (table : List T) : Type 0 where
  pub by : Bor (List T)
  pub agrees : (x : T) (y : ℕ) → y < r → get_or by.now y x ≡ get_or table y x
  pub says : (x : T) → FnReturns g f (by, (r, tt)) (get_or table r x)

-- so is that of each of the first n rows; the others are `none`
pub record MadeUpward {T F : Type 0} (g : Shared F (Bor (List T) × (ℕ × Unit {0})) T) (f : F) (n : ℕ) (none : T) (table : List T) : Type 0 where
  pub entries : (r : ℕ) → r < n → EntryMade g f r table
  pub others : (x : T) (r : ℕ) → n ≤ r → r < most_rows → get_or table r x ≡ none
