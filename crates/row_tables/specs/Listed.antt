-- What a table says of the entries of a list of rows, and of which of them it has something to say.
-- Assumes nothing: these are definitions.
use Rattle.std.specs.Prelude.{ℕ, ◌≡◌, ◌+◌, ◌*◌, ◌^◌, ◌≤◌, ◌<◌, List, Bool, length, get_or, Option, None, is_some}
use Rattle.std.specs.Int.Count.{count_trailing_zeros}
use Rattle.rules.specs.Numbers.{most_rows, most_fields}
use Rattle.rules.specs.View.{entry}

-- entry k of the list at a place stands in the sheet, and is a row of which a table has room to say something
pub record EntryIn (s : List ℕ) (at k : ℕ) : Type 0 where
  pub inside : at + 4 + 2 * k ≤ length s
  pub row : entry s at k < most_rows

-- n such entries, at most as many as a word has bits
pub record ListIn (s : List ℕ) (at n : ℕ) : Type 0 where
  pub few : n ≤ most_fields
  pub entries : (k : ℕ) → k < n → EntryIn s at k

-- the table has something of entry k
abbrev pub told_at : {T : Type 0} (s : List ℕ) (table : List (Option T)) (at k : ℕ) → Bool
told_at s d at k = is_some (get_or d (entry s at k) None)

-- bit j is the lowest that is set in the word w, and without it the word is `rest`
pub record LowestOut (w rest j : ℕ) : Type 0 where
  pub some : 0 < w
  pub lowest : j ≡ count_trailing_zeros 64 w
  pub others : rest + 2 ^ j ≡ w
