-- The scratch: collected row numbers as pairs from byte 0 on, and from byte 2,048 on one mark bit for each row of a sheet; nothing else stands in it.
-- Assumes nothing: these are definitions.
use Rattle.std.specs.Prelude.{ℕ, ◌+◌, ◌*◌, ◌/◌, ◌%◌, ◌^◌, ◌≤◌, ◌<◌, ◌≡◌, Bool, false, List, [], ◌∷◌, length, get_or, set, eqb}
use Rattle.std.specs.Int.Bits.{bit_or}
use Rattle.rules.specs.Numbers.{most_rows}
use Rattle.rules.specs.Base.{over}
use Rattle.rules.specs.Format.{pair_at}
use Rattle.rules.specs.Names.{bit_of}
use Rattle.laws.specs.Skip.{seen}
use Rattle.laws.specs.Left.{free}

-- ## Where things stand

-- the first byte of the marks: behind a pair for each of 1,024 rows
abbrev pub marks_place : ℕ
marks_place = 2048

-- the first byte behind them
abbrev pub marks_end : ℕ
marks_end = 2176

module _ (b : List ℕ) where
  -- the first n rows
  unfoldable pub rows_of : (n : ℕ) → List ℕ
  rows_of n = over n (λ k. pair_at b (2 * k) ∷ [])

  -- row r was seen
  unfoldable pub marked : (r : ℕ) → Bool
  marked r = eqb (bit_of (get_or b (marks_place + r / 8) 0) (r % 8)) 1

  -- ## Stores

  -- row r at place n
  abbrev pub with_row : (n r : ℕ) → List ℕ
  with_row n r = set (set b (2 * n) (r % 256)) (2 * n + 1) (r / 256)

  -- row r marked
  abbrev pub with_mark : (r : ℕ) → List ℕ
  with_mark r = set b (marks_place + r / 8) (bit_or (get_or b (marks_place + r / 8) 0) (2 ^ (r % 8)))

-- ## What it holds

-- b holds n rows, and they are these: they are marked, and there is room for all others
pub record HoldsRows (b : List ℕ) (n : ℕ) (all : List ℕ) : Type 0 where
  pub are : rows_of b n ≡ all
  pub marks : (r : ℕ) → r < most_rows → marked b r ≡ seen all r
  pub room : n + free most_rows (seen all) ≤ most_rows

-- b became b', which holds these n rows; the bytes behind the marks are kept
pub record Grown (b b' : List ℕ) (n : ℕ) (all : List ℕ) : Type 0 where
  pub held : HoldsRows b' n all
  pub kept : (i : ℕ) → marks_end ≤ i → get_or b' i 0 ≡ get_or b i 0

-- row r of a sheet can be added to the n rows that b holds: it is not one of them
pub record Addable (b : List ℕ) (n r : ℕ) : Type 0 where
  pub below : r < most_rows
  pub long : marks_end ≤ length b
  pub held : HoldsRows b n (rows_of b n)
  pub unseen : marked b r ≡ false
