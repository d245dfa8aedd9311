-- What the rows that are being collected gain.
-- Assumes nothing: these are definitions.
use Rattle.std.specs.Prelude.{ℕ, ◌≡◌, List, length}
use Rattle.scratch.specs.declared.Rows.{Rows}
use Rattle.scratch.specs.Bytes.{rows_of, Grown}

-- the rows collected so far
abbrev pub collected : Rows → List ℕ
collected so_far = rows_of so_far.scratch.now so_far.count

-- now they are these, in the same scratch
pub record Grows (before : Rows) (all : List ℕ) (after : Rows) : Type 0 where
  pub grown : Grown before.scratch.now after.scratch.now after.count all
  pub long : length after.scratch.now ≡ length before.scratch.now
  pub same : after.scratch.ghost_name ≡ before.scratch.ghost_name
