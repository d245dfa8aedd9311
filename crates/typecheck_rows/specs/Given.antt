-- What a check of a row is given.
-- Assumes nothing: these are definitions.
use Rattle.std.specs.Prelude.{ℕ, ◌<◌, List, Bool}
use Rattle.rules.specs.View.{rows}
use Rattle.rules.specs.Types.{Types}
use Rattle.row_tables.specs.Tables.{WithSizes}

-- an accepted sheet, the table of its unsized rows, and one of the rows
pub record RowGiven (s : List ℕ) (t : Types) (sizes : List Bool) (r : ℕ) : Type 0 where
  pub sized : WithSizes s t sizes
  pub below : r < rows s
