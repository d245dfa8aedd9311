-- `row_tables::lifetimes::is_marked_return` meets its contract: there is a return row, or none.
-- Assumes nothing.
use Rattle.std.proofs.Common.{rules}
use Rattle.row_tables.proofs.AnyOf.{any-option}
use Rattle.row_tables.proofs.lifetimes.is_marked_return.Goals as goal

pub returns : goal.returns
returns c = any-option _ _ _ _ c.is_some_and.ensures (λ r p. search rules)
