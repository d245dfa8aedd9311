-- `row_tables::leaf::is_leaf` meets its contract: by the kind, and a number that is no kind's is no leaf's.
-- Assumes nothing.
use Rattle.std.proofs.Common.{rules}
use Rattle.laws.specs.Kinds.{leaf}
use Rattle.row_tables.proofs.RowKinds.{kind_passes, no-leaf}
use Rattle.row_tables.proofs.leaf.is_leaf.Goals as goal

pub returns : goal.returns
returns c = kind_passes leaf _ _ _ _ c.kind.ensures c.is_some_and.ensures (λ k p. search rules) (no-leaf _ c.kind.ensures)
