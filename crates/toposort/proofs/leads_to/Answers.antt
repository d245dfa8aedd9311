-- `toposort::leads_to` meets its contract: each field of a struct item is a row of the table.
-- Assumes nothing.
use mathlib.Core.Path.{refl, ap, ◌∙◌}
use Rattle.std.specs.Prelude.{None}
use Rattle.laws.specs.RowTable.{item_of}
use Rattle.toposort.proofs.Edges.{led-at}
use Rattle.toposort.proofs.leads_to.Goals as goal

pub returns : goal.returns
returns c i h a l = ap item_of (c.said.ensures None) ∙ led-at c.requires.0 i c.args.k c.args.at _ h a l refl
