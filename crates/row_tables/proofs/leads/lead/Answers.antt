-- `row_tables::leads::lead` meets its contract: each test that the code makes is that of the definition.
-- Assumes nothing.
use mathlib.Core.Path.{refl}
use Rattle.row_tables.specs.Tables.{lead_of}
use Rattle.laws.proofs.Graph.SameEdges.{item_is}
use Rattle.row_tables.proofs.Branches.{if-taken, if-left}
use Rattle.row_tables.proofs.leads.lead.Goals as goal

pub returns-then-not-is : goal.returns-then-not-is
unfolding lead_of
returns-then-not-is c = if-left _ _ c.if-not-is.true refl c.is.ensures

pub returns : goal.returns
unfolding lead_of
returns c =
    if-taken _ _ c.if-not-is.false
    (rw (c.struct_of.ensures, item_is, c.row_name.ensures) at c.entry.ensures) c.is.ensures
