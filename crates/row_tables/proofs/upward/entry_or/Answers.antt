-- `row_tables::upward::entry_or` meets its contract: a table has 1,024 entries.
-- Assumes nothing.
use Rattle.std.proofs.Common.{le_refl, ◌∙◌, rules}
use Rattle.row_tables.proofs.Made.{entry-is}
use Rattle.row_tables.proofs.upward.entry_or.Goals as goal

pub returns : goal.returns
returns g c =
    (rw c.copied.ensures at c.unwrap_or.ensures)
    ∙ c.get.ensures.lookup.4 (le_refl _) c.args.none
    ∙ entry-is c.args.none c.args.table.now c.args.r (search rules)
