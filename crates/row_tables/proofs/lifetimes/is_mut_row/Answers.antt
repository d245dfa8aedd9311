-- `row_tables::lifetimes::is_mut_row` meets its contract: each test that the code makes is that of the definition.
-- Assumes nothing.
use Rattle.laws.specs.RowSteps.{mut_step}
use Rattle.row_tables.proofs.Branches.{if-taken, if-left}
use Rattle.row_tables.proofs.lifetimes.is_mut_row.Goals as goal

pub returns-then-is_lifetime_mut : goal.returns-then-is_lifetime_mut
unfolding mut_step
returns-then-is_lifetime_mut c = if-taken _ _ c.if-is_lifetime_mut.true c.if-is_lifetime_mut.true c.is_lifetime_mut.ensures

pub returns-else-is_lifetime_mut : goal.returns-else-is_lifetime_mut
unfolding mut_step
returns-else-is_lifetime_mut c = if-left _ _ c.if-is_lifetime_mut.false c.any_marked_shown.ensures c.is_lifetime_mut.ensures
