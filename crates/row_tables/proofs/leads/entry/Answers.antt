-- `row_tables::leads::entry` meets its contract: by its test.
-- Assumes nothing.
use Rattle.std.proofs.Common.{rules}
use Rattle.rules.specs.Base.{if'◌then◌else◌}
use Rattle.row_tables.specs.Tables.{lead_entry}
use Rattle.row_tables.proofs.leads.entry.Goals as goal

pub returns-in-Some : goal.returns-in-Some
unfolding lead_entry if'◌then◌else◌
returns-in-Some c = search rules

pub returns-in_default : goal.returns-in_default
unfolding lead_entry if'◌then◌else◌
returns-in_default c = search rules

pub returns-in_default-2 : goal.returns-in_default-2
unfolding lead_entry if'◌then◌else◌
returns-in_default-2 c = search rules
