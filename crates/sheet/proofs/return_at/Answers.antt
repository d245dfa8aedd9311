-- `sheet::return_at` is the row at a place, unless it is the number that means none.
-- Assumes nothing.
use Rattle.std.proofs.Common.{rules}
use Rattle.rules.specs.Base.{if'◌then◌else◌}
use Rattle.rules.specs.Kinds.{some_unless}
use Rattle.sheet.proofs.return_at.Goals as goal

pub returns-then-r : goal.returns-then-r
unfolding some_unless if'◌then◌else◌
returns-then-r c = search rules

pub returns-else-r : goal.returns-else-r
unfolding some_unless if'◌then◌else◌
returns-else-r c = search rules
