-- `types::duplicates::clashes` meets its contract: kind by kind.
-- Assumes nothing.
use Rattle.std.proofs.Common.{rules}
use Rattle.rules.specs.Base.{if'◌then◌else◌}
use Rattle.types.proofs.duplicates.clashes.Goals as goal

pub returns-then-structs : goal.returns-then-structs
unfolding if'◌then◌else◌
returns-then-structs c = search rules

pub returns-else-structs : goal.returns-else-structs
unfolding if'◌then◌else◌
returns-else-structs c = search rules

pub returns-then-cxx : goal.returns-then-cxx
unfolding if'◌then◌else◌
returns-then-cxx c = search rules

pub returns-then-not-structs : goal.returns-then-not-structs
unfolding if'◌then◌else◌
returns-then-not-structs c = search rules

pub returns-else-not-structs : goal.returns-else-not-structs
unfolding if'◌then◌else◌
returns-else-not-structs c = search rules

pub returns-in_default : goal.returns-in_default
unfolding if'◌then◌else◌
returns-in_default c = search rules
