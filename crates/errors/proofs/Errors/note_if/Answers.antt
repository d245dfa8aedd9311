-- `errors::Errors::note_if` meets its contract, by whether the record is noted.
-- Assumes nothing.
use Rattle.std.proofs.Common.{rules}
use Rattle.rules.specs.Base.{if'◌then◌else◌}
use Rattle.errors.proofs.Errors.note_if.Goals as goal

pub returns-then-yes : goal.returns-then-yes
unfolding if'◌then◌else◌
returns-then-yes c = rw c.if-yes.true (search rules)

pub returns-else-yes : goal.returns-else-yes
unfolding if'◌then◌else◌
returns-else-yes c = rw c.if-yes.false (search rules)
