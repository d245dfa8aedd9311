-- `known::item_in` is the item that an entry means.
-- Assumes nothing.
use Rattle.std.proofs.Common.{rules}
use Rattle.rules.specs.Base.{if'◌then◌else◌}
use Rattle.rules.specs.Kinds.{some_unless}
use Rattle.names.proofs.Items.{no-entry, one-less}
use Rattle.names.proofs.known.item_in.Goals as goal

pub returns-then-entry-eq0 : goal.returns-then-entry-eq0
returns-then-entry-eq0 c = search (rules, no-entry)

pub returns-then-item-eq-NONE : goal.returns-then-item-eq-NONE
unfolding some_unless if'◌then◌else◌
returns-then-item-eq-NONE c = search (rules, one-less)

pub returns : goal.returns
unfolding some_unless if'◌then◌else◌
returns c = search (rules, one-less)
