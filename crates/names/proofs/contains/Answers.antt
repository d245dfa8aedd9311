-- `names::contains` is `◌∋◌` of the rules: the word holds the bit, and past the last word there is none.
-- Assumes nothing.
use borrow.Author.Rules.{rules}
use Rattle.rules.specs.Names.{◌∋◌}
use Rattle.names.proofs.Laws.{contains-not}
use Rattle.names.proofs.contains.Goals as goal

pub returns-then-q-lt4 : goal.returns-then-q-lt4
unfolding ◌∋◌
returns-then-q-lt4 c = c.has_bit.ensures

pub returns-else-q-lt4 : goal.returns-else-q-lt4
returns-else-q-lt4 c = search (rules, contains-not)
