-- `names::put` is `add` of the rules: the word gets the bit, and past the last word nothing is stored.
-- Assumes nothing.
use borrow.Author.Rules.{rules}
use Rattle.rules.specs.Names.{add}
use Rattle.names.proofs.Laws.{insert-none}
use Rattle.names.proofs.put.Goals as goal

pub returns-then-q-lt4 : goal.returns-then-q-lt4
unfolding add
returns-then-q-lt4 c = rw c.with_bit.ensures

pub returns-else-q-lt4 : goal.returns-else-q-lt4
returns-else-q-lt4 c = search (rules, insert-none)
