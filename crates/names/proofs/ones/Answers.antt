-- `names::ones` counts the 64 bits of a word: `count_ones` counts all bits, and there are no more.
-- Assumes nothing.
use borrow.Author.Rules.{rules}
use Rattle.names.proofs.Laws.{ones-in}
use Rattle.names.proofs.ones.Goals as goal

pub returns : goal.returns
returns c = ones-in 64 c.args.word (search rules)
