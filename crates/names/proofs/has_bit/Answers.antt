-- `names::has_bit` gives the bit of name n in its word: a shift and a remainder are `bit_of`.
-- Assumes nothing.
use borrow.Author.Rules.{rules}
use Rattle.rules.specs.Names.{bit_of}
use Rattle.names.proofs.has_bit.Goals as goal

pub returns : goal.returns
unfolding bit_of
returns c = search rules
