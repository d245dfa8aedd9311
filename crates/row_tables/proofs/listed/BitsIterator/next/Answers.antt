-- `next` of `Bits` takes the lowest bit out of the word.
-- Assumes nothing.
use native.Mathlib.Omega.{arith}
use Rattle.row_tables.proofs.Lowest.{lowest_out}
use Rattle.row_tables.proofs.listed.BitsIterator.next.Goals as goal

pub returns-clause-steps : goal.returns-clause-steps
returns-clause-steps c = lowest_out _ c.if-self-eq0.false (omega arith)
