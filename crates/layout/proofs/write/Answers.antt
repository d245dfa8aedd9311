-- `layout::write` leaves the answer, or nothing: each case is a law on the whole.
-- Assumes nothing.
use borrow.Author.Rules.{rules}
use Rattle.layout.proofs.Whole.{all, nothing}
use Rattle.layout.proofs.write.Goals as goal

pub returns-then-out-lt-ANSWER : goal.returns-then-out-lt-ANSWER
returns-then-out-lt-ANSWER c = nothing (search rules)

pub returns : goal.returns
returns c = all c.if-out-lt-ANSWER.false c.fitting-n.ensures c.put_answer.ensures
