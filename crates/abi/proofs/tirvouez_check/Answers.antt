-- The call meets its contract: a buffer without room for an answer, and any other. Assumes nothing.
use borrow.Author.Rules.{rules}
use Rattle.abi.proofs.Answers.{nothing, checked}
use Rattle.abi.proofs.tirvouez_check.Goals as goal

pub returns-then-out-lt-ANSWER : goal.returns-then-out-lt-ANSWER
returns-then-out-lt-ANSWER c = nothing (search rules)

pub returns : goal.returns
returns c = checked (search rules) c.answer.ensures
