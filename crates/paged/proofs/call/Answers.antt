-- `paged::call` is the one call on a list of blank records.
-- Assumes nothing.
use Rattle.paged.proofs.call.Goals as goal

pub returns : goal.returns
returns c = record { called = rw c.blank-list.ensures at c.call-answer.ensures }
