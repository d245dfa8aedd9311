-- `types::reasons::Reasons::insist_return` meets its contract: none gives no reason.
-- Assumes nothing.
use Rattle.types.proofs.Counting.{counted_none}
use Rattle.types.proofs.reasons.Reasons.insist_return.Goals as goal

pub returns-in_default : goal.returns-in_default
returns-in_default c = rw c.in_default.is counted_none
