-- `types::reasons::count_name` meets its contract: none counts nothing, and a name has one reason more.
-- Assumes nothing.
use Rattle.types.proofs.Counting.{counted-once, name-counted}
use Rattle.types.proofs.Folding.{fold-none}
use Rattle.types.proofs.reasons.count_name.Goals as goal

pub returns-in_default : goal.returns-in_default
returns-in_default c = rw c.in_default.is fold-none

pub returns : goal.returns
returns c =
    rw c.in-Some.is (name-counted _ c.in-Some.n c.count.ensures (counted-once c.count.type_inv c.saturating_add-count.ensures) c.enter_if.ensures)
