-- `types::reasons::Reasons::insist` meets its contract: the name that the row wants, if any, has one reason more.
-- Assumes nothing.
use Rattle.std.proofs.Common.{refl}
use Rattle.types.proofs.Counting.{counted-names}
use Rattle.types.proofs.reasons.Reasons.insist.Goals as goal

pub returns : goal.returns
returns c = counted-names refl refl refl (rw c.wanted-name.ensures at c.count_name.ensures)
