-- `layout::lists::Option<UnpinReason>::put`: the two bytes that are stored are those of the reason's number.
-- Assumes nothing.
use mathlib.Core.Path.{ap}
use Rattle.errors.specs.Bytes.{low}
use Rattle.errors.proofs.Stores.{meant}
use Rattle.layout.specs.Layout.{reason_bytes}
use Rattle.layout.proofs.lists.OptionUnpinReasonEntry.put.Goals as goal

pub returns : goal.returns
unfolding reason_bytes
returns c = meant c.put_low.ensures (ap (low 2) c.reason_number.ensures)
