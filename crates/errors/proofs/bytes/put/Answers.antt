-- `errors::bytes::put` stores what it is given: the part that is written over is as long as what comes into it.
-- Assumes nothing.
use Rattle.std.proofs.Common.{arith}
use Rattle.errors.proofs.Stores.{copied, sized}
use Rattle.errors.proofs.bytes.put.Goals as goal

pub returns : goal.returns
returns g c = sized (copied c.args.at c.copy_from_slice.ensures.after (omega arith)) c.told-bytes
