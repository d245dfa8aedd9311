-- `replay::port::lay` stores an answer, and records behind it.
-- Assumes nothing.
use Rattle.replay.proofs.Asked.{laid}
use Rattle.replay.proofs.port.lay.Goals as goal

pub returns : goal.returns
returns c = laid c.requires.1 c.requires.0 c.write.ensures c.put_records.ensures
