-- `replay::port::put_record` stores a record's eight bytes.
-- Assumes nothing.
use Rattle.errors.proofs.Stores.{meant}
use Rattle.replay.proofs.port.put_record.Goals as goal

pub returns : goal.returns
returns c = meant c.put.ensures c.bytes_of.ensures
