-- `replay::port::collect` leaves the collected rows in the scratch, which has room for as many.
-- Assumes nothing.
use Rattle.replay.proofs.Asked.{collected, room}
use Rattle.replay.proofs.port.collect.Goals as goal

pub returns-clause-rows : goal.returns-clause-rows
returns-clause-rows c = collected c.collect.ensures

pub returns-clause-room : goal.returns-clause-room
returns-clause-room c = room c.requires c.collect.ensures
