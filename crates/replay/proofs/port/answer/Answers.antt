-- `replay::port::answer` is the call's answer with its first records, where there is room.
-- Assumes nothing.
use Rattle.std.proofs.Common.{rules, refl}
use Rattle.errors.specs.Records.{blank}
use Rattle.replay.proofs.Asked.{told, nothing}
use Rattle.replay.proofs.port.answer.Goals as goal

pub returns-then-out-lt-ROOM : goal.returns-then-out-lt-ROOM
returns-then-out-lt-ROOM c = nothing (search rules)

pub returns : goal.returns
returns c =
    let called = c.call-page.ensures.called in
    told blank refl called.answer called.list c.min.ensures c.lay.ensures (search rules)
