-- `errors::Errors::error` meets its contract: one record, whose bytes are a diagnostic's.
-- Assumes nothing.
use Rattle.rules.specs.Diagnostics.{when}
use Rattle.errors.specs.Sink.{noted}
use Rattle.errors.proofs.Errors.error.Goals as goal

pub returns : goal.returns
unfolding when
returns c = noted _ c.record_of.ensures c.note_if.ensures
