-- `replay::port::rows`, by whether the reader refuses.
-- Assumes nothing.
use Rattle.std.proofs.Common.{sym}
use Rattle.bridge_core.proofs.RunCases.{runnable}
use Rattle.replay.proofs.Asked.{no_rows, some-rows}
use Rattle.replay.proofs.port.rows.Goals as goal

pub collect-requires : goal.collect-requires
collect-requires c = runnable _ _ _ (sym c.in-Ok.ensures)

pub returns-in-Err-clause-rows : goal.returns-in-Err-clause-rows
returns-in-Err-clause-rows c = no_rows (sym c.in-Err.ensures)

pub returns-in-Ok-clause-rows : goal.returns-in-Ok-clause-rows
returns-in-Ok-clause-rows c = some-rows (sym c.in-Ok.ensures) c.collect.ensures.rows
