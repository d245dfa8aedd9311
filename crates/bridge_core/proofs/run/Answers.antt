-- `bridge_core::run` meets its contract, by whether the reader refuses. Assumes nothing.
use mathlib.Core.Path.{sym, ◌∙◌}
use Rattle.bridge_core.proofs.RunCases.{ran-refused, ran-accepted, runnable}
use Rattle.bridge_core.proofs.run.Goals as goal

pub run-requires : goal.run-requires
run-requires c = runnable _ _ _ (sym c.read_with.ensures ∙ c.in-Ok.is)

pub returns-in-Err : goal.returns-in-Err
returns-in-Err c = ran-refused _ _ _ _ _ _ (sym c.read_with.ensures ∙ c.in-Err.is) c.refused.ensures

pub returns-in-Ok : goal.returns-in-Ok
returns-in-Ok c = ran-accepted _ _ _ _ _ _ _ _ (sym c.read_with.ensures ∙ c.in-Ok.is) c.run.ensures.answer c.run.ensures.scratch c.run.ensures.window
