-- `bridge_core::answers::reasons` reads the column of reasons, entry by entry. The loop's invariant: those of the names below n are there.
-- Assumes nothing.
use mathlib.Core.Path.{◌≡◌}
use Rattle.bridge_core.proofs.Parts.{counted_to}
use Rattle.bridge_core.proofs.answers.reasons.Given as goal

abbrev pub invariant-loop-n : goal.invariant-loop-n
invariant-loop-n l = l.all ≡ counted_to l.table l.n
