-- `Collected::row` meets its contract: a pair past the end is 0.
-- Assumes nothing.
use native.Mathlib.Omega.{arith}
use Rattle.scratch.proofs.Stored.{past_end}
use Rattle.scratch.proofs.Collected.row.Goals as goal

pub returns-then-self-k : goal.returns-then-self-k
returns-then-self-k c = past_end _ _ (omega arith)
