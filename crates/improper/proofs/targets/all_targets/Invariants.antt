-- `improper::targets::all_targets` meets its contract: the table has where each name before n leads that is not found.
-- Assumes nothing.
use Rattle.improper.specs.Targets.{LeadsBelow}
use Rattle.improper.proofs.targets.all_targets.Given as goal

abbrev pub invariant-loop-n : goal.invariant-loop-n
invariant-loop-n l = LeadsBelow l.known.s.now l.found.words l.n l.targets
