-- `improper::targets::targets_of` meets its contract: the set has each name that a field before k leads to.
-- Assumes nothing.
use Rattle.std.proofs.Common.{◌≡◌, length}
use Rattle.improper.specs.Targets.{LeadsTo}
use Rattle.improper.proofs.targets.targets_of.Given as goal

abbrev pub invariant-loop-k : goal.invariant-loop-k
invariant-loop-k l = (length l.set.words ≡ 4) × LeadsTo l.known.s.now l.n l.k l.set.words
