-- `improper::search` meets its contract. The invariant: the set is that of the definition's search after as many passes, each of which found a name, and what
-- the first pass leaves still holds. The measure is the number of names that are not found.
-- Assumes nothing.
use Rattle.std.proofs.Common.{true}
use Rattle.laws.proofs.Names.ImproperSearch.{left}
use Rattle.improper.specs.Targets.{Later}
use Rattle.improper.proofs.Passes.{Searching}
use Rattle.improper.proofs.search.Given as goal

abbrev pub invariant-loop-targets : goal.invariant-loop-targets
invariant-loop-targets l = Searching l.known.s.now l.set.words true × Later l.known.s.now l.set.words l.targets

abbrev pub decreases-loop-targets : goal.decreases-loop-targets
decreases-loop-targets l = left l.set.words
