-- `improper::one_pass` meets its contract. The invariant over the names: those before n are passed. Over the fields of one: none before k is improper, and the
-- set is as it was.
-- Assumes nothing.
use Rattle.std.proofs.Common.{◌≡◌, false}
use Rattle.improper.specs.Post.{Passes}
use Rattle.improper.proofs.PassTurns.{found_in}
use Rattle.improper.proofs.one_pass.Given as goal

abbrev pub invariant-loop-k : goal.invariant-loop-k
invariant-loop-k l = (l.set ≡ l.initial.set) × (l.new ≡ l.initial.new) × (found_in l.known.s.now l.set.words l.n l.k ≡ false)

abbrev pub invariant-structs : goal.invariant-structs
invariant-structs l = Passes l.known.s.now l.initial.set.words l.n l.set.words l.new
