-- `improper::targets::meets` meets its contract: where it is not met yet, no word before q shares a bit.
-- Assumes nothing.
use Rattle.std.proofs.Common.{ℕ, ◌<◌, ◌≡◌, false}
use Rattle.improper.proofs.Apart.{shares}
use Rattle.improper.proofs.targets.meets.Given as goal

abbrev pub invariant-loop-q : goal.invariant-loop-q
invariant-loop-q l = l.met ≡ false → (j : ℕ) → j < l.q → shares l.targets.words l.found.words j ≡ false
