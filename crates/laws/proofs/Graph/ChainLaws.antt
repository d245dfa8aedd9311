-- A chain of any relation, and one link more.
-- Assumes nothing.
use Prim.Native.Nat.{ℕ}
use Rattle.rules.specs.Rule3.{Chain, one, more}

pub snoc : {Holds : ℕ → ℕ → Type 0} {i j k : ℕ} → Chain Holds i j → Holds j k → Chain Holds i k
snoc (one e) d = more e (one d)
snoc (more e c) d = more e (snoc c d)
