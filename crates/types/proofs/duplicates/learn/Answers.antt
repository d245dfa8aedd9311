-- `types::duplicates::learn` meets its contract: 1 moved up by k places is the k-th power of 2.
-- Assumes nothing.
use Prim.Native.Nat.{◌%◌}
use native.Mathlib.Omega.{arith}
use Rattle.rules.specs.Names.{add}
use Rattle.names.proofs.Laws.{word-one}
use Rattle.types.proofs.duplicates.learn.Goals as goal

pub returns : goal.returns
unfolding add
returns c = rw (word-one (c.args.key % 64) (omega arith))
