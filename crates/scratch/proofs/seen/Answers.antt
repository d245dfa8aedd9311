-- `scratch::seen` meets its contract.
-- Assumes nothing.
use mathlib.Core.Path.{refl}
use Rattle.rules.specs.Names.{bit_of}
use Rattle.scratch.specs.Bytes.{marked}
use Rattle.scratch.proofs.seen.Goals as goal

pub returns : goal.returns
unfolding marked bit_of
returns c = refl
