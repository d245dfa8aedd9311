-- `types::duplicates::is_known` meets its contract: a shift and a remainder are `bit_of`.
-- Assumes nothing.
use mathlib.Core.Path.{refl}
use Rattle.rules.specs.Names.{◌∋◌, bit_of}
use Rattle.types.proofs.duplicates.is_known.Goals as goal

pub returns : goal.returns
unfolding ◌∋◌ bit_of
returns c = refl
