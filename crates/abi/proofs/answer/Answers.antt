-- `abi::answer` meets its contract: the records that `run` leaves in the lent part, and the answer before them. Assumes nothing.
use mathlib.Core.Path.{refl}
use Rattle.abi.proofs.Answers.{answered}
use Rattle.abi.proofs.answer.Goals as goal

pub returns : goal.returns
returns c = answered _ _ _ _ _ _ _ _ _ _ _ _ c.requires refl c.run-a.ensures c.left.ensures refl c.write.ensures
