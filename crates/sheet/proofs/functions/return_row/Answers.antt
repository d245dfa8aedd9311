-- The accessor `sheet::functions::return_row` gives what `return` of the rules says: its look-ups one after the other are the definition's.
-- Assumes nothing.
use Rattle.rules.specs.View.{return}
use Rattle.sheet.proofs.functions.return_row.Goals as goal

pub returns : goal.returns
unfolding return
returns c = rw (c.return_at.ensures, c.return_place.ensures)
