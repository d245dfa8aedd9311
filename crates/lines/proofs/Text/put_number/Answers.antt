-- `lines::Text::put_number` appends a blank, and a number.
-- Assumes nothing.
use Rattle.rules.specs.Text.{spaced}
use Rattle.lines.proofs.Laws.{also}
use Rattle.lines.proofs.Text.put_number.Goals as goal

pub returns : goal.returns
unfolding spaced
returns g c = also c.put_byte.ensures c.put_digits.ensures
