-- `lines::Text::put_record` appends message, place, detail and line end.
-- Assumes nothing.
use Rattle.rules.specs.Text.{record_line}
use Rattle.lines.proofs.Laws.{also}
use Rattle.lines.proofs.Text.put_record.Goals as goal

pub returns : goal.returns
unfolding record_line
returns c = also (also (also c.put_digits.ensures c.put_place.ensures) c.put_number.ensures) c.put_byte.ensures
