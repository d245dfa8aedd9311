-- `lines::Text::put_total` appends the first line.
-- Assumes nothing.
use Rattle.lines.proofs.Laws.{also, meant}
use Rattle.lines.proofs.Parts.{total-is}
use Rattle.lines.proofs.Text.put_total.Goals as goal

pub returns : goal.returns
returns c = meant (also (also c.put_word.ensures c.put_number.ensures) c.put_byte.ensures) (total-is c.args.total)
