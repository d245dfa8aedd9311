-- `lines::Text::put_order` appends word, numbers and line end.
-- Assumes nothing.
use native.Mathlib.Omega.{arith}
use Rattle.rules.specs.Text.{line}
use Rattle.lines.proofs.Laws.{also, within}
use Rattle.lines.proofs.Text.put_order.Goals as goal

pub returns : goal.returns
unfolding line
returns c = within (also (also c.put_word.ensures c.put_list.ensures) c.put_byte.ensures) (omega arith)
