-- `lines::Text::put_structs` appends the two lines, one after the other; that the order has 255 places and there are no more structs comes with the answer.
-- Assumes nothing.
use native.Mathlib.Omega.{arith}
use Rattle.lines.specs.Put.{structs_text}
use Rattle.lines.proofs.Laws.{also, within}
use Rattle.lines.proofs.Text.put_structs.Goals as goal

pub returns : goal.returns
unfolding structs_text
returns c = within (also c.put_order.ensures c.put_tiers.ensures) (omega arith)
