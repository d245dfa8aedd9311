-- `lines::Text::put_refusal` appends the one line of a refusal.
-- Assumes nothing.
use native.Mathlib.Omega.{arith}
use mathlib.Core.Path.{ap}
use Rattle.rules.specs.Text.{spaced, refused_text}
use Rattle.lines.proofs.Laws.{also, meant, within}
use Rattle.lines.proofs.Text.put_refusal.Goals as goal

pub returns : goal.returns
unfolding refused_text
returns c =
    let number = meant c.put_number.ensures (ap spaced c.number.ensures) in
    let front = also (also c.put_word.ensures number) c.put_word-2.ensures in
    within (also (also front c.put_number-2.ensures) c.put_byte.ensures) (omega arith)
