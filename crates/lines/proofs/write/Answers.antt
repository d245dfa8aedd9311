-- `lines::write` writes the text of an answer, where there is room.
-- Assumes nothing.
use mathlib.Core.Path.{refl}
use borrow.Author.Rules.{rules}
use Rattle.lines.proofs.Whole.{wrote}
use Rattle.lines.proofs.write.Goals as goal

pub returns : goal.returns
returns c = wrote c.if-out-lt-MOST.false c.put_answer.ensures refl refl (search (rules, c.put_answer.ensures.kept))
