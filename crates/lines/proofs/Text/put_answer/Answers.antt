-- `lines::Text::put_answer` appends the text of an answer, by the verdict.
-- Assumes nothing.
use native.Mathlib.Omega.{arith}
use Rattle.lines.proofs.Whole.{text-refused, text-accepted}
use Rattle.lines.proofs.Laws.{meant, within}
use Rattle.lines.proofs.Text.put_answer.Goals as goal

pub returns-in-Err : goal.returns-in-Err
returns-in-Err c = within (meant c.put_refusal.ensures (text-refused c.args.answer.now _ c.in-Err.is)) (omega arith)

pub returns-in-Ok : goal.returns-in-Ok
returns-in-Ok c =
    let answer = c.args.answer.now in
    meant c.put_accepted.ensures (text-accepted answer answer.total c.args.list.now c.in-Ok.is c.min.ensures)
