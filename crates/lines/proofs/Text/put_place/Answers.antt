-- `lines::Text::put_place` appends letter and numbers, one after another.
-- Assumes nothing.
use Rattle.std.proofs.Common.{sym, ◌∙◌, arith}
use Rattle.lines.proofs.Laws.{also, meant, within}
use Rattle.lines.proofs.Parts.{place_one, place_two}
use Rattle.lines.proofs.Text.put_place.Goals as goal

pub returns-in-Some : goal.returns-in-Some
returns-in-Some c =
    meant (also (also (also c.put_byte.ensures c.put_byte-2.ensures) c.put_number.ensures) c.put_number-in-Some.ensures)
    (place_two c.args.p c.from-at.ensures c.letter.ensures c.first.ensures (sym c.second.ensures ∙ c.in-Some.is))

pub returns-in_default : goal.returns-in_default
returns-in_default c =
    within (meant (also (also c.put_byte.ensures c.put_byte-2.ensures) c.put_number.ensures)
    (place_one c.args.p c.from-at.ensures c.letter.ensures c.first.ensures (sym c.second.ensures ∙ c.in_default.is))) (omega arith)
