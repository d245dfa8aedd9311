-- `lines::Text::put_digits` appends the digits that itoa writes, of which a number below 10 ^ W has at most W.
-- Assumes nothing.
use mathlib.Core.Path.{◌∙◌, ap}
use native.Mathlib.Omega.{arith}
use lib.ListN.{length}
use Rattle.lines.proofs.Laws.{within, meant}
use Rattle.lines.proofs.Parts.{few-digits}
use Rattle.lines.proofs.Decimal.{decimal-is}
use Rattle.lines.proofs.Text.put_digits.Goals as goal

pub put_word-requires : goal.put_word-requires
put_word-requires g c =
    let is = c.as_bytes.ensures.value ∙ c.format.ensures.text ∙ decimal-is c.args.n (omega arith) in
    omega (arith, ap length is, few-digits c.requires.0)

pub returns : goal.returns
returns g c =
    let is = c.as_bytes.ensures.value ∙ c.format.ensures.text ∙ decimal-is c.args.n (omega arith) in
    within (meant c.put_word.ensures is) (omega (arith, ap length is, few-digits c.requires.0))
