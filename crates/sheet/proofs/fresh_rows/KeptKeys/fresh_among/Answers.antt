-- `fresh_among` compares the rows whose keys agree: a row with another key is no equal row.
-- Assumes nothing.
use Rattle.std.proofs.Common.{rules, arith, ◌≡◌, ◌<◌, true, false}
use Rattle.std.proofs.lemmas.Iterator.{YieldsList-from_range, cases_from_any}
use Rattle.rules.specs.Format.{equal_rows}
use Rattle.sheet.proofs.FreshLaws.{fresh_any, other_key}
use Rattle.sheet.proofs.fresh_rows.KeptKeys.fresh_among.Goals as goal

pub returns : goal.returns
returns c =
    let args = c.args in
    fresh_any args.s.now args.r args.next args.r _ (cases_from_any _ _ _ (λ i. equal_rows args.s.now i args.r args.next ≡ true)
    (λ i. i < args.r → equal_rows args.s.now i args.r args.next ≡ false) c.any.ensures.ran
    (YieldsList-from_range 0 args.r args.r (cc) (omega arith)) (λ x q k. search rules) (λ x q k. search (rules, other_key)))
