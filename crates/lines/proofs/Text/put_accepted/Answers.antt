-- `lines::Text::put_accepted` appends the lines, one after another; that there are eight sets comes with the answer.
-- Assumes nothing.
use native.Mathlib.Omega.{arith}
use borrow.Author.Rules.{rules}
use mathlib.Core.Path.{◌≡◌, ap}
use lib.ListN.{length}
use Rattle.std.proofs.lemmas.List.{get_or_default}
use Rattle.rules.specs.Numbers.{name_count}
use Rattle.rules.specs.declared.NameSet.{NameSet}
use Rattle.rules.specs.Text.{line, members_to}
use Rattle.lines.proofs.Laws.{also, meant, within}
use Rattle.lines.proofs.Parts.{cut}
use Rattle.lines.proofs.Whole.{accepted-is}
use Rattle.lines.proofs.Text.put_accepted.Goals as goal

pub returns : goal.returns
returns c =
    let answer = c.args.answer.now in
    let eight : length answer.sets ≡ 8 = search rules in
    let named = ap (λ (s : NameSet). line "improper" (members_to name_count s.words)) (get_or_default answer.sets 7 _ _ (omega arith)) in
    let first = also (also c.put_total.ensures c.put_structs.ensures) (meant c.put_improper.ensures named) in
    let all = also first (meant c.put_records.ensures (cut c.args.records.now c.requires.0)) in
    within (meant all (accepted-is answer _)) (omega arith)
