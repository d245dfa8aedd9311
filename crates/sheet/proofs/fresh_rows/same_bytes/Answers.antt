-- `same_bytes` compares n bytes, each by its place in both runs.
-- Assumes nothing.
use borrow.Author.Rules.{rules}
use borrow.Author.Tests.{tests}
use mathlib.Core.Path.{◌∙◌}
use native.Mathlib.Omega.{arith}
use Rattle.std.proofs.lemmas.Iterator.{YieldsList-from_range}
use Rattle.std.proofs.lemmas.Iterator.Search.{all_from_yields_List}
use Rattle.sheet.proofs.FreshLaws.{alike, alike-all}
use Rattle.sheet.proofs.fresh_rows.same_bytes.Goals as goal

pub returns : goal.returns
returns c =
    all_from_yields_List (alike c.args.s.now c.args.a c.args.b) _ _ _ c.all.ensures.ran (YieldsList-from_range 0 c.args.n c.args.n (cc) (omega arith))
    (λ x b q k. search (rules, tests))
    ∙ alike-all _ _ _ _
