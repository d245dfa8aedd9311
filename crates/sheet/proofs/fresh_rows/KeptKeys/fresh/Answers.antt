-- `fresh` finds no equal row where no mark or no key agrees, and else compares.
-- Assumes nothing.
use mathlib.Core.Path.{sym, ◌∙◌}
use borrow.Author.Tests.{eqb-true}
use Rattle.sheet.proofs.FreshLaws.{fresh_unmarked, fresh-unheld}
use Rattle.sheet.proofs.fresh_rows.KeptKeys.fresh.Goals as goal
use Rattle.sheet.proofs.fresh_rows.KeptKeys.fresh.Goals.{then-not-self-two, else-not-self-two}

pub returns-then-hits-eq0 : goal.returns-then-hits-eq0
returns-then-hits-eq0 c = c.if-hits-eq0.true ∙ elim c.if-not-self-two.branch [
  | then-not-self-two w ↦ fresh_unmarked _ _ _ _ _ c.requires.kept c.requires.own w.if-not-self-two.true
  | else-not-self-two w ↦ fresh-unheld _ _ _ _ _ c.requires.kept c.requires.own w.hits.ensures (eqb-true _ _ (sym w.value-is ∙ c.if-hits-eq0.true))
]
