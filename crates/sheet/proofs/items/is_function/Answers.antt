-- The accessor `sheet::items::is_function` gives what `is_function` of the rules says: by whether the number is a kind's.
-- Assumes nothing.
use Rattle.std.proofs.Common.{arith, rules}
use borrow.Author.Tests.{ne_eqb}
use Rattle.sheet.proofs.AccessorLaws.{kind_passes}
use Rattle.rules.specs.View.{function_kind, is_function}
use Rattle.sheet.proofs.items.is_function.Goals as goal

pub returns : goal.returns
unfolding is_function
returns c = kind_passes function_kind _ _ _ _ c.item_kind.ensures c.is_some_and.ensures (λ k p. search rules)
    (λ k l. simp (ne_eqb k 5 (λ e. omega arith), ne_eqb k 6 (λ e. omega arith)))
