-- The accessor `sheet::items::is_type` gives what `is_type` of the rules says: by whether the number is a kind's.
-- Assumes nothing.
use Rattle.std.proofs.Common.{arith, rules}
use borrow.Author.Tests.{ne_eqb, le-leb, lt-leb}
use Rattle.sheet.proofs.AccessorLaws.{kind_passes}
use Rattle.rules.specs.View.{type_kind, is_type}
use Rattle.sheet.proofs.items.is_type.Goals as goal

pub returns : goal.returns
unfolding is_type
returns c = kind_passes type_kind _ _ _ _ c.item_kind.ensures c.is_some_and.ensures (λ k p. search rules)
    (λ k l. simp (le-leb 1 k (omega arith), lt-leb k 4 (omega arith), ne_eqb k 7 (λ e. omega arith)))
