-- `row_tables::lifetimes::any_marked_shown` meets its contract: a leaf, a function pointer, any other row.
-- Assumes nothing.
use Rattle.std.proofs.Common.{refl, sym, ◌∙◌}
use borrow.Author.Tests.{eqb-true}
use Rattle.rules.specs.Base.{any_of}
use Rattle.rules.specs.View.{is}
use Rattle.laws.specs.RowTable.{marked}
use Rattle.laws.proofs.Sheet.Collect.Shown.{shown-leaf, shown-inner}
use Rattle.row_tables.proofs.AnyOf.{any-one, any-fn}
use Rattle.row_tables.proofs.lifetimes.any_marked_shown.Goals as goal

pub returns-then-is_leaf : goal.returns-then-is_leaf
unfolding any_of
returns-then-is_leaf c = rw (shown-leaf _ _ _ (sym c.is_leaf.ensures ∙ c.if-is_leaf.true) refl, any_of)

pub returns-then-is : goal.returns-then-is
unfolding is
returns-then-is c =
    rw (c.is_marked_return-returned.ensures, c.any_marked_in.ensures, c.fn_return.ensures, c.fn_args_place.ensures)
    (any-fn _ _ (marked _) (eqb-true _ _ (sym c.is.ensures ∙ c.if-is.true)))

pub returns : goal.returns
unfolding is
returns c =
    rw (shown-inner _ _ _ (sym c.is_leaf.ensures ∙ c.if-is_leaf.false) (sym c.is.ensures ∙ c.if-is.false) refl, any-one)
    (rw c.inner.ensures at c.marked.ensures)
