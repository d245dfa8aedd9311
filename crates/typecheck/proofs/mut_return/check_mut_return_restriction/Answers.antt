-- `typecheck::mut_return::check_mut_return_restriction` meets its contract: each test that the code makes is that of the definition. Assumes nothing.
use mathlib.Core.Path.{ap, ◌∙◌}
use mathlib.Core.Bool.{not}
use Rattle.rules.specs.View.{args}
use Rattle.errors.specs.Sink.{silent, meant-if, taken, left}
use Rattle.rules.specs.Check.{check_mut_return_restriction}
use Rattle.laws.proofs.Sheet.Accepted.Items.{item-of}
use Rattle.row_tables.proofs.AnyOf.{any-args}
use Rattle.typecheck.proofs.mut_return.check_mut_return_restriction.Goals as goal

pub returns-then-function_unsafe : goal.returns-then-function_unsafe
unfolding check_mut_return_restriction
returns-then-function_unsafe c = taken _ _ c.if-function_unsafe.true (silent _) c.function_unsafe.ensures

pub returns-then-not-returns_mut : goal.returns-then-not-returns_mut
unfolding check_mut_return_restriction
returns-then-not-returns_mut c =
    left _ _ c.if-function_unsafe.false (taken _ _ (ap not c.if-not-returns_mut.true) (silent _) (ap not (c.returns_mut.ensures _))) c.function_unsafe.ensures

pub returns-then-may_receiver_lend : goal.returns-then-may_receiver_lend
unfolding check_mut_return_restriction
returns-then-may_receiver_lend c =
    left _ _ c.if-function_unsafe.false (left _ _ (ap not c.if-not-returns_mut.false)
    (taken _ _ c.if-may_receiver_lend.true (silent _) c.may_receiver_lend.ensures) (ap not (c.returns_mut.ensures _)))
    c.function_unsafe.ensures

pub returns : goal.returns
unfolding check_mut_return_restriction args
returns c =
    let args-below = ((item-of _ c.requires.accepted _ c.requires.below).as_function c.requires.function).arg-below in
    let found = (rw c.args_place.ensures at c.any_marked_in-found.ensures) ∙ any-args _ _ _ _ c.requires.muts_right args-below in
    left _ _ c.if-function_unsafe.false
    (left _ _ (ap not c.if-not-returns_mut.false) (left _ _ c.if-may_receiver_lend.false (meant-if _ c.error_if.ensures (ap not found))
    c.may_receiver_lend.ensures)
    (ap not (c.returns_mut.ensures _)))
    c.function_unsafe.ensures
