-- `row_tables::sizes::is_unsized_row` meets its contract: an array, a plain name, any other kind, and a number that is no kind's.
-- Assumes nothing.
use Rattle.std.proofs.Common.{arith, rules, refl}
use Rattle.rules.specs.Base.{if'◌then◌else◌}
use Rattle.rules.specs.Kinds.{row_kind}
use Rattle.rules.specs.View.{is}
use Rattle.rules.specs.declared.row.RowKind.{RowKind}
use Rattle.laws.specs.RowSteps.{unsized_step, unsized_leaf}
use Rattle.row_tables.proofs.RowKinds.{kind-of, no-kind, other-kind}
use Rattle.row_tables.proofs.sizes.is_unsized_row.Goals as goal

pub returns-in-Some-Array : goal.returns-in-Some-Array
unfolding unsized_step is if'◌then◌else◌
returns-in-Some-Array c = rw (kind-of c.kind.ensures c.in-Some-Array.is, c.in-Some-Array.field-0-is) (rw c.inner.ensures at c.marked.ensures)

pub returns-in-Some-Ident : goal.returns-in-Some-Ident
unfolding unsized_step unsized_leaf is if'◌then◌else◌
returns-in-Some-Ident c = rw (kind-of c.kind.ensures c.in-Some-Ident.is, c.in-Some-Ident.field-0-is) (rw c.row_name.ensures at c.is_unsized_ident.ensures)

pub returns-in-Some : goal.returns-in-Some
unfolding unsized_step unsized_leaf is if'◌then◌else◌ row_kind
returns-in-Some c =
    let no_array = other-kind RowKind.Array _ c.kind.ensures c.in-Some.is (λ e. search rules) 11 refl in
    let no_name = other-kind RowKind.Ident _ c.kind.ensures c.in-Some.is (λ e. search rules) 0 refl in
    rw (no_array, no_name, kind-of c.kind.ensures c.in-Some.is) c.is_unsized_kind.ensures

pub returns-in-None : goal.returns-in-None
unfolding unsized_step unsized_leaf is if'◌then◌else◌
returns-in-None c =
    let not = no-kind _ c.kind.ensures c.in-None.is in
    rw (not 11 (omega arith), not 0 (omega arith), not 6 (omega arith), not 12 (omega arith), not 13 (omega arith))
