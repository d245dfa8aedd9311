-- `row_tables::looks::look_row` meets its contract: a name, a row that is looked through, any other, and a number that is no kind's.
-- Assumes nothing.
use Rattle.std.proofs.Common.{arith, sym, ap, ◌∙◌, rules, refl}
use Rattle.rules.specs.Base.{if'◌then◌else◌}
use Rattle.rules.specs.Kinds.{row_kind}
use Rattle.rules.specs.declared.row.RowKind.{RowKind}
use Rattle.laws.specs.Kinds.{is_through}
use Rattle.laws.specs.RowSteps.{look_step}
use Rattle.row_tables.specs.Tables.{look_of}
use Rattle.row_tables.proofs.Branches.{if-taken, if-left}
use Rattle.row_tables.proofs.RowKinds.{kind-of, no-kind, other-kind, no-through, no-improper}
use Rattle.row_tables.proofs.looks.look_row.Goals as goal

pub returns-in-Some-Ident : goal.returns-in-Some-Ident
unfolding look_step if'◌then◌else◌
returns-in-Some-Ident c = rw (kind-of c.kind.ensures c.in-Some-Ident.is, c.in-Some-Ident.field-0-is) (rw c.row_name.ensures at c.look_name.ensures)

pub returns-in-Some : goal.returns-in-Some
unfolding look_step row_kind
returns-in-Some c =
    let n = kind-of c.kind.ensures c.in-Some.is in
    if-left _ _ (other-kind RowKind.Ident _ c.kind.ensures c.in-Some.is (λ e. search rules) 0 refl)
    (if-taken _ _ c.if-is_through.true (ap look_of (rw c.inner.ensures at c.entry_or.ensures)) (c.is_through.ensures ∙ ap is_through (sym n))) refl

pub returns-in-Some-2 : goal.returns-in-Some-2
unfolding look_step row_kind
returns-in-Some-2 c =
    let n = kind-of c.kind.ensures c.in-Some.is in
    if-left _ _ (other-kind RowKind.Ident _ c.kind.ensures c.in-Some.is (λ e. search rules) 0 refl)
    (if-left _ _ c.if-is_through.false (rw (c.is_improper.ensures, ← n) at c.definite.ensures) (c.is_through.ensures ∙ ap is_through (sym n))) refl

pub returns-in-None : goal.returns-in-None
unfolding look_step if'◌then◌else◌
returns-in-None c =
    rw (no-kind _ c.kind.ensures c.in-None.is 0 (omega arith), no-through _ c.kind.ensures c.in-None.is, no-improper _ c.kind.ensures c.in-None.is)
