-- `row_tables::sizes::describe` meets its contract: a plain name, any other kind, and a number that is no kind's.
-- Assumes nothing.
use Rattle.std.proofs.Common.{arith, sym, ap, ◌∙◌, rules, refl}
use Rattle.rules.specs.Base.{if'◌then◌else◌}
use Rattle.rules.specs.Check.{describe}
use Rattle.rules.specs.Kinds.{row_kind}
use Rattle.rules.specs.View.{is}
use Rattle.rules.specs.declared.row.RowKind.{RowKind}
use Rattle.row_tables.specs.Tables.{describe_other}
use Rattle.row_tables.proofs.Branches.{if-left}
use Rattle.row_tables.proofs.RowKinds.{kind-of, no-kind, other-kind}
use Rattle.row_tables.proofs.sizes.describe.Goals as goal

pub returns-in-Some-Ident : goal.returns-in-Some-Ident
unfolding describe is if'◌then◌else◌
returns-in-Some-Ident c = rw (kind-of c.kind.ensures c.in-Some-Ident.is, c.in-Some-Ident.field-0-is) (rw c.row_name.ensures at c.describe_ident.ensures)

pub returns-in-Some : goal.returns-in-Some
unfolding describe describe_other is row_kind
returns-in-Some c =
    let no_name = other-kind RowKind.Ident _ c.kind.ensures c.in-Some.is (λ e. search rules) 0 refl in
    if-left _ _ no_name (c.describe_other.ensures ∙ ap describe_other (sym (kind-of c.kind.ensures c.in-Some.is))) refl

pub returns-in-None : goal.returns-in-None
unfolding describe is if'◌then◌else◌
returns-in-None c =
    let not = no-kind _ c.kind.ensures c.in-None.is in
    rw (
      not 0 (omega arith),
      not 1 (omega arith),
      not 2 (omega arith),
      not 3 (omega arith),
      not 4 (omega arith),
      not 5 (omega arith),
      not 7 (omega arith),
      not 8 (omega arith),
      not 9 (omega arith),
      not 6 (omega arith),
      not 10 (omega arith),
      not 12 (omega arith),
      not 13 (omega arith),
    )
