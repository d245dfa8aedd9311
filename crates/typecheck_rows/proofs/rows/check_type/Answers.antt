-- `typecheck_rows::rows::check_type` meets its contract: an accepted sheet has no row whose number is no kind's. Assumes nothing.
use Rattle.std.proofs.Common.{sym, ◌∙◌, arith}
use Rattle.rules.proofs.KindLaws.{row_kind-back, row_kind-past}
use Rattle.laws.proofs.Sheet.Accepted.Rows.{row_of}
use Rattle.typecheck_rows.proofs.rows.check_type.Goals as goal

pub check_kind-requires-clause-kind_is : goal.check_kind-requires-clause-kind_is
check_kind-requires-clause-kind_is c = row_kind-back _ (sym c.kind.ensures ∙ c.in-Some.is)

pub returns-in_default : goal.returns-in_default
returns-in_default c =
    absurd (omega (arith, (row_of _ c.requires.sized.accepted _ c.requires.below).known, row_kind-past _ (sym c.kind.ensures ∙ c.in_default.is)))
