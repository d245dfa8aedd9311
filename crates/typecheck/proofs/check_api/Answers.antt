-- `typecheck::check_api` meets its contract: an accepted sheet has no item whose number is no kind's. Assumes nothing.
use Rattle.std.proofs.Common.{sym, ◌∙◌, arith}
use Rattle.rules.proofs.KindLaws.{item_kind-back, item_kind-past}
use Rattle.laws.proofs.Sheet.Accepted.Items.{item-of}
use Rattle.typecheck.proofs.check_api.Goals as goal

pub check_kind-requires-clause-kind_is : goal.check_kind-requires-clause-kind_is
check_kind-requires-clause-kind_is c = item_kind-back _ (sym c.item_kind.ensures ∙ c.in-Some.is)

pub returns-in_default : goal.returns-in_default
returns-in_default c =
    absurd (omega (arith, (item-of _ c.requires.tables.accepted _ c.requires.below).known, item_kind-past _ (sym c.item_kind.ensures ∙ c.in_default.is)))
