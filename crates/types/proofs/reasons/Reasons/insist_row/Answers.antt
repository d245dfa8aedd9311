-- `types::reasons::Reasons::insist_row` meets its contract: a kind that gives a reason, another, and a number that is no kind's.
-- Assumes nothing.
use Rattle.std.proofs.Common.{arith, refl, sym}
use Rattle.row_tables.proofs.RowKinds.{kind-of, no-kind}
use Rattle.types.proofs.Counting.{row-none, row-some}
use Rattle.types.proofs.reasons.Reasons.insist_row.Goals as goal

pub returns-in_default : goal.returns-in_default
returns-in_default c =
    let not = no-kind _ c.kind.ensures c.in_default.is in
    row-none _ _ refl (rw (not 1 (omega arith), not 2 (omega arith), not 10 (omega arith)) refl) refl

pub returns-then-is_holder : goal.returns-then-is_holder
returns-then-is_holder c =
    row-some _ _ (sym (kind-of c.kind.ensures c.in-Some.is)) c.is_holder.ensures c.if-is_holder.true c.inner.ensures c.insist.ensures

pub returns-else-is_holder : goal.returns-else-is_holder
returns-else-is_holder c = row-none _ _ (sym (kind-of c.kind.ensures c.in-Some.is)) c.is_holder.ensures c.if-is_holder.false
