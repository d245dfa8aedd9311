use Rattle.types.specs.Found.{row_found}
use Rattle.types.proofs.Folding.{over_none, over-more}
use Rattle.types.proofs.Noting.{row-not, row-noted}
use Rattle.types.proofs.unpin.note_rows.Goals as goal
use Rattle.types.proofs.unpin.note_rows.Goals.{then-is_reason, else-is_reason}

pub loop-k-init : goal.loop-k-init
loop-k-init g c = λ test h. over_none _

pub loop-k-preserved : goal.loop-k-preserved
loop-k-preserved g c =
    λ test h.
    let s = c.args.s.now in
    let e = h c.row-r.result c.is_reason.result c.row-r.type_inv c.is_reason.ensures in
    over-more (row_found s test c.args.collected.now.scratch.now) c.loop-k.k (c.loop-k.invariant test h)
    (elim c.if-is_reason.branch [
      | then-is_reason w ↦
          rw (w.reasons-is, w.note.ensures) (row-noted s test _ c.row-r.ensures e w.if-is_reason.true w.inner.ensures w.row_name-n.ensures)
      | else-is_reason w ↦ rw w.reasons-is (row-not s test _ c.row-r.ensures e w.if-is_reason.false)
    ])
