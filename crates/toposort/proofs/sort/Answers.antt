use mathlib.Core.Path.{sym, ◌∙◌}
use Rattle.laws.proofs.Base.Tests.{holds}
use Rattle.laws.proofs.Names.LastItems.{struct_is}
use Rattle.toposort.proofs.Edges.{bounded}
use Rattle.toposort.proofs.Sorting.{sorting-none, sorting-room, sorting-struct, sorting-other, sorted}
use Rattle.toposort.proofs.sort.Goals as goal
use Rattle.toposort.proofs.sort.Goals.{then-is_struct, else-is_struct}

pub loop-i-init : goal.loop-i-init
loop-i-init c = sorting-none _ _

pub visit-w-requires-clause-fact : goal.visit-w-requires-clause-fact
visit-w-requires-clause-fact c =
    let st = (struct_is c.args.s.now c.loop-i.i).0 (holds (sym c.is_struct.ensures ∙ c.if-is_struct.true)) in
    (st, sorting-room (bounded c.requires) c.loop-i.invariant c.loop-i-test.true)

pub loop-i-preserved : goal.loop-i-preserved
loop-i-preserved c =
    let lim = bounded c.requires in
    let g = c.loop-i.invariant in
    let l = c.loop-i-test.true in
    elim c.if-is_struct.branch [
      | then-is_struct w ↦
          rw (w.cx-is, w.order-is, w.w-is) (sorting-struct lim g l _ _ _ (sym c.is_struct.ensures ∙ w.if-is_struct.true) w.visit-w.ensures)
      | else-is_struct w ↦ rw (w.cx-is, w.order-is, w.w-is) (sorting-other lim g l (sym c.is_struct.ensures ∙ w.if-is_struct.false))
    ]

pub returns : goal.returns
returns c = sorted c.requires c.loop-i.invariant c.loop-i-test.false
