use mathlib.Core.Path.{◌≡◌, ◌∙◌}
use native.Mathlib.Omega.{arith}
use Rattle.rules.specs.Unpin.{find_item, find_items}
use Rattle.laws.proofs.Sheet.Accepted.{few-items}
use Rattle.names.specs.Known.{sheet, types}
use Rattle.types.proofs.Folding.{over_none, over-more, over-end}
use Rattle.types.proofs.Noting.{item-not, item-noted}
use Rattle.types.proofs.unpin.note_items.Goals as goal
use Rattle.types.proofs.unpin.note_items.Goals.{then-is_mut_method, else-is_mut_method}

pub loop-i-init : goal.loop-i-init
loop-i-init c = over_none _

pub overflow_cast-i : goal.overflow_cast-i
overflow_cast-i c = omega (arith, c.loop-i-test.true, c.items-count.ensures, few-items _ c.requires)

pub loop-i-preserved : goal.loop-i-preserved
loop-i-preserved c =
    let s = c.args.known.now.s.now in
    let t = types c.args.known.now in
    let e = c.is_mut_method.ensures in
    over-more (find_item s t) c.loop-i.i c.loop-i.invariant
    (elim c.if-is_mut_method.branch [
      | then-is_mut_method w ↦ rw (w.reasons-is, w.note.ensures) (item-noted s t c.loop-i.i e w.if-is_mut_method.true w.self_type-n.ensures)
      | else-is_mut_method w ↦ rw w.reasons-is (item-not s t c.loop-i.i e w.if-is_mut_method.false)
    ])

pub returns : goal.returns
unfolding find_items
returns c =
    let known = c.args.known.now in
    let e : c.loop-i.i ≡ c.items-count.result = omega arith in
    over-end (find_item (sheet known) (types known)) c.loop-i.i c.loop-i.invariant (e ∙ c.items-count.ensures)
