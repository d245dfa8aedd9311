use mathlib.Core.Path.{refl}
use native.Mathlib.Omega.{arith}
use borrow.Author.Rules.{rules}
use Rattle.types.proofs.Showing.{items-none, items_more, items-end, left}
use Rattle.types.proofs.rows.visit_items.Goals as goal

pub loop-i-init : goal.loop-i-init
loop-i-init c = items-none c.requires

pub loop-i-preserved : goal.loop-i-preserved
loop-i-preserved c =
    items_more c.loop-i.i c.loop-i.invariant c.visit_item.ensures

pub returns : goal.returns
returns c =
    let g = items-end c.loop-i.i c.requires.accepted refl c.loop-i.invariant (omega (arith, c.loop-i-test.false, c.loop-i.auto.i-end, c.items-count.ensures)) in
    left g (search (rules, g.same))
