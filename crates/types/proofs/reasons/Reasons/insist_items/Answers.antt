use Rattle.rules.specs.Trivial.{reasons_of_item}
use Rattle.types.proofs.Counting.{wants-same, over_none, over-more}
use Rattle.types.proofs.reasons.Reasons.insist_items.Goals as goal

pub loop-i-init : goal.loop-i-init
loop-i-init c = over_none reasons_of_item

pub insist_item-requires : goal.insist_item-requires
insist_item-requires c = record {
  wants = wants-same c.loop-i.invariant c.requires.wants;
  accepted = rw c.loop-i.invariant.sheet c.requires.accepted;
  below = rw c.loop-i.invariant.sheet (rw c.items-count.ensures at c.loop-i-test.true);
}

pub loop-i-preserved : goal.loop-i-preserved
loop-i-preserved c = over-more reasons_of_item c.loop-i.i c.loop-i.invariant c.insist_item.ensures
