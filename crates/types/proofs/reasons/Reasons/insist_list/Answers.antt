use Rattle.rules.specs.View.{entry}
use Rattle.rules.specs.Trivial.{insist}
use Rattle.types.proofs.Counting.{wants-same, over_none, over-more}
use Rattle.types.proofs.reasons.Reasons.insist_list.Goals as goal

pub loop-j-init : goal.loop-j-init
loop-j-init c = over_none (λ s f j. insist s f (entry s c.args.at j))

pub insist-requires : goal.insist-requires
insist-requires c = wants-same c.loop-j.invariant c.requires.wants

pub loop-j-preserved : goal.loop-j-preserved
loop-j-preserved c =
    over-more (λ s f j. insist s f (entry s c.args.at j)) c.loop-j.j c.loop-j.invariant
    (rw (c.entry_within.ensures, ← c.loop-j.invariant.sheet) at c.insist.ensures)
