use Rattle.std.proofs.Common.{ap, length}
use Rattle.improper.proofs.Passes.{searching-start, searching-on, searching-less, searched}
use Rattle.improper.proofs.Later.{later_first, later-on}
use Rattle.improper.proofs.search.Goals as goal

pub one_pass-requires : goal.one_pass-requires
one_pass-requires c = record { given = c.requires; size = ap length c.empty-set.ensures; later = tt }

pub returns-then-not-one_pass : goal.returns-then-not-one_pass
returns-then-not-one_pass c =
    let after = searching-on _ _ (searching-start c.args.known.now.s.now _ c.empty-set.ensures) _ _ c.one_pass.ensures in
    searched c.args.known.now.s.now c.requires.accepted _ (after.done c.if-not-one_pass.true)

pub loop-targets-init : goal.loop-targets-init
loop-targets-init c = (
  rw c.if-not-one_pass.false at (searching-on _ _ (searching-start c.args.known.now.s.now _ c.empty-set.ensures) _ _ c.one_pass.ensures),
  later_first _ _ (ap length c.empty-set.ensures) _ _ _ c.one_pass.ensures c.all_targets-targets.ensures,
)

pub one_pass-requires-in-loop-targets : goal.one_pass-requires-in-loop-targets
one_pass-requires-in-loop-targets c = record { given = c.requires; size = c.loop-targets.invariant.0.size; later = c.loop-targets.invariant.1 }

pub loop-targets-smaller : goal.loop-targets-smaller
loop-targets-smaller c = searching-less _ _ c.loop-targets.invariant.0 _ _ c.one_pass-in-loop-targets.ensures c.loop-targets-test.true

pub loop-targets-preserved : goal.loop-targets-preserved
loop-targets-preserved c = (
  rw c.loop-targets-test.true at (searching-on _ _ c.loop-targets.invariant.0 _ _ c.one_pass-in-loop-targets.ensures),
  later-on _ _ c.loop-targets.invariant.0.size _ _ _ c.one_pass-in-loop-targets.ensures c.loop-targets.invariant.1,
)

pub returns : goal.returns
returns c =
    let after = searching-on _ _ c.loop-targets.invariant.0 _ _ c.one_pass-in-loop-targets.ensures in
    searched c.args.known.now.s.now c.requires.accepted _ (after.done c.loop-targets-test.false)
