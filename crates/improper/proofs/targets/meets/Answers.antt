use Rattle.std.proofs.Common.{◌≡◌, false, length, arith, rules}
use borrow.Author.Count.{below_more}
use Rattle.laws.proofs.Base.Tests.{neither}
use Rattle.improper.proofs.Apart.{shares, apart}
use Rattle.improper.proofs.targets.meets.Goals as goal

pub loop-q-init : goal.loop-q-init
loop-q-init c = λ e j l. absurd (omega arith)

pub loop-q-preserved : goal.loop-q-preserved
loop-q-preserved c =
    λ e.
    let none = neither c.loop-q.met (shares c.args.targets.now.words c.args.found.now.words c.loop-q.q) e in
    below_more (λ j. shares c.args.targets.now.words c.args.found.now.words j ≡ false) c.loop-q.q (c.loop-q.invariant none.0) none.1

pub returns : goal.returns
returns c =
    λ e.
    let long : length c.args.targets.now.words ≡ 4 = search rules in
    apart _ _ long (λ q l. c.loop-q.invariant e q (omega arith))
