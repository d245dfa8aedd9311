use Rattle.std.proofs.Common.{◌≡◌, sym, ◌∙◌, arith, rules}
use Rattle.improper.proofs.TargetLaws.{below-found, below_on}
use Rattle.improper.proofs.targets.all_targets.Goals as goal

pub loop-n-init : goal.loop-n-init
loop-n-init c = record { long = search rules; rows = λ x l h. absurd (omega arith) }

pub loop-n-preserved-then-contains : goal.loop-n-preserved-then-contains
loop-n-preserved-then-contains c = below-found _ _ _ _ c.loop-n.invariant (sym c.contains.ensures ∙ c.if-contains.true)

pub loop-n-preserved : goal.loop-n-preserved
loop-n-preserved c = below_on _ _ _ _ c.loop-n.invariant _ (omega arith) c.targets_of.ensures

pub returns : goal.returns
returns c =
    let e : c.loop-n.n ≡ 256 = omega arith in
    rw e at c.loop-n.invariant
