use native.Mathlib.Omega.{arith}
use Rattle.lines.proofs.Laws.{none, meant, within}
use Rattle.lines.proofs.Parts.{if_yes, if_no, members-start, members-turn}
use Rattle.lines.proofs.Text.put_members.Goals as goal
use Rattle.lines.proofs.Text.put_members.Goals.{then-contains, else-contains}

pub loop-k-init : goal.loop-k-init
loop-k-init c = members-start _ c.args.set.words

pub loop-k-preserved : goal.loop-k-preserved
loop-k-preserved c =
    let k = c.loop-k.k in
    let yes = c.contains.result in
    within
    (members-turn k c.args.set.words yes c.contains.ensures c.loop-k.invariant
    (elim c.if-contains.branch [
      | then-contains w ↦ rw w.self-is (meant w.put_number.ensures (if_yes yes k w.if-contains.true))
      | else-contains w ↦ rw w.self-is (within (meant (none c.loop-k.self) (if_no yes k w.if-contains.false)) (omega arith))
    ]))
    (omega arith)
