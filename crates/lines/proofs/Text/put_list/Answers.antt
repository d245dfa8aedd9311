use native.Mathlib.Omega.{arith}
use borrow.Author.Rules.{rules}
use Rattle.rules.specs.Text.{spaced}
use Rattle.lines.proofs.Laws.{start, turn}
use Rattle.lines.proofs.Text.put_list.Goals as goal

pub loop-n-init : goal.loop-n-init
loop-n-init c = start spaced _

pub loop-n-preserved : goal.loop-n-preserved
loop-n-preserved c = turn spaced c.args.list.now c.loop-n.n-index 0 (search rules) c.loop-n.invariant c.put_number.ensures (omega arith)
