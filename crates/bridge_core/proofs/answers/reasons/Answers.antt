use borrow.Author.Rules.{rules}
use Prim.Native.Nat.{ℕ}
use mathlib.Core.Path.{◌∙◌, ap}
use mathlib.Core.List.{List}
use lib.ListN.{set}
use Rattle.bridge_core.proofs.Parts.{counted_start, counted-more, counted-all}
use Rattle.bridge_core.proofs.answers.reasons.Goals as goal

pub loop-n-init : goal.loop-n-init
loop-n-init c = counted_start _

pub loop-n-preserved : goal.loop-n-preserved
loop-n-preserved c =
    ap (λ (l : List ℕ). set l c.loop-n.n c.count.result) c.loop-n.invariant
    ∙ counted-more c.args.table.now c.loop-n.n (search rules) c.count.ensures

pub returns : goal.returns
returns c = c.loop-n.invariant ∙ counted-all c.args.table.now c.loop-n.n (search rules)
