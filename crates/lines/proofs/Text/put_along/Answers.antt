use Prim.Native.Nat.{ℕ}
use mathlib.Core.Path.{ap}
use native.Mathlib.Omega.{arith}
use borrow.Author.Rules.{rules}
use lib.ListN.{get_or}
use Rattle.rules.specs.Text.{spaced}
use Rattle.lines.proofs.Laws.{meant, start, turn, whole}
use Rattle.lines.proofs.Parts.{along}
use Rattle.lines.proofs.Text.put_along.Goals as goal

pub loop-i-init : goal.loop-i-init
loop-i-init c = start (λ (i : ℕ). spaced (get_or c.args.tiers.now i 0)) _

pub loop-i-preserved : goal.loop-i-preserved
loop-i-preserved c =
    let tier = meant c.put_number.ensures (ap spaced c.entry.ensures) in
    turn (λ (i : ℕ). spaced (get_or c.args.tiers.now i 0)) c.args.order.now c.loop-i.i-index 0 (search rules) c.loop-i.invariant tier (omega arith)

pub returns : goal.returns
returns c =
    let tiers = c.args.tiers.now in
    let order = c.args.order.now in
    meant (whole (λ (i : ℕ). spaced (get_or tiers i 0)) order c.loop-i.i-index c.loop-i.invariant (omega arith)) (along tiers order)
