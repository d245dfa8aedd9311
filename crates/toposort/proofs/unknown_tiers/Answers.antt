use mathlib.Core.Path.{refl, sym, ◌∙◌}
use Rattle.laws.specs.TierPass.{start_to}
use Rattle.toposort.specs.Leads.{table_graph}
use Rattle.toposort.proofs.TierTurns.{start-struct, start-other}
use Rattle.toposort.proofs.unknown_tiers.Goals as goal
use Rattle.toposort.proofs.unknown_tiers.Goals.{then-is_struct, else-is_struct}

pub loop-i-init : goal.loop-i-init
unfolding start_to
loop-i-init c d = refl

pub loop-i-preserved : goal.loop-i-preserved
loop-i-preserved c d =
    let G = table_graph c.args.s.now d in
    let h = c.loop-i.invariant d in
    elim c.if-is_struct.branch [
      | then-is_struct w ↦ w.tiers-is ∙ start-struct G _ c.loop-i.i _ h (sym c.is_struct.ensures ∙ w.if-is_struct.true)
      | else-is_struct w ↦ w.tiers-is ∙ start-other G _ c.loop-i.i _ h (sym c.is_struct.ensures ∙ w.if-is_struct.false)
    ]
