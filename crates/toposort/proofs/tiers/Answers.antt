use mathlib.Core.Path.{refl, ap, ◌∙◌}
use lib.ListN.{length, length-set}
use native.Mathlib.Omega.{arith}
use borrow.Author.Rules.{rules}
use Rattle.laws.specs.TierPass.{tiers_to}
use Rattle.laws.proofs.Graph.TierPass.{started}
use Rattle.toposort.specs.Leads.{table_graph}
use Rattle.toposort.proofs.TierTurns.{tiers-on, ups-set, place-struct, place-below, tiers-end}
use Rattle.toposort.proofs.tiers.Goals as goal

pub loop-i-init : goal.loop-i-init
unfolding tiers_to
loop-i-init c =
    let e = c.unknown_tiers-tiers.ensures c.args.leads.now in
    let n = ap length e ∙ (started (table_graph c.args.s.now c.args.leads.now) 255 255 (omega arith)).size in
    (e, n, search rules, c.ups_of-ups.ensures)

pub tier_from-t-requires : goal.tier_from-t-requires
tier_from-t-requires c = (c.requires.led, place-struct c.requires.led c.requires.ordered c.loop-i.i-index c.loop-i-test.true)

pub bounds-tiers-i : goal.bounds-tiers-i
bounds-tiers-i c = place-below c.requires.led c.requires.ordered c.loop-i.i-index c.loop-i-test.true

pub bounds-ups-i : goal.bounds-ups-i
bounds-ups-i c = place-below c.requires.led c.requires.ordered c.loop-i.i-index c.loop-i-test.true

pub loop-i-preserved : goal.loop-i-preserved
loop-i-preserved c =
    let b = place-below c.requires.led c.requires.ordered c.loop-i.i-index c.loop-i-test.true in
    let e = c.tier_from-t.ensures c.loop-i.tiers c.loop-i.invariant.3 in (
      tiers-on (table_graph c.args.s.now c.args.leads.now) c.args.order.now _ _ c.loop-i.i-index _ _ c.loop-i.invariant.0 refl e,
      length-set c.loop-i.tiers _ _ ∙ c.loop-i.invariant.1,
      length-set c.loop-i.ups _ _ ∙ c.loop-i.invariant.2,
      ups-set c.loop-i.tiers c.loop-i.ups _ _ _ c.loop-i.invariant.3 c.loop-i.invariant.1 c.loop-i.invariant.2 b c.above.ensures,
    )

pub returns : goal.returns
returns c = tiers-end c.requires.led c.requires.ordered _ c.loop-i.i-index c.loop-i.auto.i-index-end c.loop-i-test.false c.loop-i.invariant.0
