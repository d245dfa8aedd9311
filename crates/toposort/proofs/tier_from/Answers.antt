use Prim.Native.Nat.{◌+◌}
use native.Mathlib.Omega.{arith}
use Rattle.row_tables.proofs.ListLaws.{field_in, struct-list}
use Rattle.toposort.proofs.Edges.{counted_is, struct-below}
use Rattle.toposort.proofs.Leading.{turned, turn_below, turn-known, turn-leads, turn_on, turning-none, nowhere, there, to-struct}
use Rattle.toposort.proofs.TierTurns.{best-none, best-skips, best-more}
use Rattle.toposort.proofs.tier_from.Goals as goal

pub telling-requires : goal.telling-requires
telling-requires c =
    let n = counted_is c.args.s.now c.args.i _ _ c.rest-at.ensures c.pair_at-fields.ensures in
    (omega arith, struct-list c.args.s.now c.requires.0.accepted c.args.i _ _ c.requires.1 c.rest-at.ensures n)

pub loop-j-init : goal.loop-j-init
loop-j-init c =
    let n = counted_is c.args.s.now c.args.i _ _ c.rest-at.ensures c.pair_at-fields.ensures in
    (0, turning-none c.requires.0 c.requires.1 c.rest-at.ensures n cc (c.into_iter-j-iterator.ensures.into_iter_gives, c.telling.ensures), best-none _ _ _)

pub leads_to-requires : goal.leads_to-requires
leads_to-requires c =
    let p = c.requires in
    let l = c.loop-j.invariant.1 in
    (p.0, field_in _ p.0.accepted _ _ _ p.1 c.rest-at.ensures l.all c.in-Some.j (turn_below l c.in-Some.ensures.steps))

pub loop-j-preserved-in_default : goal.loop-j-preserved-in_default
loop-j-preserved-in_default c =
    let p = c.requires in elim (nowhere p.0 p.1 c.rest-at.ensures c.loop-j.invariant.1 c.in-Some.ensures.steps c.in_default.ensures) [ ]

pub bounds-ups-inner : goal.bounds-ups-inner
bounds-ups-inner c =
    let p = c.requires in
    struct-below p.0 _ (to-struct p.0 p.1 c.rest-at.ensures c.loop-j.invariant.1 c.in-Some.ensures.steps c.in-Some-leads_to.ensures)

pub loop-j-preserved : goal.loop-j-preserved
loop-j-preserved c =
    let p = c.requires in
    let l = c.loop-j.invariant.1 in
    let out = c.in-Some.ensures.steps in
    let f = c.in-Some-leads_to.ensures in
    let b = struct-below p.0 _ (to-struct p.0 p.1 c.rest-at.ensures l out f) in
    let best = turn-known l out (best-skips _ _ _) c.loop-j.invariant.2 in
    (c.in-Some.j + 1, turn_on l out, best-more _ _ _ (there p.0 p.1 c.rest-at.ensures l out f) (turn-leads l out) b c.max-best.ensures best)

pub returns : goal.returns
returns c = turned c.loop-j.invariant.1 (best-skips _ _ _) c.loop-j.invariant.2 c.in-None.ensures.steps
