-- The answers to the goals of `toposort::visit`. A turn of its loop visits the item to which the word's lowest field leads, or meets it marked, which comes to
-- a visit too. It succeeds, or fails and is reported: the two ways for a turn to end, and each keeps the invariant (`visited`, `failed`).
-- Assumes nothing.
use Prim.Native.Nat.{ℕ, ◌+◌}
use mathlib.Core.Path.{◌≡◌, refl, subst, ◌∙◌}
use mathlib.Core.Bool.{true, false}
use mathlib.Core.List.{List}
use lib.ListN.{length, length-set}
use native.Mathlib.Omega.{arith}
use borrow.Author.Rules.{rules}
use Rattle.rules.specs.declared.Place.TheVariants.{F}
use Rattle.rules.specs.Diagnostics.{say}
use Rattle.rules.specs.Graph.{Graph}
use Rattle.rules.specs.View.{rest}
use Rattle.rules.specs.Rule3.{IsStruct}
use Rattle.rules.specs.Walk.{fields_out}
use Rattle.row_tables.specs.Listed.{LowestOut}
use Rattle.row_tables.proofs.ListLaws.{field_in, struct-list}
use Rattle.laws.proofs.Base.Counts.{fresh_set}
use Rattle.errors.specs.Sink.{Reported}
use Rattle.errors.specs.declared.Errors.{Errors}
use Rattle.toposort.specs.declared.Walk.{Walk}
use Rattle.toposort.specs.Leads.{Led, table_graph, FieldLeads}
use Rattle.toposort.specs.State.{Visits, VisitsBy}
use Rattle.toposort.proofs.Edges.{few-fields, bounded, struct-below, counted_is}
use Rattle.toposort.proofs.Parts.{did-still}
use Rattle.toposort.proofs.Turns.{Steps, Going, Visiting, walk-turned, walk-known, walk-on, going-room, going-fresh, going-len}
use Rattle.toposort.proofs.Turns.{put-ok, visits-flag, step_ok, step-bad, seen-marked, visit-seen, visit-new}
use Rattle.toposort.proofs.Leading.{turn_below, turn-leads, turning-none, nowhere, there, to-struct}
use Rattle.std.specs.Prelude.{Option, Some}
use Rattle.toposort.proofs.+visit.Goals as goal
use Rattle.toposort.proofs.+visit.Goals.{then-found-eq-NEW, else-found-eq-NEW}

-- ## A turn

module _ {s : List ℕ} {d : List (Option ℕ)} (own : Led s d) {b : Errors} {o : List ℕ} {i : ℕ} {v₀ : Walk} {n left : ℕ} {b' : Errors} {o' : List ℕ} {v : Walk}
    (g : Visiting (table_graph s d) b o i v₀ n left b' o' v) where
  abbrev G : Graph
  G = table_graph s d

  -- no field that leads to a struct is left
  ended : left ≡ 0 → Going G b o i v₀ n (G.fields i) b' o' v
  ended e = subst (λ (k : ℕ). Going G b o i v₀ n k b' o' v) g.1.all (walk-turned (bounded own) g.1 g.2 e)

  module _ {others field : ℕ} (out : LowestOut left others field) where
    abbrev Next : Walk → Errors → List ℕ → Type 0
    Next r b'' o'' = Visiting G b o i v₀ n others b'' o'' r

    on : Going G b o i v₀ n field b' o' v
    on = walk-known (bounded own) g.1 g.2 out

    next : {r : Walk} {b'' : Errors} {o'' : List ℕ} → Steps G b' o' v i field r b'' o'' → Next r b'' o''
    next step = let done = walk-on (bounded own) g.1 g.2 out _ _ _ step in (field + 1, done.0, done.1)

    -- x is the item to which the field leads, as the code reads it
    module _ (h : IsStruct s i) {at : ℕ} (a : at ≡ rest s i) {x : ℕ} (f : FieldLeads s d at field (Some x)) where
      q : x ≡ G.to i field
      q = there own h a g.1 out f

      -- its visit succeeded, or failed and is reported
      module _ {r : Walk} {b'' : Errors} {o'' : List ℕ} (e : Visits G b' o' v x r b'' o'') where
        visit-there : Visits G b' o' v (G.to i field) r b'' o''
        visit-there = subst (λ (y : ℕ). Visits G b' o' v y r b'' o'') q e

        visited : r.ok ≡ true → Next (put-ok r v.ok) b'' o''
        visited t = next (step_ok G b' b'' o' o'' v r i field (turn-leads g.1 out) visit-there t)

        failed : {c : Errors} → r.ok ≡ false → Reported b'' (say 2 (F i field)) c → Next (put-ok r false) c o''
        failed t m = next (step-bad G b' b'' o' o'' v r i field (turn-leads g.1 out) visit-there _ t m)

-- ## Before the loop

pub bounds-u-place : goal.bounds-u-place
bounds-u-place t c = omega (arith, struct-below c.requires.led c.args.i c.requires.fact.0)

pub returns-then-mark-ne-NEW : goal.returns-then-mark-ne-NEW
returns-then-mark-ne-NEW t c =
    let a = c.args in visit-seen (table_graph a.s.now a.leads.now) a.cx.now a.order.now a.w a.i c.if-mark-ne-NEW.true

pub bounds-u-place-2 : goal.bounds-u-place-2
bounds-u-place-2 t c = omega (arith, struct-below c.requires.led c.args.i c.requires.fact.0)

pub telling-leading-requires : goal.telling-leading-requires
telling-leading-requires t c =
    let a = c.args in
    let p = c.requires in
    let n = counted_is a.s.now a.i _ _ c.rest-at.ensures c.pair_at-fields.ensures in
    (omega arith, struct-list a.s.now p.led.accepted a.i _ _ p.fact.0 c.rest-at.ensures n)

pub loop-field-init : goal.loop-field-init
unfolding fields_out
loop-field-init t c =
    let a = c.args in
    let p = c.requires in
    let b = struct-below p.led a.i p.fact.0 in
    let lm : length a.w.marks ≡ 255 = search rules in
    let n = counted_is a.s.now a.i _ _ c.rest-at.ensures c.pair_at-fields.ensures in
    let f = few-fields p.led a.i p.fact.0 in
    let m = fresh_set a.w.marks a.i 0 (omega arith) c.if-mark-ne-NEW.false in (
      0,
      turning-none p.led p.fact.0 c.rest-at.ensures n cc (c.into_iter-field-iterator.ensures.into_iter_gives, c.telling-leading.ensures),
      record {
        all = n;
        upto = omega arith;
        long = length-set a.w.marks a.i 1 ∙ lm;
        room = record { len = omega arith; calls = omega arith };
        place = omega arith;
        done = λ f h. record { did = did-still _ _ _; ok = refl };
      },
    )

-- ## In the loop

pub leads_to-requires : goal.leads_to-requires
leads_to-requires t c =
    let p = c.requires in
    let l = c.loop-field.invariant.1 in
    (p.led, field_in _ p.led.accepted _ _ _ p.fact.0 c.rest-at.ensures l.all c.in-Some.field (turn_below l c.in-Some.ensures.steps))

pub loop-field-preserved-in_default : goal.loop-field-preserved-in_default
loop-field-preserved-in_default t c =
    let p = c.requires in elim (nowhere p.led p.fact.0 c.rest-at.ensures c.loop-field.invariant.1 c.in-Some.ensures.steps c.in_default.ensures) [ ]

pub bounds-u-inner : goal.bounds-u-inner
bounds-u-inner t c =
    let p = c.requires in
    struct-below p.led _ (to-struct p.led p.fact.0 c.rest-at.ensures c.loop-field.invariant.1 c.in-Some.ensures.steps c.in-Some-leads_to.ensures)

pub visit-u-requires : goal.visit-u-requires
visit-u-requires t c =
    let p = c.requires in
    let g = c.loop-field.invariant in
    let out = c.in-Some.ensures.steps in
    let a = c.args in
    let st = to-struct p.led p.fact.0 c.rest-at.ensures g.1 out c.in-Some-leads_to.ensures in
    let lm : length a.w.marks ≡ 255 = search rules in
    let b = struct-below p.led a.i p.fact.0 in
    let m = fresh_set a.w.marks a.i 0 (omega arith) c.if-mark-ne-NEW.false in
    let lt = turn_below g.1 out in
    let h = going-fresh (bounded p.led) (on p.led g out) in
    let r = going-room (bounded p.led) (on p.led g out) in
    (omega arith, (p.led, (st, record { len = r.len; calls = omega (arith, r.calls) })))

pub visit_marked-met-requires : goal.visit_marked-met-requires
visit_marked-met-requires t c =
    let g = c.loop-field.invariant in
    let out = c.in-Some.ensures.steps in
    let r = going-room (bounded c.requires.led) (on c.requires.led g out) in
    omega (arith, r.calls, turn_below g.1 out)

-- `met`: the struct was visited, or it was marked and its visit is counted. The two goals share no record behind the branches that a lemma could be over.
pub loop-field-preserved-then-not-u : goal.loop-field-preserved-then-not-u
loop-field-preserved-then-not-u t c =
    let p = c.requires in
    let f = c.in-Some-leads_to.ensures in
    failed p.led c.loop-field.invariant c.in-Some.ensures.steps p.fact.0 c.rest-at.ensures f met c.if-not-u.true c.blame.ensures
  where
    met : let l = c.loop-field in
        let r = c.if-found-eq-NEW in
        VisitsBy c.args.s.now c.args.leads.now l.cx l.order (put-ok l.u l.ok) c.in-Some-leads_to.inner r.u r.cx r.order
    met =
        elim c.if-found-eq-NEW.branch [
          | then-found-eq-NEW w ↦ rw (w.cx-is, w.order-is, w.u-is) (visits-flag _ _ c.loop-field.ok w.visit-u.ensures)
          | else-found-eq-NEW w ↦
              let m = w.visit_marked-met.ensures in
              rw (w.cx-is, w.order-is, w.u-is) (seen-marked _ _ _ _ _ w.if-found-eq-NEW.false _ _ m.0 m.1)
        ]

pub loop-field-preserved : goal.loop-field-preserved
loop-field-preserved t c =
    let p = c.requires in
    let f = c.in-Some-leads_to.ensures in
    visited p.led c.loop-field.invariant c.in-Some.ensures.steps p.fact.0 c.rest-at.ensures f met c.if-not-u.false
  where
    met : let l = c.loop-field in
        let r = c.if-found-eq-NEW in
        VisitsBy c.args.s.now c.args.leads.now l.cx l.order (put-ok l.u l.ok) c.in-Some-leads_to.inner r.u r.cx r.order
    met =
        elim c.if-found-eq-NEW.branch [
          | then-found-eq-NEW w ↦ rw (w.cx-is, w.order-is, w.u-is) (visits-flag _ _ c.loop-field.ok w.visit-u.ensures)
          | else-found-eq-NEW w ↦
              let m = w.visit_marked-met.ensures in
              rw (w.cx-is, w.order-is, w.u-is) (seen-marked _ _ _ _ _ w.if-found-eq-NEW.false _ _ m.0 m.1)
        ]

-- ## The end

pub bounds-u-place-3 : goal.bounds-u-place-3
bounds-u-place-3 t c = omega (arith, struct-below c.requires.led c.args.i c.requires.fact.0)

pub overflow_cast-order : goal.overflow_cast-order
overflow_cast-order t c = omega (arith, going-len (bounded c.requires.led) (ended c.requires.led c.loop-field.invariant c.in-None.ensures.steps))

pub bounds-order-u : goal.bounds-order-u
bounds-order-u t c = omega (arith, going-len (bounded c.requires.led) (ended c.requires.led c.loop-field.invariant c.in-None.ensures.steps))

pub overflow_add-u-2 : goal.overflow_add-u-2
overflow_add-u-2 t c = omega (arith, going-len (bounded c.requires.led) (ended c.requires.led c.loop-field.invariant c.in-None.ensures.steps))

pub returns : goal.returns
returns t c =
    let a = c.args in
    let p = c.requires in
    let b = struct-below p.led a.i p.fact.0 in
    let lm : length a.w.marks ≡ 255 = search rules in
    let done = ended p.led c.loop-field.invariant c.in-None.ensures.steps in
    visit-new a.w a.i _ _ c.if-mark-ne-NEW.false (omega arith) done (omega arith)
