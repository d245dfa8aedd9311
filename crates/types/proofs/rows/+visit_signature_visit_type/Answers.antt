-- `types::rows::visit_type` and `visit_signature` meet their contracts, each by the other at a row that is less.
-- Assumes nothing.
use mathlib.Core.Path.{◌≡◌, refl, sym, ap, ◌∙◌}
use mathlib.Core.Bool.{true}
use mathlib.Core.List.{[], ◌∷◌}
use native.Mathlib.Omega.{arith}
use borrow.Author.Tests.{eqb-true, eqb-false}
use Rattle.rules.specs.View.{is, kind, or_nothing, fn_return}
use Rattle.laws.proofs.Sheet.Accepted.Rows.{row_of}
use Rattle.laws.specs.Kinds.{leaf}
use Rattle.laws.proofs.Sheet.Collect.Shown.{shown-leaf, shown-fn}
use Rattle.types.specs.Walk.{Walks}
use Rattle.types.proofs.Walking.{few, held_next, held_after, still, wider, further, old, new, read_shown, read-below}
use Rattle.types.proofs.Walking.{to_none, to-more, to_end, inner-less, shown-one, arg-less, arg-next, args_are}
use Rattle.types.proofs.rows.+visit_signature_visit_type.Goals as goal
use Rattle.types.proofs.rows.+visit_signature_visit_type.Goals.{visit_signature-in-Some, visit_signature-in_default}

pub visit_signature-visit_type-requires : goal.visit_signature-visit_type-requires
visit_signature-visit_type-requires t c =
    let R = c.requires in
    let row = row_of c.args.s.now R.ready.walk.accepted c.args.row R.ready.below in
    let l = read-below c.fn_return.ensures (row.return-falls R.is_fn) _ c.in-Some.is in
    let b = R.ready.below in
    let q = c.decreases in
    (omega arith, record { walk = R.ready.walk; below = omega arith })

pub visit_signature-loop-j-init : goal.visit_signature-loop-j-init
visit_signature-loop-j-init t c =
    let a = c.args in
    let R = c.requires in
    let row = row_of a.s.now R.ready.walk.accepted a.row R.ready.below in
    let shown = read_shown _ c.fn_return.ensures in
    let returned : Walks a.s.now a.rows.now a.row (or_nothing (fn_return a.s.now a.row)) c.match-fn_return.rows =
    elim c.match-fn_return.branch [
      | visit_signature-in-Some w ↦
          (let l = read-below c.fn_return.ensures (row.return-falls R.is_fn) _ w.in-Some.is in
          rw (w.rows-is, ← shown, w.in-Some.is) (wider w.visit_type.ensures (omega arith)))
      | visit_signature-in_default w ↦ rw (w.rows-is, ← shown, w.in_default.is) (still R.ready.walk)
    ] in
    record { returned = returned; walked = to_none c.fn_args_place-args.result (held_after R.ready.walk returned) }

pub visit_signature-seen-requires : goal.visit_signature-seen-requires
visit_signature-seen-requires t c =
    let v = c.loop-j.invariant in
    let w = arg-next _ c.requires c.fn_args_place-args.ensures c.pair_at-count.ensures v.returned v.walked c.loop-j-test.true c.entry-arg.ensures in
    (few w, w.walk.long)

pub visit_signature-loop-j-preserved-then-seen : goal.visit_signature-loop-j-preserved-then-seen
visit_signature-loop-j-preserved-then-seen t c =
    let v = c.loop-j.invariant in
    let less = arg-less _ c.requires c.fn_args_place-args.ensures c.pair_at-count.ensures c.loop-j-test.true c.entry-arg.ensures in
    let w = arg-next _ c.requires c.fn_args_place-args.ensures c.pair_at-count.ensures v.returned v.walked c.loop-j-test.true c.entry-arg.ensures in
    let seen = old w (sym c.seen.ensures ∙ c.if-seen.true) in
    record { returned = v.returned; walked = to-more c.fn_args_place-args.result c.loop-j.j v.walked c.entry-arg.ensures less seen }

pub visit_signature-visit_type-requires-in-loop-j : goal.visit_signature-visit_type-requires-in-loop-j
visit_signature-visit_type-requires-in-loop-j t c =
    let v = c.loop-j.invariant in
    let q = c.decreases in
    let less = arg-less _ c.requires c.fn_args_place-args.ensures c.pair_at-count.ensures c.loop-j-test.true c.entry-arg.ensures in
    (omega arith, arg-next _ c.requires c.fn_args_place-args.ensures c.pair_at-count.ensures v.returned v.walked c.loop-j-test.true c.entry-arg.ensures)

pub visit_signature-loop-j-preserved : goal.visit_signature-loop-j-preserved
visit_signature-loop-j-preserved t c =
    let v = c.loop-j.invariant in
    let less = arg-less _ c.requires c.fn_args_place-args.ensures c.pair_at-count.ensures c.loop-j-test.true c.entry-arg.ensures in
    record {
      returned = v.returned;
      walked = to-more c.fn_args_place-args.result c.loop-j.j v.walked c.entry-arg.ensures less c.visit_type-in-loop-j.ensures;
    }

pub visit_signature-returns : goal.visit_signature-returns
visit_signature-returns t c =
    let l = c.loop-j in
    let e : l.j ≡ c.pair_at-count.result = omega arith in
    let w = to_end c.fn_args_place-args.result l.j l.invariant.walked (e ∙ c.pair_at-count.ensures) in
    rw (← (args_are c.args.s.now c.args.row c.fn_args_place-args.ensures)) (further l.invariant.returned w)

pub visit_type-seen-requires : goal.visit_type-seen-requires
visit_type-seen-requires t c = (few c.requires, c.requires.walk.long)

pub visit_type-returns-then-seen : goal.visit_type-returns-then-seen
visit_type-returns-then-seen t c = old c.requires (sym c.seen.ensures ∙ c.if-seen.true)

pub visit_type-push-requires : goal.visit_type-push-requires
visit_type-push-requires t c =
    let R = c.requires in
    record { below = few R; long = R.walk.long; held = R.walk.held; unseen = sym c.seen.ensures ∙ c.if-seen.false }

pub visit_type-returns-then-is_leaf : goal.visit_type-returns-then-is_leaf
visit_type-returns-then-is_leaf t c =
    let a = c.args in
    let o = sym c.seen.ensures ∙ c.if-seen.false in
    let d = c.push in
    let h : leaf (kind a.s.now a.row) ≡ true = sym c.is_leaf.ensures ∙ c.if-is_leaf.true in
    new c.requires o d.ensures (shown-leaf a.s.now a.row (kind a.s.now a.row) h refl) (still (held_next d.ensures c.requires.walk))

pub visit_type-visit_signature-requires : goal.visit_type-visit_signature-requires
unfolding is
visit_type-visit_signature-requires t c =
    let R = c.requires in
    let d = c.push in
    let q = c.decreases in (
      omega arith,
      record {
        ready = record { walk = held_next d.ensures R.walk; below = R.below };
        is_fn = eqb-true _ _ (sym c.is.ensures ∙ c.if-is.true);
      },
    )

pub visit_type-returns-then-is : goal.visit_type-returns-then-is
unfolding is
visit_type-returns-then-is t c =
    let o = sym c.seen.ensures ∙ c.if-seen.false in
    new
    c.requires
    o
    c.push.ensures
    (shown-fn c.args.s.now c.args.row (eqb-true _ _ (sym c.is.ensures ∙ c.if-is.true)))
    c.visit_signature.ensures

pub visit_type-visit_type-requires : goal.visit_type-visit_type-requires
unfolding is
visit_type-visit_type-requires t c =
    let a = c.args in
    let R = c.requires in
    let d = c.push in
    let e = c.inner-inner.ensures in
    let q = c.decreases in
    let g = eqb-false _ _ (sym c.is.ensures ∙ c.if-is.false) in
    let l = inner-less a.s.now R.walk.accepted a.row R.below refl (sym c.is_leaf.ensures ∙ c.if-is_leaf.false) g in
    let b = R.below in
    (omega arith, record { walk = held_next d.ensures R.walk; below = omega arith })

pub visit_type-returns : goal.visit_type-returns
unfolding is
visit_type-returns t c =
    let a = c.args in
    let R = c.requires in
    let o = sym c.seen.ensures ∙ c.if-seen.false in
    let e = c.inner-inner.ensures in
    let f = sym c.is_leaf.ensures ∙ c.if-is_leaf.false in
    let g = eqb-false _ _ (sym c.is.ensures ∙ c.if-is.false) in
    let l = inner-less a.s.now R.walk.accepted a.row R.below refl f g in
    let q = shown-one a.s.now a.row refl f g in
    new R o c.push.ensures (q ∙ ap (λ x. x ∷ []) (sym e)) (wider c.visit_type.ensures (omega arith))
