use borrow.Author.Rules.{rules}
use mathlib.Core.Path.{refl, sym, ◌∙◌}
use Rattle.std.proofs.lemmas.Result.{err_from_is_err_and}
use Rattle.sheet.proofs.StepLaws.{each-stop, each-go, each-end}
use Rattle.sheet.proofs.FreshLaws.{placed-here, row-refused, row_new, row_seen, own_keys}
use Rattle.sheet.proofs.row_steps.all_rows.Goals as goal

pub returns-in_err-next : goal.returns-in_err-next
returns-in_err-next c =
    let p = err_from_is_err_and c.from_residual.result c.from_residual.ensures.1 in
    let refused = row-refused _ _ _ c.placed.ensures c.in_err-next.was in
    rw (p.1, p.2) (sym c.in_err-next.was ∙ each-stop _ _ _ _ _ c.loop-r.invariant.left c.loop-r-test.true refused c.in_err-next.was)

pub fresh-requires : goal.fresh-requires
fresh-requires c =
    let here = placed-here _ _ _ c.placed.ensures c.in_ok-next.was in
    record { kept = c.loop-r.invariant.kept here; own = own_keys _ _ _ _ c.keys_of-two.ensures here refl }

pub returns-then-not-fresh : goal.returns-then-not-fresh
returns-then-not-fresh c =
    let seen = row_seen _ _ _ c.placed.ensures c.in_ok-next.was c.fresh.ensures c.if-not-fresh.true in
    c.refusal.ensures ∙ each-stop _ _ _ _ _ c.loop-r.invariant.left c.loop-r-test.true seen refl

pub loop-r-preserved : goal.loop-r-preserved
loop-r-preserved c =
    let turn = c.loop-r in
    let here = placed-here _ _ _ c.placed.ensures c.in_ok-next.was in
    record {
      left = each-go _ _ _ _ _ turn.invariant.left c.loop-r-test.true (row_new _ _ _ c.placed.ensures c.in_ok-next.was c.fresh.ensures
          c.if-not-fresh.false) c.in_ok-next.was;
      within = search rules;
      kept = λ e. c.push.ensures _ (turn.invariant.kept here) (own_keys _ _ _ _ c.keys_of-two.ensures here e);
    }

pub returns : goal.returns
returns c = search each-end
