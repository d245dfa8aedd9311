use Rattle.std.proofs.Common.{arith, length-set, rules, ◌≡◌}
use Rattle.std.proofs.lemmas.List.{get_or-replicate}
use Rattle.row_tables.proofs.Made.{made-start, made-next}
use Rattle.row_tables.proofs.upward.upward.Goals as goal

pub loop-r-init : goal.loop-r-init
loop-r-init g c = (search rules, made-start _ _ _ _ (λ x r l. get_or-replicate 1024 r c.args.none x l))

pub loop-r-preserved : goal.loop-r-preserved
loop-r-preserved g c =
    (simp length-set c.loop-r.invariant.0, made-next _ _ _ _ _ _ (omega (arith, c.loop-r.invariant.0, c.requires.few)) c.step.ensures c.loop-r.invariant.1)

pub returns : goal.returns
returns g c =
    let e : c.loop-r.r ≡ c.args.n = omega arith in
    rw e at c.loop-r.invariant.1
