use Rattle.std.proofs.Common.{◌≡◌, refl, ◌∙◌, ap, arith, ℕ, [], ◌∷◌}
use Rattle.rules.specs.Base.{over, any_of}
use Rattle.rules.specs.View.{entry, entries}
use Rattle.laws.specs.RowTable.{marked}
use Rattle.row_tables.proofs.AnyOf.{any-turn}
use Rattle.row_tables.proofs.lifetimes.any_marked_in.Goals as goal

pub loop-j-init : goal.loop-j-init
unfolding over any_of
loop-j-init c = refl

pub loop-j-preserved : goal.loop-j-preserved
loop-j-preserved c = any-turn (marked _) (entry c.args.s.now c.args.at) _ c.loop-j.invariant (rw c.entry.ensures at c.marked-found.ensures) refl

pub returns : goal.returns
unfolding entries
returns c =
    let e : c.loop-j.j ≡ c.pair_at-n.result = omega arith in
    c.loop-j.invariant ∙ ap (λ (n : ℕ). any_of (marked c.args.table.now) (over n (λ k. entry c.args.s.now c.args.at k ∷ []))) (e ∙ c.pair_at-n.ensures)
