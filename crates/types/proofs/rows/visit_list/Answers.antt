use mathlib.Core.Path.{◌≡◌, ◌∙◌}
use native.Mathlib.Omega.{arith}
use Rattle.types.proofs.Walking.{to_none, to-more, to_end}
use Rattle.types.proofs.rows.visit_list.Goals as goal

pub loop-j-init : goal.loop-j-init
loop-j-init c = to_none _ c.requires.walk

pub loop-j-preserved : goal.loop-j-preserved
loop-j-preserved c =
    let x = c.requires.below c.loop-j.j (omega (arith, c.pair_at-count.ensures)) in
    to-more _ c.loop-j.j c.loop-j.invariant c.entry_within.ensures (omega arith) c.show.ensures

pub returns : goal.returns
returns c =
    let e : c.loop-j.j ≡ c.pair_at-count.result = omega arith in
    to_end _ c.loop-j.j c.loop-j.invariant (e ∙ c.pair_at-count.ensures)
