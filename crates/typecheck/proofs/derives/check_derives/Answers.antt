-- `typecheck::derives::check_derives` meets its contract: a turn adds the messages of its derive, and at the end the index is the count. Assumes nothing.
use mathlib.Core.Path.{◌≡◌, ◌∙◌}
use native.Mathlib.Omega.{arith}
use Rattle.rules.specs.View.{derive_count, derive}
use Rattle.errors.specs.Sink.{start, turn, whole}
use Rattle.typecheck.specs.Derives.{all_derived}
use Rattle.typecheck.proofs.derives.check_derives.Goals as goal

pub loop-j-init : goal.loop-j-init
loop-j-init c = start _ _

pub loop-j-preserved : goal.loop-j-preserved
unfolding derive
loop-j-preserved c = turn _ _ c.loop-j.invariant (rw (rw c.derives_place-at.ensures at c.entry.ensures) at c.check_derive.ensures)

pub returns : goal.returns
unfolding all_derived derive_count
returns c =
    let e : c.loop-j.j ≡ c.pair_at-j-end.result = omega arith in
    whole _ c.loop-j.invariant (e ∙ rw c.derives_place-at.ensures at c.pair_at-j-end.ensures)
