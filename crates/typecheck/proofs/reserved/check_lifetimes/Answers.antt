-- `typecheck::reserved::check_lifetimes` meets its contract: a turn adds the messages of its lifetime, and at the end the index is the count. Assumes nothing.
use mathlib.Core.Path.{◌≡◌, ◌∙◌}
use native.Mathlib.Omega.{arith}
use Rattle.rules.specs.View.{lifetime_count, lifetime}
use Rattle.rules.specs.Check.{check_reserved_lifetime, check_lifetimes}
use Rattle.errors.specs.Sink.{start, turn, whole}
use Rattle.typecheck.proofs.reserved.check_lifetimes.Goals as goal

pub loop-j-init : goal.loop-j-init
loop-j-init c = start _ _

pub loop-j-preserved : goal.loop-j-preserved
unfolding lifetime
loop-j-preserved c = turn _ _ c.loop-j.invariant (rw (rw c.lifetimes_place-at.ensures at c.entry.ensures) at c.check_reserved_lifetime.ensures)

pub returns : goal.returns
unfolding check_lifetimes check_reserved_lifetime lifetime_count
returns c =
    λ t.
    let e : c.loop-j.j ≡ c.pair_at-j-end.result = omega arith in
    whole _ c.loop-j.invariant (e ∙ rw c.lifetimes_place-at.ensures at c.pair_at-j-end.ensures)
