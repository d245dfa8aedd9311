-- `typecheck::reserved::check_lifetimes` meets its contract: the lifetimes before j have given their messages. Assumes nothing.
use Rattle.rules.specs.Base.{over}
use Rattle.rules.specs.View.{lifetime}
use Rattle.errors.specs.Sink.{Reported}
use Rattle.typecheck.specs.Tests.{reserved_lifetime}
use Rattle.typecheck.proofs.reserved.check_lifetimes.Given as goal

abbrev pub invariant-loop-j : goal.invariant-loop-j
invariant-loop-j l = Reported l.initial.cx (over l.j (λ k. reserved_lifetime l.i k (lifetime l.s l.i k))) l.cx
