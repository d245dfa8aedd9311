-- `typecheck::derives::check_derives` meets its contract: the derives before j have given their messages. Assumes nothing.
use Rattle.rules.specs.Base.{over}
use Rattle.rules.specs.View.{derive}
use Rattle.errors.specs.Sink.{Reported}
use Rattle.typecheck.specs.Derives.{derived}
use Rattle.typecheck.proofs.derives.check_derives.Given as goal

abbrev pub invariant-loop-j : goal.invariant-loop-j
invariant-loop-j l = Reported l.initial.cx (over l.j (λ k. derived l.s l.owner l.i k (derive l.s l.i k))) l.cx
