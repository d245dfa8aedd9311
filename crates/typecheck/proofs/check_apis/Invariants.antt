-- `typecheck::check_apis` meets its contract: the items before i have given their messages. Assumes nothing.
use Rattle.rules.specs.Base.{over}
use Rattle.rules.specs.Check.{check_api}
use Rattle.names.specs.Known.{sheet, types}
use Rattle.errors.specs.Sink.{Reported}
use Rattle.typecheck.proofs.check_apis.Given as goal

abbrev pub invariant-loop-i : goal.invariant-loop-i
invariant-loop-i l = Reported l.initial.cx (over l.i (check_api (sheet l.given.known.now) (types l.given.known.now))) l.cx
