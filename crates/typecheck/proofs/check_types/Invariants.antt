-- `typecheck::check_types` meets its contract: the rows before j have given their messages. Assumes nothing.
use lib.ListN.{get_or}
use Rattle.rules.specs.Base.{over}
use Rattle.rules.specs.Types.{types_of}
use Rattle.rules.specs.Check.{check_type}
use Rattle.names.specs.Known.{sheet, types}
use Rattle.errors.specs.Sink.{Reported}
use Rattle.typecheck.proofs.check_types.Given as goal

abbrev pub invariant-loop-j : goal.invariant-loop-j
invariant-loop-j l = Reported l.initial.cx (over l.j (λ k. check_type (sheet l.known) (types l.known) (get_or (types_of (sheet l.known)).all k 0))) l.cx
