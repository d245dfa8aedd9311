-- `typecheck_rows::rows::check_fn_args` meets its contract: the arguments before j have given their messages. Assumes nothing.
use Rattle.rules.specs.Base.{over}
use Rattle.errors.specs.Sink.{Reported}
use Rattle.typecheck_rows.specs.Tests.{pointer_arg}
use Rattle.typecheck_rows.proofs.rows.check_fn_args.Given as goal

abbrev pub invariant-loop-j : goal.invariant-loop-j
invariant-loop-j l = Reported l.initial.cx (over l.j (pointer_arg l.s l.r)) l.cx
