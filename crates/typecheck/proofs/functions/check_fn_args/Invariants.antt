-- `typecheck::functions::check_fn_args` meets its contract: the arguments before j have given their messages. Assumes nothing.
use Rattle.rules.specs.Base.{over}
use Rattle.rules.specs.View.{arg}
use Rattle.errors.specs.Sink.{Reported}
use Rattle.typecheck.specs.Tests.{function_of, function_arg}
use Rattle.typecheck.proofs.functions.check_fn_args.Given as goal

abbrev pub invariant-loop-j : goal.invariant-loop-j
invariant-loop-j l = Reported l.initial.cx (over l.j (λ k. function_arg l.s l.faults (function_of l.s l.i) k (arg l.s l.i k))) l.cx
