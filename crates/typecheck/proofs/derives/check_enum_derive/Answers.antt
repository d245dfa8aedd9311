-- `typecheck::derives::check_enum_derive` meets its contract: Default is not ExternType, so that one of the two tests is left. Assumes nothing.
use borrow.Author.Tests.{ne_eqb}
use Rattle.errors.specs.Sink.{meant}
use Rattle.typecheck.proofs.DeriveLaws.{default-said, other-said}
use Rattle.typecheck.proofs.derives.check_enum_derive.Goals as goal

pub returns-then-what-eq-DEFAULT : goal.returns-then-what-eq-DEFAULT
returns-then-what-eq-DEFAULT c = meant c.error_if.ensures (default-said _ _ _ _ c.enum_defaults-defaults.ensures c.if-what-eq-DEFAULT.true)

pub returns : goal.returns
returns c = meant c.error_if-2.ensures (other-said c.args.s.now c.args.i c.args.j c.args.what (ne_eqb _ _ c.if-what-eq-DEFAULT.false))
