-- `typecheck::impls::check_impl_self` meets its contract: each test that the code makes is that of the definition. Assumes nothing.
use Rattle.std.proofs.Common.{rules}
use Rattle.rules.specs.Base.{if'◌then◌else◌}
use Rattle.rules.specs.Diagnostics.{when}
use Rattle.rules.specs.Check.{check_impl_self}
use Rattle.typecheck.proofs.impls.check_impl_self.Goals as goal

pub returns-then-impl_negative : goal.returns-then-impl_negative
unfolding check_impl_self when if'◌then◌else◌
returns-then-impl_negative c = λ t. search rules

pub returns-then-not-is_generic : goal.returns-then-not-is_generic
unfolding check_impl_self when if'◌then◌else◌
returns-then-not-is_generic c = λ t. search rules

pub returns : goal.returns
unfolding check_impl_self when if'◌then◌else◌
returns c = λ t. search rules
