-- `typecheck::impls::check_api_impl` meets its contract: its parts report one after the other. Assumes nothing.
use Rattle.errors.specs.Sink.{also}
use Rattle.rules.specs.Check.{check_api_impl}
use Rattle.typecheck.proofs.impls.check_api_impl.Goals as goal

pub returns : goal.returns
unfolding check_api_impl
returns c =
    λ t.
    also (c.check_lifetimes.ensures t) (c.check_impl_self.ensures t)
