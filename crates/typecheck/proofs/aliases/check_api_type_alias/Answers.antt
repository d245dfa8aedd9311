-- `typecheck::aliases::check_api_type_alias` meets its contract: its parts report one after the other. Assumes nothing.
use Rattle.errors.specs.Sink.{also}
use Rattle.rules.specs.Check.{check_api_type_alias}
use Rattle.typecheck.specs.Derives.{derived, all_derived}
use Rattle.typecheck.proofs.aliases.check_api_type_alias.Goals as goal

pub returns : goal.returns
unfolding check_api_type_alias all_derived derived
returns c =
    λ t.
    also (c.check_lifetimes.ensures t) c.check_derives.ensures
