-- `typecheck::extern_types::check_api_type` meets its contract: its parts report one after the other. Assumes nothing.
use Rattle.errors.specs.Sink.{also, also-if}
use Rattle.rules.specs.Check.{check_opaque_derive, check_api_type}
use Rattle.typecheck.specs.Derives.{derived, all_derived}
use Rattle.typecheck.proofs.extern_types.check_api_type.Goals as goal

pub returns : goal.returns
unfolding check_api_type check_opaque_derive all_derived derived
returns c =
    also
    (also-if _ (also (also (c.check_reserved_name.ensures _) (c.check_lifetimes.ensures _)) c.check_derives.ensures) c.error_if.ensures
    c.type_bounds-2.ensures)
    c.check_required_trivial.ensures
