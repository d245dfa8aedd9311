-- `typecheck::enums::check_api_enum` meets its contract: its parts report one after the other. Assumes nothing.
use mathlib.Core.Path.{◌≡◌}
use mathlib.Core.Bool.{not, ◌&&◌}
use lib.Dec.{eqb}
use Rattle.std.proofs.Common.{rules}
use Rattle.rules.specs.View.{enum_variants, enum_explicit}
use Rattle.errors.specs.Sink.{also, also-if}
use Rattle.rules.specs.Check.{check_enum_derive, check_api_enum}
use Rattle.typecheck.specs.Derives.{derived, all_derived}
use Rattle.typecheck.proofs.enums.check_api_enum.Goals as goal

pub returns : goal.returns
unfolding check_api_enum check_enum_derive all_derived derived
returns c =
    λ t.
    let bare : c.if-enum_variants-eq0.bare ≡ (eqb (enum_variants c.args.s.now c.args.i) 0 && not (enum_explicit c.args.s.now c.args.i)) = search rules in
    also (also-if _ (also (c.check_reserved_name.ensures t) (c.check_lifetimes.ensures t)) c.error_if.ensures bare) c.check_derives.ensures
