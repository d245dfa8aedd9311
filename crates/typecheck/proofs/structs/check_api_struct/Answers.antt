-- `typecheck::structs::check_api_struct` meets its contract: its parts report one after the other. Assumes nothing.
use mathlib.Core.Path.{refl}
use Rattle.errors.specs.Sink.{also, also-if, meant}
use Rattle.rules.specs.Check.{check_struct_derive, check_api_struct}
use Rattle.laws.proofs.Sheet.Accepted.Items.{item-of}
use Rattle.row_tables.proofs.ListLaws.{struct-list}
use Rattle.typecheck.specs.Derives.{derived, all_derived}
use Rattle.typecheck.proofs.Meant.{fields-meant}
use Rattle.typecheck.proofs.structs.check_api_struct.Goals as goal

pub check_struct_fields-requires : goal.check_struct_fields-requires
check_struct_fields-requires c = struct-list _ c.requires.accepted _ _ _ (record { below = c.requires.below; is_struct = c.requires.struct }) refl refl

pub returns : goal.returns
unfolding check_api_struct check_struct_derive all_derived derived
returns c =
    let fields = ((item-of _ c.requires.accepted _ c.requires.below).as_struct c.requires.struct).field_below in
    also (also (also
    (also-if _ (also (c.check_reserved_name.ensures _) (c.check_lifetimes.ensures _)) c.error_if.ensures (rw c.field_count.ensures))
    c.check_untrusted.ensures)
    c.check_derives.ensures)
    (meant c.check_struct_fields.ensures (fields-meant _ _ _ c.requires.faults_right _ fields))
