-- `typecheck::derives::check_struct_derive` meets its contract: its parts report one after the other. Assumes nothing.
use Rattle.errors.specs.Sink.{also, meant-if}
use Rattle.typecheck.proofs.derives.check_struct_derive.Goals as goal

pub returns : goal.returns
returns c = also (meant-if _ c.error_if.ensures c.is_bit-bits.ensures) c.error_if-2.ensures
