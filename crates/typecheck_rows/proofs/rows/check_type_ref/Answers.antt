-- `typecheck_rows::rows::check_type_ref` meets its contract: its parts report one after the other. Assumes nothing.
use mathlib.Core.List.{append_assoc}
use mathlib.Core.Path.{◌≡◌}
use mathlib.Core.Bool.{◌&&◌}
use Rattle.std.proofs.Common.{rules}
use Rattle.rules.specs.View.{inner}
use Rattle.rules.specs.Check.{requires_pin, check_type_ref}
use Rattle.names.specs.Known.{types}
use Rattle.errors.specs.Sink.{also, meant-if}
use Rattle.typecheck_rows.specs.Tests.{unpinned}
use Rattle.typecheck_rows.proofs.rows.check_type_ref.Goals as goal

pub returns : goal.returns
unfolding check_type_ref
returns c =
    let s = c.args.known.now.s.now in
    let test : c.if-is_unpinned.pin ≡ (unpinned s c.args.r && requires_pin s (types c.args.known.now) (inner s c.args.r)) = search rules in
    rw append_assoc (also (meant-if _ c.error_if.ensures test) c.check_pointee.ensures)
