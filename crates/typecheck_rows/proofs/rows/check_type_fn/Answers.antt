-- `typecheck_rows::rows::check_type_fn` meets its contract: its parts report one after the other. Assumes nothing.
use Rattle.errors.specs.Sink.{also, meant-if}
use Rattle.rules.specs.Check.{check_type_fn}
use Rattle.typecheck_rows.proofs.rows.check_type_fn.Goals as goal

pub returns : goal.returns
unfolding check_type_fn
returns c =
    λ t.
    also (meant-if _ c.error_if.ensures c.fn_throws.ensures) c.check_fn_args.ensures
