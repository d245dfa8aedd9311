-- `typecheck::functions::check_api_fn` meets its contract: its parts report one after the other. Assumes nothing.
use Rattle.errors.specs.Sink.{also, meant}
use Rattle.rules.specs.Check.{check_api_fn}
use Rattle.laws.proofs.Sheet.Accepted.Items.{item-of}
use Rattle.typecheck.proofs.Meant.{args-meant, return-meant}
use Rattle.typecheck.proofs.functions.check_api_fn.Goals as goal

pub returns : goal.returns
unfolding check_api_fn
returns c =
    let function = (item-of _ c.requires.mut_return.accepted _ c.requires.mut_return.below).as_function c.requires.mut_return.function in
    also (also (also (also (also
    (c.check_fn_generics.ensures _) (c.check_lifetimes.ensures _))
    c.check_fn_kind.ensures)
    (meant c.check_fn_args.ensures (args-meant _ _ _ c.requires.faults_right _ function)))
    (meant c.check_fn_return.ensures (return-meant _ _ _ c.requires.faults_right _ function)))
    c.check_fn_mut_return.ensures
