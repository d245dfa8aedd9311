-- `typecheck::check_apis` meets its contract: a turn adds the messages of its item, and at the end the index is the count. Assumes nothing.
use Rattle.errors.specs.Sink.{start, turn}
use Rattle.typecheck.proofs.check_apis.Goals as goal

pub loop-i-init : goal.loop-i-init
loop-i-init c = start _ _

pub loop-i-preserved : goal.loop-i-preserved
loop-i-preserved c = turn _ _ c.loop-i.invariant c.check_api.ensures
