-- `typecheck::do_typecheck` meets its contract: its two loops report one after the other, by the table of names; what that holds is what is collected.
-- Assumes nothing.
use mathlib.Core.Path.{ap}
use Rattle.errors.specs.Sink.{also, meant}
use Rattle.typecheck.specs.Post.{checks}
use Rattle.typecheck.proofs.do_typecheck.Goals as goal

pub returns : goal.returns
returns c = meant (also c.check_types.ensures c.check_apis.ensures) (ap (checks _) c.requires.names_held)
