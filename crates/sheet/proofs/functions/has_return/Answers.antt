-- The accessor `sheet::functions::has_return` gives what `has_return` of the rules says: the return row is some row.
-- Assumes nothing.
use Rattle.std.specs.Prelude.{is_some}
use mathlib.Core.Path.{ap, ◌∙◌}
use Rattle.rules.specs.Numbers.{no_row}
use Rattle.rules.specs.View.{return, has_return}
use Rattle.rules.proofs.KindLaws.{some-is}
use Rattle.sheet.proofs.functions.has_return.Goals as goal

pub returns : goal.returns
unfolding has_return
returns c = c.is_some.ensures ∙ ap is_some c.return_row.ensures ∙ some-is no_row (return _ _)
