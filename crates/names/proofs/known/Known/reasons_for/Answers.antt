-- `Known::reasons_for` is `reasons_for` of the rules, by the table.
-- Assumes nothing.
use mathlib.Core.Path.{sym, ◌∙◌}
use Rattle.rules.specs.Types.{reasons_for}
use Rattle.names.specs.Known.{tabled}
use Rattle.names.proofs.Columns.{count-is}
use Rattle.names.proofs.known.Known.reasons_for.Goals as goal

pub returns : goal.returns
unfolding reasons_for tabled
returns c = c.count.ensures ∙ sym (count-is _ _ _)
