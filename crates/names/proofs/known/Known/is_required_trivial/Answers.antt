-- `Known::is_required_trivial` is `is_required_trivial` of the rules, by the table.
-- Assumes nothing.
use mathlib.Core.Path.{sym, ap, ◌∙◌}
use lib.Dec.{ltb}
use Rattle.rules.specs.Types.{is_required_trivial}
use Rattle.names.specs.Known.{tabled}
use Rattle.names.proofs.Columns.{has-is}
use Rattle.names.proofs.known.Known.is_required_trivial.Goals as goal

pub returns : goal.returns
unfolding is_required_trivial tabled
returns c = ap (ltb 0) c.entry.ensures ∙ sym (has-is _ _ _)
