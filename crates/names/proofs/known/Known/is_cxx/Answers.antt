-- `Known::is_cxx` is `is_cxx` of the rules, by the table.
-- Assumes nothing.
use mathlib.Core.Path.{sym, ap, ◌∙◌}
use lib.Dec.{ltb}
use Rattle.rules.specs.Types.{is_cxx}
use Rattle.names.specs.Known.{tabled}
use Rattle.names.proofs.Columns.{has-is}
use Rattle.names.proofs.known.Known.is_cxx.Goals as goal

pub returns : goal.returns
unfolding is_cxx tabled
returns c = ap (ltb 0) c.entry.ensures ∙ sym (has-is _ _ _)
