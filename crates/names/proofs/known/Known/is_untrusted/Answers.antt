-- `Known::is_untrusted` is `is_untrusted` of the rules, by the table.
-- Assumes nothing.
use mathlib.Core.Path.{sym, ap, ◌∙◌}
use lib.Dec.{ltb}
use Rattle.rules.specs.Types.{is_untrusted}
use Rattle.names.specs.Known.{tabled}
use Rattle.names.proofs.Columns.{has-is}
use Rattle.names.proofs.known.Known.is_untrusted.Goals as goal

pub returns : goal.returns
unfolding is_untrusted tabled
returns c = ap (ltb 0) c.entry.ensures ∙ sym (has-is _ _ _)
