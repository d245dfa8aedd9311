-- `Known::struct_of` is `struct_of` of the rules, by the table.
-- Assumes nothing.
use mathlib.Core.Path.{sym, ap, ◌∙◌}
use Rattle.rules.specs.Numbers.{no_item}
use Rattle.rules.specs.Types.{struct_of}
use Rattle.rules.specs.Kinds.{some_unless}
use Rattle.names.specs.Known.{item_in, tabled}
use Rattle.names.proofs.Columns.{last-is}
use Rattle.names.proofs.known.Known.struct_of.Goals as goal

pub returns : goal.returns
unfolding struct_of tabled
returns c = c.item_in.ensures ∙ ap (some_unless no_item) (ap item_in c.entry.ensures ∙ sym (last-is _ _ _))
