-- `types::rows::show` meets its contract: a row that was seen adds nothing.
-- Assumes nothing.
use mathlib.Core.Path.{sym, ◌∙◌}
use Rattle.types.proofs.Walking.{few, old}
use Rattle.types.proofs.rows.show.Goals as goal

pub seen-requires : goal.seen-requires
seen-requires c = (few c.requires, c.requires.walk.long)

pub returns-else-not-seen : goal.returns-else-not-seen
returns-else-not-seen c = old c.requires (sym c.seen.ensures ∙ c.if-not-seen.false)
