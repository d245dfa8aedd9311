-- `Known::is_opaque` is `is_opaque` of the rules: an extern C++ type, and no alias.
-- Assumes nothing.
use mathlib.Core.Path.{◌∙◌}
use Rattle.names.proofs.Askers.{opaque-not, opaque-alias}
use Rattle.names.proofs.known.Known.is_opaque.Goals as goal

pub returns-then-is_extern : goal.returns-then-is_extern
returns-then-is_extern c = opaque-alias _ _ (c.is_extern.ensures) c.if-is_extern.true (c.is_alias.ensures)

pub returns-else-is_extern : goal.returns-else-is_extern
returns-else-is_extern c = c.if-is_extern.false ∙ opaque-not _ _ (c.is_extern.ensures) c.if-is_extern.false
