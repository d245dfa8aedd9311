-- `bridge_core::answers::refused` meets its contract: the record is the definition, its sets being empty. Assumes nothing.
use Rattle.bridge_core.proofs.Parts.{refused-is}
use Rattle.bridge_core.proofs.answers.refused.Goals as goal

pub returns : goal.returns
returns c = refused-is _ _ c.empty-none.ensures
