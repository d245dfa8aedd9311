-- `layout::parts::put_answer` stores the answer's four parts one after another.
-- Assumes nothing.
use Rattle.layout.specs.Layout.{answer_bytes}
use Rattle.errors.proofs.Stores.{also}
use Rattle.layout.proofs.parts.put_answer.Goals as goal

pub returns : goal.returns
unfolding answer_bytes
returns c = also (also (also c.put_header.ensures c.put_names.ensures) c.put_structs.ensures) c.put_unpin.ensures
