-- `layout::parts::put_structs` stores order and tiers one after another; that the lists are as long as declared comes with the answer.
-- Assumes nothing.
use borrow.Author.Rules.{rules}
use Rattle.layout.specs.Layout.{structs_bytes}
use Rattle.errors.proofs.Stores.{also, sized}
use Rattle.layout.proofs.parts.put_structs.Goals as goal

pub returns : goal.returns
unfolding structs_bytes
returns c = also (sized {n = 256} c.put_bytes.ensures (search rules)) (sized {n = 256} c.put_bytes-2.ensures (search rules))
