-- `layout::parts::put_unpin` stores the answer's reasons to be Unpin; that the list is as long as declared comes with the answer.
-- Assumes nothing.
use borrow.Author.Rules.{rules}
use Rattle.layout.specs.Layout.{unpin_bytes}
use Rattle.errors.proofs.Stores.{sized}
use Rattle.layout.proofs.parts.put_unpin.Goals as goal

pub returns : goal.returns
unfolding unpin_bytes
returns c = sized {n = 512} c.put_list.ensures (search rules)
