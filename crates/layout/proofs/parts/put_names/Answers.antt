-- `layout::parts::put_names` stores sets, sizes and reasons one after another; that the lists are as long as declared comes with the answer.
-- Assumes nothing.
use borrow.Author.Rules.{rules}
use Rattle.layout.specs.Layout.{names_bytes}
use Rattle.errors.proofs.Stores.{also, sized}
use Rattle.layout.proofs.parts.put_names.Goals as goal

pub returns : goal.returns
unfolding names_bytes
returns c =
    also (also (sized {n = 256} c.put_list.ensures (search rules)) (sized {n = 16} c.put_list-2.ensures (search rules)))
    (sized {n = 512} c.put_list-3.ensures (search rules))
