-- `layout::lists::u16::put`: the two bytes that std gives are the number's two low bytes.
-- Assumes nothing.
use Rattle.errors.specs.Bytes.{low}
use Rattle.errors.proofs.Stores.{meant}
use Rattle.layout.proofs.lists.U16Entry.put.Goals as goal

pub returns : goal.returns
unfolding low
returns c = meant c.put.ensures c.to_le_bytes.ensures
