-- `layout::lists::NameSet::put` stores a set's four words.
-- Assumes nothing.
use borrow.Author.Rules.{rules}
use Rattle.layout.specs.Layout.{set_bytes}
use Rattle.errors.proofs.Stores.{sized}
use Rattle.layout.proofs.lists.NameSetEntry.put.Goals as goal

pub returns : goal.returns
unfolding set_bytes
returns c = sized c.put_list.ensures (search rules)
