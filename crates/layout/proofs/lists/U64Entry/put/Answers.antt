-- `layout::lists::u64::put`: the eight bytes that std gives are the number's eight low bytes.
-- Assumes nothing.
use mathlib.Core.Path.{sym, ◌∙◌}
use Rattle.errors.proofs.Stores.{meant, low-bytes}
use Rattle.layout.proofs.lists.U64Entry.put.Goals as goal

pub returns : goal.returns
returns c = meant c.put.ensures (c.to_le_bytes.ensures ∙ sym (low-bytes c.args.self))
