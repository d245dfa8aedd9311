-- `types::unpin::note_items` notes the methods that are reasons, one after another. The invariant: those of the first i items are noted.
-- Assumes nothing.
use Rattle.rules.specs.Base.{over}
use Rattle.rules.specs.Unpin.{find_item}
use Rattle.names.specs.Known.{sheet, types}
use Rattle.types.specs.Found.{Noted}
use Rattle.types.proofs.unpin.note_items.Given as goal

abbrev pub invariant-loop-i : goal.invariant-loop-i
invariant-loop-i l = Noted l.initial.reasons (over l.i (find_item (sheet l.known) (types l.known))) l.reasons
