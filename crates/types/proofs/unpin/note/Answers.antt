-- `types::unpin::note` meets its contract: past the names nothing is stored.
-- Assumes nothing.
use mathlib.Core.Path.{sym}
use native.Mathlib.Omega.{arith}
use lib.Seq.{set_out}
use Rattle.types.proofs.unpin.note.Goals as goal

pub returns-else-n-lt-NAMES : goal.returns-else-n-lt-NAMES
returns-else-n-lt-NAMES c = sym (set_out _ _ _ (omega (arith, c.told-reasons, c.if-n-lt-NAMES.false)))
