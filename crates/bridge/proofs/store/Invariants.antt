-- `bridge::store` meets its contract. The invariant: the places before i are stored.
-- Assumes nothing.
use mathlib.Core.Path.{◌≡◌}
use Rattle.windows.proofs.Stores.{over}
use Rattle.bridge.proofs.store.Given as goal

abbrev pub invariant-loop-i : goal.invariant-loop-i
invariant-loop-i l = l.list ≡ over l.fn.list l.at l.bytes l.i
