-- Where `hits` counts no key, none of the first r is k. The invariant says so of the first ones.
-- Assumes nothing.
use Prim.Native.Nat.{ℕ, ◌≤◌, ◌<◌}
use mathlib.Core.Path.{◌≡◌}
use lib.ListN.{get_or}
use Rattle.sheet.proofs.fresh_rows.hits.Given as goal

abbrev pub invariant-loop-key : goal.invariant-loop-key
invariant-loop-key l = (l.n ≤ l.key-index) × (l.n ≡ 0 → (j : ℕ) → j < l.key-index → get_or l.keys j 0 ≡ l.k → ⊥)
