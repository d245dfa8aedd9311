-- `telling` meets its contract: from the last entry down, the word of the entries from k on; it has no more bits than there are entries, so nothing is lost.
-- Assumes nothing.
use Prim.Native.Nat.{ℕ, ◌-◌, ◌≤◌, ◌<◌}
use mathlib.Core.Path.{◌≡◌}
use mathlib.Core.Bool.{Bool}
use native.Mathlib.Omega.{arith}
use lib.Pow.{pow_mono}
use Rattle.laws.specs.Word.{word_of}
use Rattle.laws.proofs.Base.Words.{word_lt}
use Rattle.row_tables.specs.Listed.{told_at}
use Rattle.row_tables.proofs.listed.telling.Given as goal

-- a word of fewer than 64 entries can be doubled
pub short : (p : ℕ → Bool) (n k word : ℕ) → 0 < k → k ≤ n → n ≤ 64 → word ≡ word_of p k (n - k) → word < 9223372036854775808
short p n k word l h f e = omega (arith, e, word_lt p k (n - k), pow_mono {i = n - k} {j = 63} (omega arith))

abbrev pub invariant-loop-k : goal.invariant-loop-k
invariant-loop-k g l = (l.n ≤ 64) × (l.word ≡ word_of (told_at l.s l.table l.at) l.k (l.n - l.k))
