-- Tests of the entries of a list as the bits of a word, the first entry's the lowest. Laws: proofs/base/Words.
-- Assumes nothing: these are definitions.
use Rattle.std.specs.Prelude.{ℕ, zero, suc, ◌+◌, ◌*◌, Bool}
use Rattle.rules.specs.Diagnostics.{bit}

-- of m entries, from entry k on
unfoldable pub word_of : (passes : ℕ → Bool) → (k m : ℕ) → ℕ
word_of p k zero = 0
word_of p k (suc m) = bit (p k) + 2 * word_of p (suc k) m
