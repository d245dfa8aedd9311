-- How many are left: what falls as a walk or a search goes on. Laws: proofs/base/Counts.
-- Assumes nothing: these are definitions.
use Rattle.std.specs.Prelude.{ℕ, zero, suc, ◌+◌, Bool, not, List, [], ◌∷◌}
use Rattle.rules.specs.Diagnostics.{bit}

-- how many of these marks are 0, as those of new items are
abbrev pub fresh : List ℕ → ℕ
fresh [] = 0
fresh (zero ∷ m) = suc (fresh m)
fresh (suc x ∷ m) = fresh m

-- how many numbers below k a test refuses
unfoldable pub free : ℕ → (ℕ → Bool) → ℕ
free zero p = 0
free (suc k) p = bit (not (p k)) + free k p
