-- Keys of rows, which only the proof of the reader needs. Equal rows have equal keys (proofs/FreshLaws.antt), so a row whose key no earlier row has equals
-- none of them. Which numbers the keys are is of no importance to that: `mix` is as good as any other function.
-- Assumes nothing: these are definitions.
use Rattle.std.specs.Prelude.{ℕ, zero, suc, ◌+◌, ◌-◌, ◌*◌, ◌/◌, ◌%◌, ◌<◌, ◌≤◌, ◌≡◌, List, get_or, eqb, true, false}
use Rattle.rules.specs.declared.Fault.TheVariants.{Misplaced}
use Rattle.sheet.specs.declared.fresh_rows.TheConstants.{SEEN}
use Rattle.sheet.specs.declared.fresh_rows.Keys.{Keys}
use Rattle.sheet.specs.declared.fresh_rows.KeptKeys.{KeptKeys}
use Rattle.rules.specs.Format.{Step, after, check, pair_at, offset, row}

-- a number turned by 18 bits of 64
abbrev turned : ℕ → ℕ
turned z = z % 262144 * 70368744177664 + z / 262144

unfoldable pub mix : (k p : ℕ) → ℕ
mix k p = turned (2654435769 * (k % 4294967296 + p) + k / 4294967296)

module _ (s : List ℕ) where
  -- the pairs of the n bytes from a, mixed into k
  unfoldable pub key : (n a k : ℕ) → ℕ
  key zero a k = k
  key (suc zero) a k = k
  key (suc (suc n)) a k = key n (a + 2) (mix k (pair_at s a))

  -- a row from a to end has these two keys, from two seeds
  pub record TwoKeys (a end : ℕ) (two : Keys) : Type 0 where
    pub low : two.first ≡ key (end - a) a 0
    pub high : two.second ≡ key (end - a) a 11400714819323198485

  -- the key of row i, from a seed
  unfoldable pub row_key : (seed i : ℕ) → ℕ
  row_key seed i = key (offset s (i + 1) - offset s i) (offset s i) seed

  -- the keys of the first r rows
  abbrev pub KeyHeld : (seed : ℕ) (keys : List ℕ) (r : ℕ) → Type 0
  KeyHeld seed keys r = (i : ℕ) → i < r → get_or keys i 0 ≡ row_key seed i

  -- what is kept of the first r rows: their keys from two seeds, and a mark for the low bits of each first key
  pub record Kept (keys : KeptKeys) (r : ℕ) : Type 0 where
    pub few : r ≤ 1024
    pub held : KeyHeld 0 keys.first r
    pub held2 : KeyHeld 11400714819323198485 keys.second r
    pub marked : (i : ℕ) → i < r → get_or keys.seen (row_key 0 i % SEEN) false ≡ true

  -- row r with its offset
  unfoldable pub placed : (r at : ℕ) → Step
  placed r at = after (check (eqb (offset s r) at) Misplaced (4 + 2 * r) at) (λ _. row s r at)
