-- Names 0 to 255, and sets of them: docs/SHEET.md, "Names". A set is four words of 64 bits, name n being bit n % 64 of word n / 64.
-- Assumes nothing: these are definitions.
use Rattle.std.specs.Prelude.{ℕ, zero, suc, ◌+◌, ◌/◌, ◌%◌, ◌^◌, Bool, true, false, List, [], ◌∷◌, get_or, set, ltb, eqb}
use Rattle.std.specs.Int.Bits.{bit_or}
use Rattle.std.specs.Int.Count.{ones_in}
use Rattle.rules.specs.Numbers.{atom_count, reserved_count}

-- Bool to RustString
unfoldable pub is_atom : ℕ → Bool
is_atom n = ltb n atom_count

-- the atoms, and Box, UniquePtr, SharedPtr, WeakPtr, Vec, CxxVector, str
unfoldable pub is_reserved : ℕ → Bool
is_reserved n = ltb n reserved_count

-- ## Sets

abbrev pub Words : Type 0
Words = List ℕ

abbrev pub empty : Words
empty = 0 ∷ 0 ∷ 0 ∷ 0 ∷ []

-- bit k of a word
unfoldable pub bit_of : ℕ → ℕ → ℕ
bit_of w k = w / 2 ^ k % 2

unfoldable pub ◌∋◌ : Words → ℕ → Bool
◌∋◌ w n = eqb (bit_of (get_or w (n / 64) 0) (n % 64)) 1

infix 40 ◌∋◌
unfoldable pub add : Words → ℕ → Words
add w n = set w (n / 64) (bit_or (get_or w (n / 64) 0) (2 ^ (n % 64)))

-- the ones of all words
unfoldable pub size : Words → ℕ
size [] = 0
size (w ∷ ws) = ones_in 64 w + size ws

-- the names below k that pass a test
unfoldable pub names_below : (ℕ → Bool) → ℕ → Words
names_below p zero = empty
names_below p (suc k) = let w = names_below p k in elim (p k) [ true ↦ add w k | false ↦ w ]
