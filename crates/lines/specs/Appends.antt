-- What the methods that write text promise of it.
-- Assumes nothing: these are definitions.
use Rattle.std.specs.Prelude.{ℕ, ◌+◌, ◌^◌, ◌<◌, ◌≤◌, ◌≡◌, List, length}
use Rattle.lines.specs.declared.Text.{Text}
use Rattle.errors.specs.Bytes.{Stored}

-- there is room for n bytes more
abbrev pub Room : Text → ℕ → Type 0
Room t n = t.len + n ≤ length t.out.now

-- a number of at most w digits
abbrev pub Short : (w n : ℕ) → Type 0
Short w n = (0 < w) × (n < 10 ^ w)

-- the text has some bytes more, at most so many, and its buffer is the same
pub record Appends (t : Text) (most : ℕ) (bytes : List ℕ) (t' : Text) : Type 0 where
  pub stored : Stored t.out.now t.len (length bytes) bytes t'.out.now
  pub reached : t'.len ≡ t.len + length bytes
  pub few : length bytes ≤ most
  pub long : length t'.out.now ≡ length t.out.now
  pub kept : t'.out.ghost_name ≡ t.out.ghost_name
