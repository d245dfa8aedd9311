-- What `write` promises of the buffer.
-- Assumes nothing: these are definitions.
use Rattle.std.specs.Prelude.{ℕ, ◌≤◌, ◌<◌, ◌≡◌, Option, Some, None, IfSome, List, ◌++◌, length, take, drop}
use Rattle.rules.specs.declared.Answer.{Answer}
use Rattle.rules.specs.Text.{line, tiers_along}

-- the lines of an answer that tell of its structs
unfoldable pub structs_text : Answer → List ℕ
structs_text a = line "order" (take a.structs a.order) ++ line "tiers" (tiers_along a.tiers (take a.structs a.order))

-- no text is longer: a line of 30 bytes, two of 1,026, one of 1,033, and 512 records of 22
abbrev pub most : ℕ
most = 14379

-- a text written into a buffer: the text, and then what stood there; the answer is its length. A buffer without room for the longest text is left as it was,
-- and no length is given
pub record Wrote (text out : List ℕ) (r : Option ℕ) (out' : List ℕ) : Type 0 where
  pub bytes : most ≤ length out → out' ≡ text ++ drop (length text) out
  pub size : most ≤ length out → r ≡ Some (length text)
  pub within : IfSome r (λ n. n ≤ most)
  pub untouched : length out < most → (r ≡ None) × (out' ≡ out)
