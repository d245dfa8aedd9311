-- How many records are stored of some bytes, and which.
-- Assumes nothing: these are definitions.
use Rattle.std.specs.Prelude.{ℕ, ◌/◌, min, List, length}
use Rattle.rules.specs.Numbers.{record_size}
use Rattle.rules.specs.declared.Diagnostic.{Diagnostic}
use Rattle.errors.specs.Records.{records_in}

abbrev pub least3 : ℕ → ℕ → ℕ → ℕ
least3 a b c = min (min a b) c

-- the first n records of some bytes, as many as they hold
unfoldable pub stored : (n : ℕ) → (bytes : List ℕ) → List Diagnostic
stored n bytes = records_in (min n (length bytes / record_size)) bytes
