-- What `replay` holds against the stored answers: the call's answer with its first records as bytes, and the collected rows.
-- Assumes nothing: these are definitions.
use Rattle.std.specs.Prelude.{ℕ, ◌+◌, ◌*◌, ◌≤◌, ◌<◌, ◌≡◌, length, get_or, take, replicate}
use mathlib.Core.List.{List, [], ◌++◌, flat_map}
use Rattle.std.proofs.lemmas.List.Edits.{sets}
use Rattle.std.specs.Prelude.{Ok, Err}
use Rattle.rules.specs.Numbers.{scratch_size, page_size, answer_size, record_size}
use Rattle.rules.specs.declared.Answer.{Answer}
use Rattle.rules.specs.declared.Diagnostic.{Diagnostic}
use Rattle.rules.specs.Format.{Step, pair_at}
use Rattle.rules.specs.Types.{types_of}
use Rattle.rules.specs.Answer.{read_with, call}
use Rattle.bridge_core.specs.Run.{records_of}
use Rattle.errors.specs.Records.{record_bytes}
use Rattle.layout.specs.Layout.{answer_bytes, layout_of}

-- an answer that tells of n records, and records behind it
pub record Laid (a : Answer) (ds : List Diagnostic) (n : ℕ) (out out' : List ℕ) : Type 0 where
  pub bytes : out' ≡ sets out 0 (answer_bytes a n ++ flat_map record_bytes ds)

-- the bytes of an answer with as many records as a list has places
abbrev pub roomy : ℕ
roomy = answer_size + record_size * page_size

-- what the call answers, with the first records; nothing where the buffer has no room for so many
pub record Told (s out out' : List ℕ) : Type 0 where
  pub bytes : roomy ≤ length out → out' ≡ sets out 0 (layout_of (call s (replicate scratch_size 0) []).answer (take page_size (records_of s scratch_size)))
  pub untouched : length out < roomy → out' ≡ out

-- ## The collected rows

-- n rows, as pairs, are those that are collected
pub record CollectedRows (s : List ℕ) (n : ℕ) (scratch : List ℕ) : Type 0 where
  pub count : n ≡ length (types_of s).all
  pub row : (k : ℕ) → k < n → pair_at scratch (2 * k) ≡ get_or (types_of s).all k 0

-- by what the reader says of the sheet: a refused one has none
unfoldable pub rows_by : Step → List ℕ → List ℕ
rows_by (Err r) s = []
rows_by (Ok _) s = (types_of s).all

pub record RowsOf (s : List ℕ) (room n : ℕ) (scratch : List ℕ) : Type 0 where
  pub count : n ≡ length (rows_by (read_with room s) s)
  pub row : (k : ℕ) → k < n → pair_at scratch (2 * k) ≡ get_or (rows_by (read_with room s) s) k 0
