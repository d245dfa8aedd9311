-- What `collect` ensures: what the table has of the names are the rules' types of the sheet, the reasons to be Unpin are the rules', the collected rows stand
-- in the scratch, and the duplicates are reported.
-- Assumes nothing: these are definitions.
use Rattle.std.specs.Prelude.{ℕ, ◌*◌, ◌≤◌, ◌<◌, ◌≡◌, ◌≢◌, List, length, get_or, drop, replicate}
use Rattle.rules.specs.Numbers.{most_rows, scratch_size, required_trivial_set}
use Rattle.rules.specs.Format.{pair_at, Accepted}
use Rattle.rules.specs.View.{items}
use Rattle.rules.specs.Collect.{duplicates}
use Rattle.rules.specs.Types.{types_of}
use Rattle.rules.specs.Unpin.{unpin_of}
use Rattle.rules.specs.Answer.{cleared}
use Rattle.laws.specs.Skip.{seen}
use Rattle.names.specs.Known.{column_count, table_size, LastColumn, tabled}
use Rattle.scratch.specs.Bytes.{marks_end, marked}
use Rattle.errors.specs.declared.Errors.{Errors}
use Rattle.errors.specs.Sink.{Reported}
use Rattle.types.specs.declared.Gathered.{Gathered}
use Rattle.types.specs.Named.{enters_column}

-- a sheet that is accepted, a scratch that is long enough, and a table that has nothing
pub record Collectable (s scratch names : List ℕ) : Type 0 where
  pub accepted : Accepted s
  pub long : scratch_size ≤ length scratch
  pub zeros : names ≡ replicate table_size 0

pub record Collects (s scratch scratch' names' : List ℕ) (cx cx' : Errors) (r : Gathered) : Type 0 where
  pub known : tabled s names' ≡ types_of s
  -- every column but that of the reasons has the last item of each name that enters it, so the numbers of the items also where the rules ask for the set alone
  pub columns : (k : ℕ) → k ≢ required_trivial_set → k < column_count → LastColumn s (enters_column s k) (items s) names' k
  pub unpin : r.unpin ≡ unpin_of s (types_of s)
  pub count : r.count ≡ length (types_of s).all
  -- pair k of the scratch is row k of the collected ones, and the row is marked where it is one of them; the pairs of no row are left open
  pub pairs : (k : ℕ) → k < length (types_of s).all → pair_at scratch' (2 * k) ≡ get_or (types_of s).all k 0
  pub marks : (r : ℕ) → r < most_rows → marked scratch' r ≡ seen (types_of s).all r
  pub same : length scratch' ≡ length scratch
  -- what lies behind the rows and their marks was cleared, or left as it was past the bytes that a call asks for
  pub rest : drop marks_end scratch' ≡ drop marks_end (cleared scratch)
  pub errors : Reported cx (duplicates s) cx'
