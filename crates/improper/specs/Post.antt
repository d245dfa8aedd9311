-- What the crate answers: the improper names of an accepted sheet.
-- Assumes nothing: these are definitions.
use Rattle.std.specs.Prelude.{ℕ, ◌≡◌, Bool, List}
use Rattle.rules.specs.Format.{Accepted}
use Rattle.rules.specs.Names.{Words}
use Rattle.rules.specs.Types.{types_of}
use Rattle.rules.specs.Improper.{looks_of, pass_to, improper_of}
use Rattle.rules.specs.Rule3.{ImproperRule}
use Rattle.names.specs.Known.{tabled}
use Rattle.row_tables.specs.declared.looks.Look.{Look}
use Rattle.row_tables.specs.Tables.{LookRows}

-- the sheet is accepted, and the lent tables are its own: what is known of its names, and what its rows are
pub record Searchable (s names : List ℕ) (looks : List Look) : Type 0 where
  pub accepted : Accepted s
  pub own : tabled s names ≡ types_of s
  pub rows : LookRows s (tabled s names) looks

-- the improper names, and rule 3 of them
pub record Searched (s : List ℕ) (w : Words) : Type 0 where
  pub words : w ≡ improper_of s (types_of s)
  pub rule : ImproperRule s w

-- the names below k are passed: what that makes of the set, and whether one was found
pub record Passes (s : List ℕ) (before : Words) (k : ℕ) (after : Words) (new : Bool) : Type 0 where
  pub names : after ≡ (pass_to (looks_of s (types_of s)) k before).0
  pub found : new ≡ (pass_to (looks_of s (types_of s)) k before).1
