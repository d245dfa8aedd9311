-- What `do_typecheck` is given, and what it reports.
-- Assumes nothing: these are definitions.
use Rattle.std.specs.Prelude.{ℕ, ◌*◌, ◌<◌, ◌≡◌, List, ◌++◌, length, get_or}
use Rattle.rules.specs.declared.Diagnostic.{Diagnostic}
use Rattle.rules.specs.Base.{over}
use Rattle.rules.specs.Format.{pair_at, Accepted}
use Rattle.rules.specs.View.{items}
use Rattle.rules.specs.Types.{Types, types_of}
use Rattle.rules.specs.Check.{check_type, check_api}
use Rattle.names.specs.Known.{tabled}

-- an accepted sheet, what is collected of its names in the one table, and the collected rows in the scratch
pub record Checkable (s names scratch : List ℕ) (rows : ℕ) : Type 0 where
  pub accepted : Accepted s
  pub names_held : tabled s names ≡ types_of s
  pub count : rows ≡ length (types_of s).all
  pub row : (k : ℕ) → k < rows → pair_at scratch (2 * k) ≡ get_or (types_of s).all k 0

-- the collected rows, then the items
abbrev pub type_checks : List ℕ → Types → List Diagnostic
type_checks s t = over (length t.all) (λ k. check_type s t (get_or t.all k 0))

abbrev pub api_checks : List ℕ → Types → List Diagnostic
api_checks s t = over (items s) (check_api s t)

abbrev pub checks : List ℕ → Types → List Diagnostic
checks s t = type_checks s t ++ api_checks s t
