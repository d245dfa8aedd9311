-- The full report of a sheet: message 1 by items, 2 by the walk, then the collected rows, then the items (`do_typecheck` of check.rs).
-- Assumes nothing: these are definitions.
use Rattle.std.specs.Prelude.{ℕ, List, ◌++◌, length, get_or}
use Rattle.rules.specs.declared.Diagnostic.{Diagnostic}
use Rattle.rules.specs.Base.{over}
use Rattle.rules.specs.View.{items}
use Rattle.rules.specs.Collect.{duplicates}
use Rattle.rules.specs.Types.{Types, types_of}
use Rattle.rules.specs.Walk.{Out}
use Rattle.rules.specs.Order.{walk_of}
use Rattle.rules.specs.Check.{check_type, check_api}

-- from what was collected, and what the walk did
unfoldable pub report_of : List ℕ → Types → Out → List Diagnostic
report_of s t walk = duplicates s ++ walk.errors ++ over (length t.all) (λ k. check_type s t (get_or t.all k 0)) ++ over (items s) (check_api s t)

-- of a sheet
unfoldable pub report : List ℕ → List Diagnostic
report s = let t = types_of s in report_of s t (walk_of s t)
