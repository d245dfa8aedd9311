-- What the call with a list of its own promises: the one call's promise, on a list of blank records.
-- Assumes nothing: these are definitions.
use Rattle.std.specs.Prelude.{ℕ, List, replicate}
use Rattle.rules.specs.Numbers.{page_size}
use Rattle.rules.specs.declared.Diagnostic.{Diagnostic}
use Rattle.bridge.specs.Call.{Called}
use Rattle.paged.specs.declared.Page.{Page}

-- the call, on a list of the record d
pub record Paged (s scratch₀ : List ℕ) (d : Diagnostic) (r : Page) (scratch' : List ℕ) : Type 0 where
  pub called : Called s scratch₀ (replicate page_size d) r.answer scratch' r.list
