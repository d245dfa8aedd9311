-- Collecting as the code does it: a row that is met again is not walked again. Laws: proofs/sheet/Collect, where this is shown to be `visit` of rules.
-- Assumes nothing: these are definitions.
use Rattle.std.specs.Prelude.{ℕ, zero, suc, Bool, true, false, eqb}
use mathlib.Core.List.{List, [], ◌∷◌, ◌++◌, foldl}
use Rattle.rules.specs.Base.{any_of}
use Rattle.rules.specs.View.{rows, shown}
use Rattle.rules.specs.Collect.{shown_by}

-- the row is in the list
unfoldable pub seen : List ℕ → ℕ → Bool
seen all r = any_of (λ x. eqb x r) all

module _ (s : List ℕ) where
  -- a row, before what it shows. Rows refer to smaller rows: above the row, the fuel is of no account
  unfoldable pub skip_visit : (fuel : ℕ) → List ℕ → ℕ → List ℕ
  skip_visit zero all r = all
  skip_visit (suc f) all r = elim (seen all r) [ true ↦ all | false ↦ foldl (skip_visit f) (all ++ r ∷ []) (shown s r) ]

  -- the rows that the first k items collect
  unfoldable pub skip_to : (k : ℕ) → List ℕ
  skip_to zero = []
  skip_to (suc k) = foldl (skip_visit (rows s)) (skip_to k) (shown_by s k)
