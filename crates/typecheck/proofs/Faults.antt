-- What a row's fault says is what the rules say of the row: by the two tests of which the fault is made.
-- Assumes nothing.
use Prim.Native.Nat.{ℕ}
use mathlib.Core.Path.{◌≡◌, refl}
use mathlib.Core.List.{List, []}
use mathlib.Core.Bool.{Bool, true, false}
use Rattle.rules.specs.Numbers.{Fn}
use Rattle.rules.specs.declared.Diagnostic.{Diagnostic}
use Rattle.rules.specs.Base.{if'◌then◌else◌}
use Rattle.rules.specs.Diagnostics.{when}
use Rattle.rules.specs.View.{is}
use Rattle.rules.specs.Types.{Types}
use Rattle.rules.specs.Check.{is_unsized, describe}
use Rattle.row_tables.specs.Tables.{fault_of, fault}
use Rattle.typecheck.specs.Tests.{by_fault}

-- where another test stands between the two, and has the test's own message
fault-says : (d : ℕ) (pointer other : List Diagnostic) (unsized : ℕ → List Diagnostic) (p u q : Bool)
    → by_fault (fault_of p u d) (if' q then other else []) pointer (λ b. if' q then other else unsized b)
    ≡ (if' p then pointer else if' q then other else when u (unsized d))
unfolding by_fault fault_of if'◌then◌else◌ when
fault-says d pointer other unsized true u q = refl
fault-says d pointer other unsized false true q = refl
fault-says d pointer other unsized false false q = refl

module _ (s : List ℕ) (t : Types) (r : ℕ) (pointer : List Diagnostic) (unsized : ℕ → List Diagnostic) where
  -- an argument, of which another test stands between
  pub row-says-after : (q : Bool) (other : List Diagnostic)
      → by_fault (fault s t r) (if' q then other else []) pointer (λ b. if' q then other else unsized b)
      ≡ (if' is s Fn r then pointer else if' q then other else when (is_unsized s t r) (unsized (describe s t r)))
  row-says-after q other = fault-says (describe s t r) pointer other unsized (is s Fn r) (is_unsized s t r) q

  -- a field or a return
  pub row-says : by_fault (fault s t r) [] pointer unsized ≡ (if' is s Fn r then pointer else when (is_unsized s t r) (unsized (describe s t r)))
  unfolding if'◌then◌else◌
  row-says = row-says-after false []
