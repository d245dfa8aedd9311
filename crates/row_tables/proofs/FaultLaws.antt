-- A row's fault in its three cases, and the table of the faults as code reads it.
-- Assumes nothing.
use Prim.Native.Nat.{ℕ, ◌<◌}
use mathlib.Core.Path.{◌≡◌, ap}
use mathlib.Core.Bool.{Bool, true, false}
use mathlib.Core.List.{List}
use Rattle.std.specs.Prelude.{Option, Some, None}
use Rattle.rules.specs.Numbers.{Fn}
use Rattle.rules.specs.Base.{if'◌then◌else◌}
use Rattle.rules.specs.View.{rows, is}
use Rattle.rules.specs.Types.{Types}
use Rattle.rules.specs.Check.{describe}
use Rattle.laws.specs.RowTable.{entry_or, marked}
use Rattle.laws.proofs.Rows.RowTable.{read_is}
use Rattle.row_tables.specs.declared.faults.Misfit.{Misfit}
use Rattle.row_tables.specs.declared.faults.Misfit.TheVariants.{Pointer, Unsized}
use Rattle.row_tables.specs.Tables.{UnsizedRows, fault_of, fault_by, fault, FaultRows}

-- ## A fault in its three cases

module _ (p u : Bool) (d : ℕ) where
  pub fault-pointer : p ≡ true → Some Pointer ≡ fault_of p u d
  unfolding fault_of if'◌then◌else◌
  fault-pointer e = rw e

  pub fault-branch : p ≡ false → u ≡ true → Some (Unsized d) ≡ fault_of p u d
  unfolding fault_of if'◌then◌else◌
  fault-branch e h = rw (e, h)

  pub fault-none : p ≡ false → u ≡ false → None ≡ fault_of p u d
  unfolding fault_of if'◌then◌else◌
  fault-none e h = rw (e, h)

-- ## The tables

module _ (s : List ℕ) (t : Types) where
  -- by the table of the unsized rows
  pub fault-sized : {u : List Bool} → UnsizedRows s t u → (r : ℕ) → r < rows s → fault_by s t (marked u) r ≡ fault s t r
  fault-sized sized r l = ap (λ (b : Bool). fault_of (is s Fn r) b (describe s t r)) (read_is (λ b. b) false sized r l)

  -- row r, as the code reads it
  pub fault-read : {u : List (Option Misfit)} → FaultRows s t u → (r : ℕ) → r < rows s → entry_or None u r ≡ fault s t r
  fault-read table r l = read_is (λ x. x) None table r l
