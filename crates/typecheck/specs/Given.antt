-- What the checks of rows and items are given: an accepted sheet, and lent tables over its rows that are right by the types t.
-- Assumes nothing: these are definitions.
use Rattle.std.specs.Prelude.{ℕ, ◌*◌, ◌<◌, ◌≡◌, List, Bool, true, length, get_or, Option}
use Rattle.rules.specs.Numbers.{Struct}
use Rattle.rules.specs.Format.{pair_at, Accepted}
use Rattle.rules.specs.View.{items, item_kind, is_function}
use Rattle.rules.specs.Types.{Types, types_of}
use Rattle.names.specs.Known.{sheet, types}
use Rattle.row_tables.specs.declared.faults.Misfit.{Misfit}
use Rattle.row_tables.specs.Tables.{WithSizes, FaultRows, LifetimeMutRows}
use Rattle.typecheck.specs.declared.Given.{Given}

-- ## Rows

-- an accepted sheet, the table of its unsized rows, and the collected rows, which stand in the scratch
pub record RowsGiven (s : List ℕ) (t : Types) (sizes : List Bool) (scratch : List ℕ) (rows : ℕ) : Type 0 where
  pub sized : WithSizes s t sizes
  pub count : rows ≡ length (types_of s).all
  pub row : (k : ℕ) → k < rows → pair_at scratch (2 * k) ≡ get_or (types_of s).all k 0

-- ## One item

-- item i is a struct
pub record StructGiven (s : List ℕ) (t : Types) (faults : List (Option Misfit)) (i : ℕ) : Type 0 where
  pub accepted : Accepted s
  pub faults_right : FaultRows s t faults
  pub below : i < items s
  pub struct : item_kind s i ≡ Struct

-- item i is a function, of which the &mut return is checked
pub record MutReturnGiven (s : List ℕ) (t : Types) (muts : List Bool) (i : ℕ) : Type 0 where
  pub accepted : Accepted s
  pub muts_right : LifetimeMutRows s t muts
  pub below : i < items s
  pub function : is_function s i ≡ true

-- item i is a function, of which all is checked
pub record FunctionGiven (given : Given) (i : ℕ) : Type 0 where
  pub faults_right : FaultRows (sheet given.known.now) (types given.known.now) given.faults.now
  pub mut_return : MutReturnGiven (sheet given.known.now) (types given.known.now) given.muts.now i

-- ## All items

pub record ItemTables (given : Given) : Type 0 where
  pub accepted : Accepted (sheet given.known.now)
  pub faults_right : FaultRows (sheet given.known.now) (types given.known.now) given.faults.now
  pub muts_right : LifetimeMutRows (sheet given.known.now) (types given.known.now) given.muts.now

-- the same, and one of the items
pub record ItemGiven (given : Given) (i : ℕ) : Type 0 where
  pub tables : ItemTables given
  pub below : i < items (sheet given.known.now)
