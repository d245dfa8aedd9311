-- What each table over the rows says, by the types of a sheet; and what its entries mean.
-- Assumes nothing: these are definitions.
use Rattle.std.specs.Prelude.{ℕ, List, [], ◌∷◌, Bool, not, ◌&&◌, ◌||◌, ltb, eqb, min, Option, Some, None}
use Rattle.rules.specs.Numbers.{no_item, most_rows}
use Rattle.rules.specs.Numbers.{Ident, RustBox, RustVec, UniquePtr, SharedPtr, WeakPtr, CxxVector, Ref, Ptr, Str, SliceRef, Fn, Void}
use Rattle.rules.specs.Base.{if'◌then◌else◌}
use Rattle.rules.specs.Format.{Accepted}
use Rattle.rules.specs.View.{rows, is, row_name}
use Rattle.rules.specs.Types.{Types, is_alias, is_required_trivial, is_extern, struct_of}
use Rattle.rules.specs.Trivial.{insist}
use Rattle.rules.specs.Improper.{Look, fine, bad, to, look_row}
use Rattle.rules.specs.Check.{is_unsized, describe, find_lifetime_mut}
use Rattle.laws.specs.RowTable.{entry_or, TableOf, Marks}
use Rattle.row_tables.specs.declared.faults.Misfit.{Misfit}
use Rattle.row_tables.specs.declared.faults.Misfit.TheVariants.{Pointer, Unsized}
use Rattle.row_tables.specs.declared.looks.Look.{Look as Entry}
use Rattle.row_tables.specs.declared.looks.Look.TheVariants.{Name, Improper, Proper}

-- ## Sizes

-- an extern C++ type, and no alias that must be trivial
abbrev pub cxx_unsized : Types → (n : ℕ) → Bool
cxx_unsized t n = is_extern t n && not (is_alias t n && is_required_trivial t n)

-- CxxVector, Fn and Void are unsized by themselves
abbrev pub unsized_kind : (kind : ℕ) → Bool
unsized_kind k = eqb k CxxVector || eqb k Fn || eqb k Void

-- the rows that are unsized
abbrev pub UnsizedRows : (s : List ℕ) (t : Types) (table : List Bool) → Type 0
UnsizedRows s t u = Marks s (is_unsized s t) u

-- `describe` of a row of kind k that is no plain name
unfoldable pub describe_other : (k : ℕ) → ℕ
describe_other k =
    if' eqb k RustBox then 9 else
    if' eqb k RustVec then 10 else
    if' eqb k UniquePtr then 11 else
    if' eqb k SharedPtr then 12 else
    if' eqb k WeakPtr then 13 else
    if' eqb k Ref then 14 else
    if' eqb k Ptr then 15 else
    if' eqb k Str then 16 else
    if' eqb k CxxVector then 17 else
    if' eqb k SliceRef then 18 else
    if' eqb k Fn then 19 else
    if' eqb k Void then 20 else 21

-- ## Leads

-- an item as an entry: what is none of the items 0 to 254 is none
unfoldable pub lead_entry : ℕ → Option ℕ
lead_entry i = if' ltb i no_item then Some i else None

-- `plain_lead`, as an entry
unfoldable pub lead_of : (s : List ℕ) (t : Types) (r : ℕ) → Option ℕ
lead_of s t r = if' is s Ident r then lead_entry (struct_of t (row_name s r)) else None

-- ## Lifetimes

-- the rows in which `FindLifetimeMut` finds something
abbrev pub LifetimeMutRows : (s : List ℕ) (t : Types) (table : List Bool) → Type 0
LifetimeMutRows s t u = Marks s (find_lifetime_mut s t (rows s)) u

-- ## Faults

-- what is wrong with a row that stands by value: it is a function pointer, or it is unsized, with its branch of `describe`; else nothing
unfoldable pub fault_of : (pointer unsized : Bool) (branch : ℕ) → Option Misfit
fault_of p u d = if' p then Some Pointer else if' u then Some (Unsized d) else None

-- by a test for the unsized rows
abbrev pub fault_by : (s : List ℕ) (t : Types) (unsized : ℕ → Bool) (r : ℕ) → Option Misfit
fault_by s t unsized r = fault_of (is s Fn r) (unsized r) (describe s t r)

abbrev pub fault : (s : List ℕ) (t : Types) (r : ℕ) → Option Misfit
fault s t r = fault_by s t (is_unsized s t) r

-- an accepted sheet, and the table of its unsized rows
pub record WithSizes (s : List ℕ) (t : Types) (sizes : List Bool) : Type 0 where
  pub accepted : Accepted s
  pub right : UnsizedRows s t sizes

abbrev pub FaultRows : (s : List ℕ) (t : Types) (table : List (Option Misfit)) → Type 0
FaultRows s t u = TableOf (λ x. x) (rows s) (fault s t) u

-- ## Looks

abbrev pub look_of : Entry → Look
look_of (Name n) = to n
look_of Improper = bad
look_of Proper = fine

abbrev pub look_in : (table : List Entry) (r : ℕ) → Look
look_in u r = look_of (entry_or Proper u r)

abbrev pub LookRows : (s : List ℕ) (t : Types) (table : List Entry) → Type 0
LookRows s t u = TableOf look_of (rows s) (look_row s t (rows s)) u

-- ## Reasons

-- a name, or none, as a list
abbrev pub one_of : Option ℕ → List ℕ
one_of (Some n) = n ∷ []
one_of None = []

-- so many rows have an entry: all of an accepted sheet
abbrev pub few_rows : List ℕ → ℕ
few_rows s = min (rows s) most_rows

-- the name to which each row gives a reason
abbrev pub WantRows : (s : List ℕ) (t : Types) (table : List (Option ℕ)) → Type 0
WantRows s t w = TableOf one_of (few_rows s) (insist s (is_extern t)) w
