-- The parts of check.rs that are functions of their own in the code, by what the code hands over: numbers, rows, and lent tables.
-- Assumes nothing: these are definitions.
use Rattle.std.specs.Prelude.{ℕ, List, [], Bool, not, ◌&&◌, ◌||◌, eqb, Option, Some, None}
use Rattle.rules.specs.Numbers.{static, Ptr, CxxFunction, RustFunction}
use Rattle.rules.specs.declared.Place.TheVariants.{I, F, A, O, L}
use Rattle.rules.specs.declared.Diagnostic.{Diagnostic}
use Rattle.rules.specs.Base.{if'◌then◌else◌, over}
use Rattle.rules.specs.Diagnostics.{say, tell, when}
use Rattle.rules.specs.View.{is, item_is, item_name, field_count, field}
use Rattle.rules.specs.View.{function_unsafe, function_unwind, is_method, is_free, self_type, receiver_mutable, return, has_return, arg_count, arg}
use Rattle.rules.specs.Types.{Types, is_struct, is_cxx, is_rust, is_untrusted, is_required_trivial, untrusted_of, reasons_for}
use Rattle.rules.specs.Check.{may_have_lifetimes, check_mut_return_restriction, check_fn_receiver, check_fn_self_type}
use Rattle.laws.specs.RowTable.{entry_or}
use Rattle.row_tables.specs.declared.faults.Misfit.{Misfit}
use Rattle.row_tables.specs.declared.faults.Misfit.TheVariants.{Pointer, Unsized}
use Rattle.typecheck.specs.declared.functions.Function.{Function}

-- ## Names

-- lifetime j of item i, by its number
abbrev pub reserved_lifetime : (i j what : ℕ) → List Diagnostic
reserved_lifetime i j what = when (eqb what static) (say 58 (L i j))

-- an untrusted CxxType has the name of struct i: the message is at the last one
abbrev pub untrusted_type : List ℕ → Types → (i : ℕ) → List Diagnostic
untrusted_type s t i = when (is_cxx t (item_name s i) && is_untrusted t (item_name s i)) (say 28 (I (untrusted_of t (item_name s i))))

-- type i is used where it must be trivial
abbrev pub required_type : List ℕ → Types → (i : ℕ) → List Diagnostic
required_type s t i = when (is_required_trivial t (item_name s i)) (tell 38 (I i) (reasons_for t (item_name s i)))

-- no struct, CxxType, RustType or alias has the name
abbrev pub undeclared : Types → (n : ℕ) → Bool
undeclared t n = not (is_struct t n) && not (is_cxx t n) && not (is_rust t n)

-- ## A row that stands by value, by the table of faults

-- what is said where there is no fault, of a function pointer, and of what is unsized, by its branch of `describe`
unfoldable pub by_fault : Option Misfit → (none pointer : List Diagnostic) (unsized : ℕ → List Diagnostic) → List Diagnostic
by_fault None n p u = n
by_fault (Some Pointer) n p u = p
by_fault (Some (Unsized d)) n p u = u d

-- field j of struct i, by the fault of its row
abbrev pub struct_field : (i j : ℕ) → Option Misfit → List Diagnostic
struct_field i j x = by_fault x [] (say 31 (F i j)) (tell 32 (F i j))

-- a function, with what each of its arguments asks of it
abbrev pub function_of : List ℕ → (i : ℕ) → Function
function_of s i = record { item = i; rust = item_is s RustFunction i; safe = not (function_unsafe s i) }

module _ (s : List ℕ) (faults : List (Option Misfit)) where
  unfoldable pub struct_fields : (i : ℕ) → List Diagnostic
  struct_fields i = over (field_count s i) (λ j. struct_field i j (entry_or None faults (field s i j)))

  -- argument j is row r: whether it is a pointer is asked behind a function pointer, and before what is unsized
  unfoldable pub function_arg : Function → (j r : ℕ) → List Diagnostic
  function_arg f j r =
      let or-pointer = λ (other : List Diagnostic). if' is s Ptr r then when f.safe (say 48 (A f.item j)) else other in
      by_fault (entry_or None faults r) (or-pointer []) (when f.rust (say 47 (A f.item j))) (λ d. or-pointer (tell 49 (A f.item j) d))

  unfoldable pub function_args : (i : ℕ) → List Diagnostic
  function_args i = over (arg_count s i) (λ j. function_arg (function_of s i) j (arg s i j))

  unfoldable pub function_return : (i : ℕ) → List Diagnostic
  function_return i =
      if' not (has_return s i) then [] else
      by_fault (entry_or None faults (return s i)) [] (say 50 (O i)) (tell 51 (O i))

-- ## Functions

-- the `match` over a function's kind: method, free or associated
abbrev pub fn_kind : List ℕ → Types → (i : ℕ) → List Diagnostic
fn_kind s t i = if' is_method s i then check_fn_receiver s t i else if' is_free s i then [] else check_fn_self_type s t i

-- a method whose receiver is mutable, or of a type that may have lifetimes
abbrev pub receiver_may_lend : List ℕ → Types → (i : ℕ) → Bool
receiver_may_lend s t i = is_method s i && (receiver_mutable s i || may_have_lifetimes s t (self_type s i))

-- the &mut return, of a function of plain C++
abbrev pub fn_mut_return : List ℕ → Types → (i : ℕ) → List Diagnostic
fn_mut_return s t i = if' item_is s CxxFunction i && not (function_unwind s i) then check_mut_return_restriction s t i else []
