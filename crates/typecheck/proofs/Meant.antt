-- What the code says of fields, arguments and returns by the table of faults is what is meant, where the table is right.
-- Assumes nothing.
use Prim.Native.Nat.{ℕ, ◌<◌}
use mathlib.Core.Path.{◌≡◌, refl, sym, ap, ◌∙◌}
use mathlib.Core.List.{List}
use mathlib.Core.Logic.{inl, inr}
use mathlib.Core.Bool.{Bool, true, false, not}
use borrow.Author.Tests.{eq-eqb}
use Rattle.std.specs.Prelude.{Option, None}
use Rattle.rules.specs.Numbers.{RustFunction, Ptr, no_row}
use Rattle.rules.specs.declared.Place.TheVariants.{F, A, O}
use Rattle.rules.specs.Base.{if'◌then◌else◌, over}
use Rattle.rules.specs.Diagnostics.{say, tell, when}
use Rattle.rules.specs.View.{rows, is, item_is, field_count, field, function_unsafe, return, has_return, arg_count, arg}
use Rattle.rules.specs.Types.{Types}
use Rattle.rules.specs.Check.{check_struct_field, check_fn_arg, check_fn_return}
use Rattle.laws.proofs.Base.Lists.{over-same}
use Rattle.laws.proofs.Base.Tests.{never}
use Rattle.laws.specs.Kinds.{RowOrNone}
use Rattle.laws.specs.RowTable.{entry_or}
use Rattle.laws.proofs.Sheet.Accepted.Items.{FunctionOf}
use Rattle.row_tables.specs.declared.faults.Misfit.{Misfit}
use Rattle.row_tables.specs.Tables.{FaultRows}
use Rattle.row_tables.proofs.FaultLaws.{fault-read}
use Rattle.typecheck.specs.Tests.{struct_field, struct_fields, function_of, function_arg, function_args, function_return}
use Rattle.typecheck.proofs.Faults.{row-says, row-says-after}

module _ (s : List ℕ) (t : Types) (u : List (Option Misfit)) (right : FaultRows s t u) (i : ℕ) where
  -- ## Fields

  field-meant : (j : ℕ) → field s i j < rows s → struct_field i j (entry_or None u (field s i j)) ≡ check_struct_field s t i j
  unfolding check_struct_field
  field-meant j l = rw (fault-read s t right (field s i j) l) (row-says s t (field s i j) (say 31 (F i j)) (tell 32 (F i j)))

  pub fields-meant : ((j : ℕ) → j < field_count s i → field s i j < rows s) → struct_fields s u i ≡ over (field_count s i) (check_struct_field s t i)
  unfolding struct_fields
  fields-meant below = over-same (field_count s i) _ _ (λ j l. field-meant j (below j l))

  -- ## Arguments and return

  module _ (f : FunctionOf s i) where
    arg-meant : (j : ℕ) → arg s i j < rows s → function_arg s u (function_of s i) j (arg s i j) ≡ check_fn_arg s t i j
    unfolding function_arg check_fn_arg
    arg-meant j l =
        rw (fault-read s t right (arg s i j) l)
        (row-says-after s t (arg s i j) (when (item_is s RustFunction i) (say 47 (A i j))) (tell 49 (A i j)) (is s Ptr (arg s i j))
        (when (not (function_unsafe s i)) (say 48 (A i j))))

    pub args-meant : function_args s u i ≡ over (arg_count s i) (check_fn_arg s t i)
    unfolding function_args
    args-meant = over-same (arg_count s i) _ _ (λ j l. arg-meant j (f.arg-below j l))

    return-below : has_return s i ≡ true → return s i < rows s
    unfolding has_return
    return-below h = by f.return-below
      where
        by : RowOrNone (rows s) (return s i) → return s i < rows s
        by (inl e) = never (ap not (sym (eq-eqb (return s i) no_row e)) ∙ h)
        by (inr b) = b

    return-by : (b : Bool) → has_return s i ≡ b → function_return s u i ≡ check_fn_return s t i
    unfolding function_return check_fn_return if'◌then◌else◌
    return-by true e = rw (e, fault-read s t right (return s i) (return-below e)) (row-says s t (return s i) (say 50 (O i)) (tell 51 (O i)))
    return-by false e = rw e

    pub return-meant : function_return s u i ≡ check_fn_return s t i
    return-meant = return-by (has_return s i) refl
