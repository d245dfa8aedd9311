-- How many records a row has: at most three, and an Fn at most one more than its arguments; so no more than its bytes, and two for its offset.
-- Assumes nothing.
use Prim.Native.Nat.{ℕ, zero, suc, ◌+◌, ◌*◌, ◌≤◌, ◌<◌}
use mathlib.Core.Path.{◌≡◌, refl}
use mathlib.Core.Logic.{◌≢◌}
use mathlib.Core.Bool.{not, ◌&&◌}
use mathlib.Core.List.{List}
use native.Mathlib.Omega.{arith}
use lib.ListN.{length, get_or, length-append}
use Rattle.rules.specs.Numbers.{Ptr, Fn}
use Rattle.rules.specs.declared.Place.TheVariants.{G}
use Rattle.rules.specs.declared.Diagnostic.{Diagnostic}
use Rattle.rules.specs.Base.{over}
use Rattle.rules.specs.Diagnostics.{say, when}
use Rattle.rules.specs.Format.{offset, Accepted}
use Rattle.rules.specs.View.{flag1, rows, kind, is, row_flags, fn_arg_count, fn_arg}
use Rattle.rules.specs.Types.{Types}
use Rattle.rules.specs.Check.{check_type_ident, check_type_box, check_type_rust_vec, check_type_unique_ptr, check_counted_ptr, check_type_shared_ptr}
use Rattle.rules.specs.Check.{check_type_weak_ptr}
use Rattle.rules.specs.Check.{check_type_cxx_vector, check_type_ref, check_type_ptr, check_type_slice_ref, check_type_array, check_type_fn, no_check}
use Rattle.rules.specs.Check.{type_checks, check_type}
use Rattle.laws.proofs.Base.Counts.{Eq?, same, other, eq?}
use Rattle.laws.proofs.Sheet.Accepted.Sheet.{bodies_of}
use Rattle.laws.proofs.Sheet.Accepted.Rows.{row-size, fn-size}
use Rattle.laws.proofs.Report.Bounds.Lengths.{length-when, if-few, over-few}

one≤3 : 1 ≤ 3
one≤3 = omega arith

none≤3 : 0 ≤ 3
none≤3 = omega arith

module _ (s : List ℕ) (t : Types) where
  ident-few : (r : ℕ) → length (check_type_ident s t r) ≤ 3
  unfolding check_type_ident
  ident-few r = simp length-when (omega arith)

  box-few : (r : ℕ) → length (check_type_box s t r) ≤ 3
  unfolding check_type_box
  box-few r = simp (length-append, length-when) (omega arith)

  vec-few : (r : ℕ) → length (check_type_rust_vec s t r) ≤ 3
  unfolding check_type_rust_vec
  vec-few r = search (if-few, box-few, one≤3, none≤3)

  unique-few : (r : ℕ) → length (check_type_unique_ptr s t r) ≤ 3
  unfolding check_type_unique_ptr
  unique-few r = search (if-few, one≤3, none≤3)

  shared-few : (r : ℕ) → length (check_type_shared_ptr s t r) ≤ 3
  unfolding check_type_shared_ptr check_counted_ptr
  shared-few r = search (if-few, one≤3, none≤3)

  weak-few : (r : ℕ) → length (check_type_weak_ptr s t r) ≤ 3
  unfolding check_type_weak_ptr check_counted_ptr
  weak-few r = search (if-few, one≤3, none≤3)

  vector-few : (r : ℕ) → length (check_type_cxx_vector s t r) ≤ 3
  unfolding check_type_cxx_vector
  vector-few r = search (if-few, one≤3, none≤3)

  ref-few : (r : ℕ) → length (check_type_ref s t r) ≤ 3
  unfolding check_type_ref
  ref-few r = simp (length-append, length-when) (omega arith)

  ptr-few : (r : ℕ) → length (check_type_ptr s t r) ≤ 3
  unfolding check_type_ptr
  ptr-few r = simp (length-append, length-when) (omega arith)

  slice-few : (r : ℕ) → length (check_type_slice_ref s t r) ≤ 3
  unfolding check_type_slice_ref
  slice-few r = simp length-when (omega arith)

  array-few : (r : ℕ) → length (check_type_array s t r) ≤ 3
  unfolding check_type_array
  array-few r = simp length-when (omega arith)

  fn-few : (r : ℕ) → length (check_type_fn s t r) ≤ 1 + fn_arg_count s r
  unfolding check_type_fn
  fn-few r =
      let args : ℕ → List Diagnostic = λ j. when (is s Ptr (fn_arg s r j) && not (flag1 (row_flags s r))) (say 26 (G r j)) in
      let few : length (over (fn_arg_count s r) args) ≤ fn_arg_count s r * 1 = over-few args (fn_arg_count s r) 1 (λ j _. simp length-when (omega arith)) in
      simp (length-append, length-when) (omega arith)

  checks-few : (k r : ℕ) → k ≢ Fn → length (get_or (type_checks s t) k (no_check s t) r) ≤ 3
  unfolding type_checks no_check
  checks-few zero r n = ident-few r
  checks-few (suc zero) r n = box-few r
  checks-few (suc (suc zero)) r n = vec-few r
  checks-few (suc (suc (suc zero))) r n = unique-few r
  checks-few (suc (suc (suc (suc zero)))) r n = shared-few r
  checks-few (suc (suc (suc (suc (suc zero))))) r n = weak-few r
  checks-few (suc (suc (suc (suc (suc (suc zero)))))) r n = vector-few r
  checks-few (suc (suc (suc (suc (suc (suc (suc zero))))))) r n = ref-few r
  checks-few (suc (suc (suc (suc (suc (suc (suc (suc zero)))))))) r n = ptr-few r
  checks-few (suc (suc (suc (suc (suc (suc (suc (suc (suc zero))))))))) r n = none≤3
  checks-few (suc (suc (suc (suc (suc (suc (suc (suc (suc (suc zero)))))))))) r n = slice-few r
  checks-few (suc (suc (suc (suc (suc (suc (suc (suc (suc (suc (suc zero))))))))))) r n = array-few r
  checks-few (suc (suc (suc (suc (suc (suc (suc (suc (suc (suc (suc (suc zero)))))))))))) r n = absurd (n refl)
  checks-few (suc (suc (suc (suc (suc (suc (suc (suc (suc (suc (suc (suc (suc zero))))))))))))) r n = none≤3
  checks-few (suc (suc (suc (suc (suc (suc (suc (suc (suc (suc (suc (suc (suc (suc k)))))))))))))) r n = none≤3

  -- records by kinds
  pub row-few : (r : ℕ) → kind s r ≢ Fn → length (check_type s t r) ≤ 3
  unfolding check_type
  row-few r n = checks-few (kind s r) r n

  pub row-fn : (r : ℕ) → kind s r ≡ Fn → length (check_type s t r) ≤ 1 + fn_arg_count s r
  unfolding check_type type_checks
  row-fn r e = rw e (fn-few r)

-- a row has no more records than bytes, and two for its offset
pub row_room : (s : List ℕ) (acc : Accepted s) (t : Types) (r : ℕ) → r < rows s
    → length (check_type s t r) + (bodies_of s acc).start r ≤ (bodies_of s acc).start (suc r) + 2
row_room s acc t r l = go (eq? (kind s r) Fn)
  where
    at : offset s r ≡ (bodies_of s acc).start r
    at = (bodies_of s acc).row-at r l

    go : Eq? (kind s r) Fn → length (check_type s t r) + (bodies_of s acc).start r ≤ (bodies_of s acc).start (suc r) + 2
    go (same _ e) = omega (arith, at, row-fn s t r e, fn-size s acc r l e)
    go (other _ n) = omega (arith, at, row-few s t r n, row-size s acc r l)
