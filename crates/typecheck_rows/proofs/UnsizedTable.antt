-- The checks that ask the table of the unsized rows say what is meant: the row inside has its entry.
-- Assumes nothing.
use Prim.Native.Nat.{ℕ, ◌<◌}
use mathlib.Core.Path.{◌≡◌, refl}
use mathlib.Core.List.{List}
use mathlib.Core.Bool.{Bool, true, false}
use native.Mathlib.Nat.{lt_trans}
use Rattle.rules.specs.Numbers.{SliceRef, Array}
use Rattle.rules.specs.View.{rows, kind, inner}
use Rattle.rules.specs.Types.{Types}
use Rattle.rules.specs.Check.{check_type_slice_ref, check_type_array}
use Rattle.laws.proofs.Rows.RowTable.{read_is}
use Rattle.laws.proofs.Sheet.Accepted.Rows.{has_inner, row_of}
use Rattle.typecheck_rows.specs.Given.{RowGiven}
use Rattle.typecheck_rows.specs.Tests.{slice_ref, array}

module _ {s : List ℕ} {u : List Bool} {t : Types} {r : ℕ} (given : RowGiven s t u r) where
  inside : (k : ℕ) → has_inner k ≡ true → kind s r ≡ k → inner s r < rows s
  inside k h e = lt_trans ((row_of s given.sized.accepted r given.below).inner-falls k h e) given.below

  pub slice-ref : kind s r ≡ SliceRef → slice_ref s r t u ≡ check_type_slice_ref s t r
  unfolding check_type_slice_ref
  slice-ref e = rw (read_is (λ b. b) false given.sized.right (inner s r) (inside SliceRef refl e))

  pub array_of : kind s r ≡ Array → array s r u ≡ check_type_array s t r
  unfolding check_type_array
  array_of e = rw (read_is (λ b. b) false given.sized.right (inner s r) (inside Array refl e))
