-- How many records an item has, of messages 1, 2 and 27 to 58: no more than its bytes, and two for its offset.
-- Assumes nothing.
use Prim.Native.Nat.{ℕ, zero, suc, ◌+◌, ◌*◌, ◌≤◌, ◌<◌}
use mathlib.Core.Path.{◌≡◌, refl}
use mathlib.Core.Logic.{inl, inr}
use mathlib.Core.Bool.{not, ◌&&◌}
use mathlib.Core.List.{List, []}
use native.Mathlib.Omega.{arith}
use lib.Dec.{eqb}
use lib.ListN.{length, get_or, length-append}
use Rattle.rules.specs.Numbers.{Struct, CxxFunction}
use Rattle.rules.specs.declared.Place.TheVariants.{I, D}
use Rattle.rules.specs.declared.Diagnostic.{Diagnostic}
use Rattle.rules.specs.Base.{if'◌then◌else◌, over}
use Rattle.rules.specs.Diagnostics.{say, when, bit}
use Rattle.rules.specs.Format.{Accepted}
use Rattle.rules.specs.View.{rows, items, item_kind, item_is, item_place, lifetime_count, derive_count, field_count, function_unwind, is_method}
use Rattle.rules.specs.View.{is_free, arg_count}
use Rattle.rules.specs.Collect.{duplicate}
use Rattle.rules.specs.Types.{Types}
use Rattle.rules.specs.Check.{check_reserved_name, check_reserved_lifetime, check_lifetimes, check_struct_derive, check_struct_field, check_api_struct}
use Rattle.rules.specs.Check.{check_enum_derive, check_api_enum, check_opaque_derive, check_api_type, check_mut_return_restriction, check_fn_generics}
use Rattle.rules.specs.Check.{check_fn_receiver, check_fn_self_type, check_fn_arg, check_fn_return, check_api_fn, check_api_type_alias, check_impl_self}
use Rattle.rules.specs.Check.{check_api_impl, no_check, api_checks, check_api}
use Rattle.laws.proofs.Sheet.Accepted.Sheet.{bodies_of}
use Rattle.laws.proofs.Sheet.Accepted.Items.{item-of, item-sizes}
use Rattle.laws.proofs.Report.Bounds.Lengths.{length-when, when-one, none≤1, one≤1, if-few, over-few}

module _ (s : List ℕ) (t : Types) (i : ℕ) where
  reserved-few : length (check_reserved_name s t i) ≤ 1
  unfolding check_reserved_name
  reserved-few = search when-one

  lifetimes-few : length (check_lifetimes s t i) ≤ lifetime_count s i
  unfolding check_lifetimes check_reserved_lifetime
  lifetimes-few = omega (arith, over-few (check_reserved_lifetime s t i) (lifetime_count s i) 1 (λ j _. search when-one))

  -- ## By kinds

  struct-few : length (check_api_struct s t i) ≤ 3 + lifetime_count s i + 2 * derive_count s i + field_count s i
  unfolding check_api_struct check_struct_derive check_struct_field
  struct-few =
      let derives : length (over (derive_count s i) (check_struct_derive s t i)) ≤ derive_count s i * 2 =
      over-few (check_struct_derive s t i) (derive_count s i) 2 (λ j _. simp (length-append, length-when) (omega arith)) in
      let fields : length (over (field_count s i) (check_struct_field s t i)) ≤ field_count s i * 1 =
      over-few (check_struct_field s t i) (field_count s i) 1 (λ j _. search (if-few, when-one, one≤1)) in
      simp (length-append, length-when) (omega (arith, reserved-few, lifetimes-few))

  enum-few : length (check_api_enum s t i) ≤ 2 + lifetime_count s i + 2 * derive_count s i
  unfolding check_api_enum check_enum_derive
  enum-few =
      let derives : length (over (derive_count s i) (check_enum_derive s t i)) ≤ derive_count s i * 2 =
      over-few (check_enum_derive s t i) (derive_count s i) 2 (λ j _. simp (length-append, length-when) (omega arith)) in
      simp (length-append, length-when) (omega (arith, reserved-few, lifetimes-few))

  type-few : length (check_api_type s t i) ≤ 3 + lifetime_count s i + derive_count s i
  unfolding check_api_type check_opaque_derive
  type-few =
      let derives : length (over (derive_count s i) (check_opaque_derive s t i)) ≤ derive_count s i * 1 =
      over-few (check_opaque_derive s t i) (derive_count s i) 1 (λ j _. search when-one) in
      simp (length-append, length-when) (omega (arith, reserved-few, lifetimes-few))

  generics-few : length (check_fn_generics s t i) ≤ 1
  unfolding check_fn_generics
  generics-few = search (if-few, when-one)

  receiver-few : length (check_fn_receiver s t i) ≤ 1
  unfolding check_fn_receiver
  receiver-few = search (if-few, when-one, one≤1)

  self-few : length (check_fn_self_type s t i) ≤ 1
  unfolding check_fn_self_type
  self-few = search (if-few, when-one, one≤1)

  arg-few : (j : ℕ) → length (check_fn_arg s t i j) ≤ 1
  unfolding check_fn_arg
  arg-few j = search (if-few, when-one)

  return-few : length (check_fn_return s t i) ≤ 1
  unfolding check_fn_return
  return-few = search (if-few, when-one, one≤1, none≤1)

  mut-few : length (check_mut_return_restriction s t i) ≤ 1
  unfolding check_mut_return_restriction
  mut-few = search (if-few, when-one, none≤1)

  function-few : length (check_api_fn s t i) ≤ 4 + lifetime_count s i + arg_count s i
  unfolding check_api_fn
  function-few =
      let self : List Diagnostic = if' is_method s i then check_fn_receiver s t i else if' is_free s i then [] else check_fn_self_type s t i in
      let mutable : List Diagnostic = if' item_is s CxxFunction i && not (function_unwind s i) then check_mut_return_restriction s t i else [] in
      let a : length self ≤ 1 = search (if-few, receiver-few, self-few, none≤1) in
      let b : length mutable ≤ 1 = search (if-few, mut-few, none≤1) in
      let c : length (over (arg_count s i) (check_fn_arg s t i)) ≤ arg_count s i * 1 = over-few (check_fn_arg s t i) (arg_count s i) 1 (λ j _. arg-few j) in
      simp length-append (omega (arith, generics-few, lifetimes-few, a, b, c, return-few))

  alias-few : length (check_api_type_alias s t i) ≤ lifetime_count s i + derive_count s i
  unfolding check_api_type_alias
  alias-few =
      let derives : length (over (derive_count s i) (λ j. say 52 (D i j))) ≤ derive_count s i * 1 =
      over-few (λ j. say 52 (D i j)) (derive_count s i) 1 (λ j _. one≤1) in
      simp length-append (omega (arith, lifetimes-few))

  self-impl-few : length (check_impl_self s t i) ≤ 1
  unfolding check_impl_self
  self-impl-few = search (if-few, when-one, one≤1)

  impl-few : length (check_api_impl s t i) ≤ 1 + lifetime_count s i
  unfolding check_api_impl
  impl-few = simp length-append (omega (arith, lifetimes-few, self-impl-few))

-- ## In bytes

-- messages 1 and 27 to 58, and as many of message 2 as it has fields
unfoldable pub records_of : List ℕ → Types → (i : ℕ) → ℕ
records_of s t i = length (when (duplicate s i) (say 1 (I i))) + bit (item_is s Struct i) * field_count s i + length (check_api s t i)

module _ (s : List ℕ) (acc : Accepted s) (t : Types) (i : ℕ) (l : i < items s) where
  next : ℕ
  next = (bodies_of s acc).start (suc (rows s + i))

  fits : (k : ℕ) → item_kind s i ≡ k → length (get_or (api_checks s t) k (no_check s t) i) + bit (eqb k Struct) * field_count s i + 1 + item_place s i ≤
      next + 2
  unfolding api_checks no_check next
  fits zero e = omega (arith, (item-sizes s acc i l).include e)
  fits (suc zero) e = omega (arith, struct-few s t i, (item-sizes s acc i l).struct e)
  fits (suc (suc zero)) e = omega (arith, enum-few s t i, (item-sizes s acc i l).enum e)
  fits (suc (suc (suc zero))) e = omega (arith, type-few s t i, (item-sizes s acc i l).opaque (inl e))
  fits (suc (suc (suc (suc zero)))) e = omega (arith, type-few s t i, (item-sizes s acc i l).opaque (inr e))
  fits (suc (suc (suc (suc (suc zero))))) e = omega (arith, function-few s t i, (item-sizes s acc i l).function (inl e))
  fits (suc (suc (suc (suc (suc (suc zero)))))) e = omega (arith, function-few s t i, (item-sizes s acc i l).function (inr e))
  fits (suc (suc (suc (suc (suc (suc (suc zero))))))) e = omega (arith, alias-few s t i, (item-sizes s acc i l).alias e)
  fits (suc (suc (suc (suc (suc (suc (suc (suc zero)))))))) e = omega (arith, impl-few s t i, (item-sizes s acc i l).impl e)
  fits (suc (suc (suc (suc (suc (suc (suc (suc (suc k))))))))) e =
      let z : suc (suc (suc (suc (suc (suc (suc (suc (suc k)))))))) < 9 = rw e at (item-of s acc i l).known in absurd (omega arith)

  pub item_room : records_of s t i + (bodies_of s acc).start (rows s + i) ≤ (bodies_of s acc).start (suc (rows s + i)) + 2
  unfolding records_of check_api item_is item_place next
  item_room =
      omega (arith, when-one (duplicate s i) (record { message = 1; place = I i; detail = 0 }), fits (item_kind s i) refl, (bodies_of s acc).item-at i l)
