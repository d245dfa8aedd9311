-- Messages 3 to 58: check.rs, a definition for each of its functions, under its name. Where check.rs returns early, the rest stands in an `else`; what it
-- has at its end, and calls, comes first here.
-- Assumes nothing: these are definitions.
use Rattle.std.specs.Prelude.{ℕ, zero, suc, List, [], ◌∷◌, ◌++◌, Bool, true, false, not, ◌&&◌, ◌||◌, get_or, ltb, leb, eqb}
use Rattle.rules.specs.Numbers.{name_bool, name_char, name_cxx_string, name_rust_string, name_self, Ident, RustBox, RustVec, UniquePtr, SharedPtr, WeakPtr}
use Rattle.rules.specs.Numbers.{CxxVector, Ref, Ptr, Str, SliceRef, Array, Fn, Void, RustType, CxxFunction, RustFunction, Default, is_bit, ExternType}
use Rattle.rules.specs.Numbers.{static, no_item}
use Rattle.rules.specs.declared.Place.TheVariants.{R, G, I, F, A, O, D, L}
use Rattle.rules.specs.declared.Diagnostic.{Diagnostic}
use Rattle.rules.specs.Base.{if'◌then◌else◌, over, any_of}
use Rattle.rules.specs.Diagnostics.{say, tell, when, bit}
use Rattle.rules.specs.Names.{is_atom, is_reserved}
use Rattle.rules.specs.View.{flag1, flag2, rows, kind, is, row_name, row_flags, inner, fn_arg_count, fn_arg, shown, item_kind, item_is, item_name}
use Rattle.rules.specs.View.{lifetime_count, lifetime, derive_count, derive, field_count, field, enum_explicit, enum_variants, enum_defaults, type_bounds}
use Rattle.rules.specs.View.{function_unsafe, function_trusted, function_unwind, is_method, is_free, self_type, receiver_mutable, receiver_pinned, return}
use Rattle.rules.specs.View.{has_return, arg_count, arg, args, impl_row, impl_negative}
use Rattle.rules.specs.Types.{Types, is_struct, is_enum, is_cxx, is_rust, is_alias, is_untrusted, is_required_trivial, is_extern, is_opaque}
use Rattle.rules.specs.Types.{untrusted_of, type_of}
use Rattle.rules.specs.Types.{reasons_for}

module _ (s : List ℕ) (t : Types) where
  -- ## From the end of check.rs

  unfoldable pub check_reserved_name : (i : ℕ) → List Diagnostic
  check_reserved_name i = when (is_reserved (item_name s i)) (say 57 (I i))

  unfoldable pub check_reserved_lifetime : (i j : ℕ) → List Diagnostic
  check_reserved_lifetime i j = when (eqb (lifetime s i j) static) (say 58 (L i j))

  -- and `check_generics`: a sheet's generics are lifetimes
  unfoldable pub check_lifetimes : (i : ℕ) → List Diagnostic
  check_lifetimes i = over (lifetime_count s i) (check_reserved_lifetime i)

  unfoldable pub is_unsized_ident : (n : ℕ) → Bool
  is_unsized_ident n =
      eqb n name_cxx_string
      || (is_extern t n && not (is_alias t n && is_required_trivial t n))
      || is_rust t n

  unfoldable pub is_unsized_within : (fuel r : ℕ) → Bool
  is_unsized_within zero r = false
  is_unsized_within (suc f) r =
      elim (is s Array r) [
        | true ↦ is_unsized_within f (inner s r)
        | false ↦ if' is s Ident r then is_unsized_ident (row_name s r) else is s CxxVector r || is s Fn r || is s Void r
      ]

  -- rows refer to smaller rows, so as many steps as there are rows are enough
  unfoldable pub is_unsized : (r : ℕ) → Bool
  is_unsized r = is_unsized_within (rows s) r

  -- the branch of `describe`, in text order
  unfoldable pub describe_ident : (n : ℕ) → ℕ
  describe_ident n =
      if' is_struct t n then 1 else
      if' is_enum t n then 2 else
      if' is_alias t n then 3 else
      if' is_cxx t n then 4 else
      if' is_rust t n then 5 else
      if' eqb n name_cxx_string then 6 else
      if' eqb n name_char then 7 else 8

  unfoldable pub describe : (r : ℕ) → ℕ
  describe r =
      if' is s Ident r then describe_ident (row_name s r) else
      if' is s RustBox r then 9 else
      if' is s RustVec r then 10 else
      if' is s UniquePtr r then 11 else
      if' is s SharedPtr r then 12 else
      if' is s WeakPtr r then 13 else
      if' is s Ref r then 14 else
      if' is s Ptr r then 15 else
      if' is s Str r then 16 else
      if' is s CxxVector r then 17 else
      if' is s SliceRef r then 18 else
      if' is s Fn r then 19 else
      if' is s Void r then 20 else 21

  -- ## Rows

  unfoldable pub check_type_ident : (r : ℕ) → List Diagnostic
  check_type_ident r =
      let n = row_name s r in
      when (not (is_atom n) && not (is_struct t n) && not (is_enum t n) && not (is_cxx t n) && not (is_rust t n)) (say 3 (R r))

  unfoldable pub check_type_box : (r : ℕ) → List Diagnostic
  check_type_box r =
      let plain = is s Ident (inner s r) in
      let n = row_name s (inner s r) in
      when (plain && is_opaque t n) (say 4 (R r))
      ++ when (not (plain && not (is_atom n))) (say 5 (R r))

  unfoldable pub check_type_rust_vec : (r : ℕ) → List Diagnostic
  check_type_rust_vec r =
      let plain = is s Ident (inner s r) in
      let n = row_name s (inner s r) in
      if' plain && is_opaque t n then say 6 (R r) else
      if' plain && not (eqb n name_cxx_string) then [] else
      if' is s Str (inner s r) then [] else
      if' is s RustBox (inner s r) then check_type_box (inner s r) else say 7 (R r)

  unfoldable pub check_type_unique_ptr : (r : ℕ) → List Diagnostic
  check_type_unique_ptr r =
      let plain = is s Ident (inner s r) in
      let n = row_name s (inner s r) in
      if' plain && is_rust t n then say 8 (R r) else
      if' plain && (not (is_atom n) || eqb n name_cxx_string) then [] else
      if' is s CxxVector (inner s r) then [] else say 9 (R r)

  -- shared_ptr and weak_ptr have one rule, with messages of their own: for a Rust type, for a C++ vector, for any other target
  unfoldable pub check_counted_ptr : (rust vector other : ℕ) → (r : ℕ) → List Diagnostic
  check_counted_ptr rust vector other r =
      let plain = is s Ident (inner s r) in
      let n = row_name s (inner s r) in
      if' plain && is_rust t n then say rust (R r) else
      if' plain && not (eqb n name_char || eqb n name_rust_string) then [] else
      if' is s CxxVector (inner s r) then say vector (R r) else say other (R r)

  unfoldable pub check_type_shared_ptr : (r : ℕ) → List Diagnostic
  check_type_shared_ptr r = check_counted_ptr 10 11 12 r

  unfoldable pub check_type_weak_ptr : (r : ℕ) → List Diagnostic
  check_type_weak_ptr r = check_counted_ptr 13 14 15 r

  unfoldable pub check_type_cxx_vector : (r : ℕ) → List Diagnostic
  check_type_cxx_vector r =
      let plain = is s Ident (inner s r) in
      let n = row_name s (inner s r) in
      if' plain && is_rust t n then say 16 (R r) else
      if' plain && not (eqb n name_char || eqb n name_bool || eqb n name_rust_string) then [] else say 17 (R r)

  -- a mutable reference to this row requires a pin
  unfoldable pub requires_pin : (r : ℕ) → Bool
  requires_pin r =
      let n = row_name s r in
      (is s Ident r && (eqb n name_cxx_string || is_opaque t n)) || is s CxxVector r

  unfoldable pub check_type_ref : (r : ℕ) → List Diagnostic
  check_type_ref r =
      let mutable = flag1 (row_flags s r) in
      let pinned = flag2 (row_flags s r) in
      when (mutable && not pinned && requires_pin (inner s r)) (say 18 (R r))
      ++ when (is s Ref (inner s r)) (say 19 (R r))
      ++ when (is s Fn (inner s r) || is s Void (inner s r)) (say 20 (R r))

  unfoldable pub check_type_ptr : (r : ℕ) → List Diagnostic
  check_type_ptr r =
      when (is s Ref (inner s r)) (say 21 (R r))
      ++ when (is s Fn (inner s r) || is s Void (inner s r)) (say 22 (R r))

  unfoldable pub check_type_slice_ref : (r : ℕ) → List Diagnostic
  check_type_slice_ref r =
      let plain = is s Ident (inner s r) in
      let n = row_name s (inner s r) in
      let supported = not (is_unsized (inner s r)) || (plain && (is_rust t n || is_alias t n)) in
      let opaque = plain && is_extern t n in
      when (not supported) (tell 23 (R r) (bit opaque))

  unfoldable pub check_type_array : (r : ℕ) → List Diagnostic
  check_type_array r = when (is_unsized (inner s r)) (say 24 (R r))

  unfoldable pub check_type_fn : (r : ℕ) → List Diagnostic
  check_type_fn r =
      let unsafe = flag1 (row_flags s r) in
      let throws = flag2 (row_flags s r) in
      when throws (say 25 (R r))
      ++ over (fn_arg_count s r) (λ j. when (is s Ptr (fn_arg s r j) && not unsafe) (say 26 (G r j)))

  unfoldable pub no_check : ℕ → List Diagnostic
  no_check _ = []

  -- the first `match` of `do_typecheck`: by kinds, 0 Ident to 13 Void
  unfoldable pub type_checks : List (ℕ → List Diagnostic)
  type_checks =
      check_type_ident
      ∷ check_type_box
      ∷ check_type_rust_vec
      ∷ check_type_unique_ptr
      ∷ check_type_shared_ptr
      ∷ check_type_weak_ptr
      ∷ check_type_cxx_vector
      ∷ check_type_ref
      ∷ check_type_ptr
      ∷ no_check
      ∷ check_type_slice_ref
      ∷ check_type_array
      ∷ check_type_fn
      ∷ no_check
      ∷ []

  unfoldable pub check_type : (r : ℕ) → List Diagnostic
  check_type r = get_or type_checks (kind s r) no_check r

  -- ## Items

  unfoldable pub check_struct_derive : (i j : ℕ) → List Diagnostic
  check_struct_derive i j =
      when (is_bit (derive s i j)) (say 29 (D i j))
      ++ when (eqb (derive s i j) ExternType) (say 30 (D i j))

  unfoldable pub check_struct_field : (i j : ℕ) → List Diagnostic
  check_struct_field i j =
      let r = field s i j in
      if' is s Fn r then say 31 (F i j) else
      when (is_unsized r) (tell 32 (F i j) (describe r))

  unfoldable pub check_api_struct : (i : ℕ) → List Diagnostic
  check_api_struct i =
      let n = item_name s i in
      check_reserved_name i
      ++ check_lifetimes i
      ++ when (eqb (field_count s i) 0) (say 27 (I i))
      ++ when (is_cxx t n && is_untrusted t n) (say 28 (I (untrusted_of t n)))
      ++ over (derive_count s i) (check_struct_derive i)
      ++ over (field_count s i) (check_struct_field i)

  unfoldable pub check_enum_derive : (i j : ℕ) → List Diagnostic
  check_enum_derive i j =
      let default-variants = enum_defaults s i in
      when (eqb (derive s i j) Default && not (eqb default-variants 1)) (tell 34 (D i j) default-variants)
      ++ when (eqb (derive s i j) ExternType) (say 35 (D i j))

  unfoldable pub check_api_enum : (i : ℕ) → List Diagnostic
  check_api_enum i =
      check_reserved_name i
      ++ check_lifetimes i
      ++ when (eqb (enum_variants s i) 0 && not (enum_explicit s i)) (say 33 (I i))
      ++ over (derive_count s i) (check_enum_derive i)

  unfoldable pub check_opaque_derive : (i j : ℕ) → List Diagnostic
  check_opaque_derive i j = when (not (eqb (derive s i j) ExternType && item_is s RustType i)) (say 36 (D i j))

  unfoldable pub check_api_type : (i : ℕ) → List Diagnostic
  check_api_type i =
      let n = item_name s i in
      check_reserved_name i
      ++ check_lifetimes i
      ++ over (derive_count s i) (check_opaque_derive i)
      ++ when (type_bounds s i) (say 37 (I i))
      ++ when (is_required_trivial t n) (tell 38 (I i) (reasons_for t n))

  -- ### `check_mut_return_restriction`

  -- what `try_resolve` gives has lifetimes, or it gives nothing
  unfoldable pub may_have_lifetimes : (name : ℕ) → Bool
  may_have_lifetimes n = let i = type_of t n in eqb i no_item || ltb 0 (lifetime_count s i)

  -- `FindLifetimeMut` at one row, and over a row and all that it shows
  unfoldable pub is_lifetime_mut : (r : ℕ) → Bool
  is_lifetime_mut r =
      if' is s Ref r || is s SliceRef r then flag1 (row_flags s r) else
      is s Ident r && not (is_atom (row_name s r)) && may_have_lifetimes (row_name s r)

  unfoldable pub find_lifetime_mut : (fuel r : ℕ) → Bool
  find_lifetime_mut zero r = false
  find_lifetime_mut (suc f) r = elim (is_lifetime_mut r) [ true ↦ true | false ↦ any_of (find_lifetime_mut f) (shown s r) ]

  unfoldable pub returns_mut : (i : ℕ) → Bool
  returns_mut i = let r = return s i in has_return s i && (is s Ref r || is s SliceRef r) && flag1 (row_flags s r)

  unfoldable pub check_mut_return_restriction : (i : ℕ) → List Diagnostic
  check_mut_return_restriction i =
      if' function_unsafe s i then [] else
      if' not (returns_mut i) then [] else
      if' is_method s i && (receiver_mutable s i || may_have_lifetimes (self_type s i)) then [] else
      when (not (any_of (find_lifetime_mut (rows s)) (args s i))) (say 56 (I i))

  -- ### `check_api_fn`

  unfoldable pub check_fn_generics : (i : ℕ) → List Diagnostic
  check_fn_generics i =
      let generic = ltb 0 (lifetime_count s i) in
      if' item_is s CxxFunction i then when (generic && not (function_trusted s i)) (say 39 (I i)) else
      when (generic && not (function_unsafe s i)) (say 40 (I i))

  unfoldable pub check_fn_receiver : (i : ℕ) → List Diagnostic
  check_fn_receiver i =
      let n = self_type s i in
      let unpinned = receiver_mutable s i && not (receiver_pinned s i) in
      if' eqb n name_self then say 41 (I i) else
      if' is_enum t n then say 42 (I i) else
      if' not (is_struct t n) && not (is_cxx t n) && not (is_rust t n) then say 43 (I i) else
      when (unpinned && is_opaque t n) (say 44 (I i))

  unfoldable pub check_fn_self_type : (i : ℕ) → List Diagnostic
  check_fn_self_type i =
      let n = self_type s i in
      if' is_enum t n then say 45 (I i) else
      when (not (is_struct t n) && not (is_cxx t n) && not (is_rust t n)) (say 46 (I i))

  unfoldable pub check_fn_arg : (i j : ℕ) → List Diagnostic
  check_fn_arg i j =
      let r = arg s i j in
      if' is s Fn r then when (item_is s RustFunction i) (say 47 (A i j)) else
      if' is s Ptr r then when (not (function_unsafe s i)) (say 48 (A i j)) else
      when (is_unsized r) (tell 49 (A i j) (describe r))

  unfoldable pub check_fn_return : (i : ℕ) → List Diagnostic
  check_fn_return i =
      let r = return s i in
      if' not (has_return s i) then [] else
      if' is s Fn r then say 50 (O i) else
      when (is_unsized r) (tell 51 (O i) (describe r))

  unfoldable pub check_api_fn : (i : ℕ) → List Diagnostic
  check_api_fn i =
      check_fn_generics i
      ++ check_lifetimes i
      ++ (if' is_method s i then check_fn_receiver i else if' is_free s i then [] else check_fn_self_type i)
      ++ over (arg_count s i) (check_fn_arg i)
      ++ check_fn_return i
      ++ (if' item_is s CxxFunction i && not (function_unwind s i) then check_mut_return_restriction i else [])

  unfoldable pub check_api_type_alias : (i : ℕ) → List Diagnostic
  check_api_type_alias i =
      check_lifetimes i
      ++ over (derive_count s i) (λ j. say 52 (D i j))

  unfoldable pub check_impl_self : (i : ℕ) → List Diagnostic
  check_impl_self i =
      let r = impl_row s i in
      if' impl_negative s i then say 53 (I i) else
      if' not (leb RustBox (kind s r) && leb (kind s r) CxxVector) then say 55 (I i) else
      when (is s Ident (inner s r) && is_atom (row_name s (inner s r))) (say 54 (I i))

  unfoldable pub check_api_impl : (i : ℕ) → List Diagnostic
  check_api_impl i = check_lifetimes i ++ check_impl_self i

  -- the second `match` of `do_typecheck`: by kinds, 0 Include to 8 Impl
  unfoldable pub api_checks : List (ℕ → List Diagnostic)
  api_checks =
      no_check
      ∷ check_api_struct
      ∷ check_api_enum
      ∷ check_api_type
      ∷ check_api_type
      ∷ check_api_fn
      ∷ check_api_fn
      ∷ check_api_type_alias
      ∷ check_api_impl
      ∷ []

  unfoldable pub check_api : (i : ℕ) → List Diagnostic
  check_api i = get_or api_checks (item_kind s i) no_check i
