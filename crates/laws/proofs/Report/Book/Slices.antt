-- Slices and arrays of an accepted sheet: their messages against what the book forbids, exactly.
-- Assumes nothing.
use Prim.Native.Nat.{ℕ, ◌<◌}
use mathlib.Core.Path.{◌≡◌, refl, sym, ap, ◌∙◌}
use mathlib.Core.Bool.{Bool, true, false, not, ◌&&◌, ◌||◌}
use mathlib.Core.List.{List}
use native.Mathlib.Omega.{arith}
use lib.Dec.{eqb}
use borrow.Author.Tests.{eqb-true}
use Rattle.rules.specs.Numbers.{name_cxx_string, SliceRef, Array}
use Rattle.rules.specs.declared.Place.TheVariants.{R}
use Rattle.rules.specs.declared.Diagnostic.{Diagnostic}
use Rattle.rules.specs.Diagnostics.{tell, when, bit}
use Rattle.rules.specs.Format.{Accepted}
use Rattle.rules.specs.View.{rows, kind, is, inner}
use Rattle.rules.specs.Trivial.{extern_in}
use Rattle.rules.specs.Types.{Types, is_struct, is_enum, is_cxx, is_rust, is_alias, is_required_trivial, is_extern}
use Rattle.rules.specs.Check.{check_type_slice_ref, check_type_array, is_unsized_ident, is_unsized, type_checks, check_type}
use Rattle.rules.specs.Book.{is_shared, opaque_cxx, holds_no_cxx, holds_no_rust, forbidden}
use Rattle.laws.specs.Tells.{tells, tells_with}
use Rattle.laws.proofs.Base.Tests.{never, both-are}
use Rattle.laws.proofs.Report.Tells.{has-when}
use Rattle.laws.proofs.Base.Tests.{or-true, or-false, and-true, and-false}
use Rattle.laws.proofs.Sheet.Accepted.Rows.{has_inner, row_of}
use Rattle.laws.proofs.Rows.Fuel.{unsized-named}
use Rattle.laws.proofs.Report.Book.Targets.{plain, target, forbids-cxx}

module _ (s : List ℕ) (acc : Accepted s) (t : Types) (r : ℕ) (l : r < rows s) where
  -- whether a plain element is unsized is asked of its name
  unsized-plain : (k : ℕ) → has_inner k ≡ true → kind s r ≡ k → plain s r ≡ true → is_unsized s t (inner s r) ≡ is_unsized_ident s t (target s r)
  unfolding is
  unsized-plain k h e p =
      let i = inner s r in
      let q : kind s i ≡ 0 = eqb-true (kind s i) 0 p in
      let f : i < r = (row_of s acc r l).inner-falls k h e in
      unsized-named s acc t i (omega arith) q

  -- the tests of the target's name
  abbrev pub is_string : Bool
  is_string = eqb (target s r) name_cxx_string

  abbrev pub is_trivial : Bool
  is_trivial = is_required_trivial t (target s r)

  abbrev pub in_rust : Bool
  in_rust = is_rust t (target s r)

  abbrev pub in_aliases : Bool
  in_aliases = is_alias t (target s r)

  abbrev pub in_cxx : Bool
  in_cxx = is_cxx t (target s r)

  abbrev pub in_structs : Bool
  in_structs = is_struct t (target s r)

  abbrev pub in_enums : Bool
  in_enums = is_enum t (target s r)

  -- ## Slices: all that the book forbids, but for a name that a RustType declares too; and CxxString

  -- message 23 with its opaque note, by whether the element is a plain name
  slice-test : (p : Bool) → plain s r ≡ p → kind s r ≡ SliceRef
      → (not (not (is_unsized s t (inner s r)) || (p && (in_rust || in_aliases))) && eqb (bit (p && (in_cxx && not in_structs && not in_enums))) 1)
      ≡ (p && opaque_cxx t (target s r) && not in_rust)
  unfolding is_unsized_ident opaque_cxx is_shared is_extern extern_in is_cxx is_struct is_enum
  slice-test false e k = and-false (not (not (is_unsized s t (inner s r)) || false))
  slice-test true e k = rw (unsized-plain SliceRef refl k e) (of is_string is_trivial in_rust in_aliases in_cxx in_structs in_enums)
    where
      of : (x q ru a c s e : Bool)
          → (not (not (x || (c && not s && not e && not (a && q)) || ru) || (true && (ru || a))) && eqb (bit (true && (c && not s && not e))) 1)
          ≡ (true && (c && not (s || e || a)) && not ru)
      of x q true a c s e = simp (or-true, and-false)
      of x q false true c s e = simp (or-true, and-false)
      of x q false false false s e = simp and-false
      of x q false false true true e = simp and-false
      of x q false false true false true = simp and-false
      of x q false false true false false = simp (or-true, or-false)

  -- with the opaque note it is what the book forbids
  pub slice_is : kind s r ≡ SliceRef → tells_with 23 1 (check_type s t r) ≡ (forbidden s t r && not in_rust)
  unfolding check_type type_checks check_type_slice_ref holds_no_cxx holds_no_rust is_extern extern_in is_cxx is_struct is_enum
  slice_is e = rw e (simp has-when (slice-test (plain s r) refl e) ∙ ap (λ c. c && not in_rust) (sym (forbids-cxx s t r SliceRef e refl refl)))

  -- with or without, of a plain element
  pub slice-plain : kind s r ≡ SliceRef → plain s r ≡ true → tells 23 (check_type s t r) ≡ ((is_string || forbidden s t r) && not in_rust && not in_aliases)
  unfolding check_type type_checks check_type_slice_ref is_unsized_ident opaque_cxx is_shared holds_no_cxx holds_no_rust is_extern extern_in is_cxx
      is_struct is_enum
  slice-plain k e =
      rw (forbids-cxx s t r SliceRef k refl refl, k, e)
      (simp (has-when, and-true, unsized-plain SliceRef refl k e) (of is_string is_trivial in_rust in_aliases in_cxx in_structs in_enums))
    where
      of : (x q ru a c s e : Bool)
          → not (not (x || (c && not s && not e && not (a && q)) || ru) || (ru || a)) ≡ ((x || (c && not (s || e || a))) && not ru && not a)
      of x q true a c s e = simp (or-true, and-false)
      of x q false true c s e = simp (or-true, and-false)
      of true q false false c s e = refl
      of false q false false false s e = refl
      of false q false false true true e = refl
      of false q false false true false true = refl
      of false q false false true false false = refl

  -- so what the book forbids is refused, unless a RustType declares it too: then nothing is said
  pub slice-refused : kind s r ≡ SliceRef → forbidden s t r ≡ true → check_type s t r ≡ when (not in_rust) (tell 23 (R r) 1)
  unfolding check_type type_checks check_type_slice_ref opaque_cxx is_shared is_unsized_ident holds_no_cxx holds_no_rust is_extern extern_in is_cxx
      is_struct is_enum
  slice-refused k f =
      let h = both-are (plain s r) (opaque_cxx t (target s r)) (sym (forbids-cxx s t r SliceRef k refl refl) ∙ f) in
      rw (k, unsized-plain SliceRef refl k h.0, h.0) (of is_string is_trivial in_rust in_aliases in_cxx in_structs in_enums h.1)
    where
      said : (x q ru a c s e : Bool) → List Diagnostic
      said x q ru a c s e =
          when (not (not (x || (c && not s && not e && not (a && q)) || ru) || (true && (ru || a)))) (tell 23 (R r) (bit (true && (c && not s && not e))))

      of : (x q ru a c s e : Bool) → (c && not (s || e || a)) ≡ true → said x q ru a c s e ≡ when (not ru) (tell 23 (R r) 1)
      of x q ru a false s e h = never h
      of x q ru a true true e h = never h
      of x q ru a true false true h = never h
      of x q ru true true false false h = never h
      of true q true false true false false h = refl
      of false q true false true false false h = refl
      of true q false false true false false h = refl
      of false q false false true false false h = refl

  -- ## Arrays: the source refuses all that the book does, and more

  -- of a plain element: CxxString, an alias that nothing requires trivial, and a RustType's name
  pub array-is : kind s r ≡ Array → plain s r ≡ true
      → tells 24 (check_type s t r) ≡ (is_string || forbidden s t r || (in_cxx && not in_structs && not in_enums && in_aliases && not is_trivial) || in_rust)
  unfolding check_type type_checks check_type_array is_unsized_ident opaque_cxx is_shared holds_no_cxx holds_no_rust is_extern extern_in is_cxx
      is_struct is_enum
  array-is k e =
      rw (forbids-cxx s t r Array k refl refl, k, e)
      (simp (has-when, and-true, unsized-plain Array refl k e) (of is_string is_trivial in_rust in_aliases in_cxx in_structs in_enums))
    where
      of : (x q ru a c s e : Bool)
          → (x || (c && not s && not e && not (a && q)) || ru) ≡ (x || (true && (c && not (s || e || a))) || (c && not s && not e && a && not q) || ru)
      of true q ru a c s e = refl
      of false q ru a false s e = refl
      of false q ru a true true e = refl
      of false q ru a true false true = refl
      of false q ru true true false false = refl
      of false q ru false true false false = refl

  pub array-refused : kind s r ≡ Array → forbidden s t r ≡ true → tells 24 (check_type s t r) ≡ true
  unfolding holds_no_cxx holds_no_rust
  array-refused k f =
      let h = both-are (plain s r) (opaque_cxx t (target s r)) (sym (forbids-cxx s t r Array k refl refl) ∙ f) in
      let alias : Bool = in_cxx && not in_structs && not in_enums && in_aliases && not is_trivial in
      array-is k h.0 ∙ ap (λ c. is_string || c || alias || in_rust) f ∙ of is_string alias in_rust
    where
      of : (x a b : Bool) → (x || true || a || b) ≡ true
      of true a b = refl
      of false a b = refl
