-- Box, Vec, UniquePtr, SharedPtr, WeakPtr and CxxVector: the message of an opaque target against what the book forbids, exactly.
-- Assumes nothing.
use Prim.Native.Nat.{ℕ}
use mathlib.Core.Path.{◌≡◌, refl, sym, ap, ◌∙◌}
use mathlib.Core.Bool.{Bool, true, false, not, ◌&&◌, ◌||◌}
use mathlib.Core.List.{List}
use borrow.Author.Tests.{eqb-true}
use Rattle.rules.specs.Numbers.{Ident, RustBox, RustVec, UniquePtr, SharedPtr, WeakPtr, CxxVector}
use Rattle.rules.specs.Base.{if'◌then◌else◌}
use Rattle.rules.specs.Names.{◌∋◌}
use Rattle.rules.specs.View.{kind, is, row_name, inner}
use Rattle.rules.specs.Trivial.{extern_in}
use Rattle.rules.specs.Types.{Types, is_struct, is_enum, is_cxx, is_rust, is_alias, is_extern, is_opaque}
use Rattle.rules.specs.Check.{check_type_box, check_type_rust_vec, check_type_unique_ptr, check_type_shared_ptr, check_type_weak_ptr, check_type_cxx_vector}
use Rattle.rules.specs.Check.{check_counted_ptr, type_checks, check_type}
use Rattle.rules.specs.Book.{is_shared, opaque_cxx, opaque_rust, holds_no_cxx, holds_no_rust, forbidden}
use Rattle.laws.specs.Tells.{tells}
use Rattle.laws.proofs.Base.Tests.{or-false, and-true, and-false}
use Rattle.laws.proofs.Report.Tells.{if-test, if_no, if-same, has-append, has_one, has-none, has-when, has-if}

-- Box has 4 and 5 alone
box-silent : (s : List ℕ) (t : Types) (r : ℕ) → tells 6 (check_type_box s t r) ≡ false
unfolding check_type_box
box-silent s t r = simp (has-append, has-when, and-false)

pub is_kind : (s : List ℕ) (k r : ℕ) → is s k r ≡ true → kind s r ≡ k
unfolding is
is_kind s k r e = eqb-true (kind s r) k e

-- the target is a plain name, and which
abbrev pub plain : List ℕ → (r : ℕ) → Bool
plain s r = is s Ident (inner s r)

abbrev pub target : List ℕ → (r : ℕ) → ℕ
target s r = row_name s (inner s r)

-- ## What the book forbids, by kinds

module _ (s : List ℕ) (t : Types) (r : ℕ) where
  pub forbidden-by : (a b : Bool) → holds_no_cxx (kind s r) ≡ a → holds_no_rust (kind s r) ≡ b
      → forbidden s t r ≡ (plain s r && ((a && opaque_cxx t (target s r)) || (b && opaque_rust t (target s r))))
  unfolding forbidden
  forbidden-by a b e d = rw (e, d) refl

  pub forbids-cxx : (k : ℕ) → kind s r ≡ k → holds_no_cxx k ≡ true → holds_no_rust k ≡ false → forbidden s t r ≡ (plain s r && opaque_cxx t (target s r))
  forbids-cxx k e a b =
      forbidden-by true false (ap holds_no_cxx e ∙ a) (ap holds_no_rust e ∙ b) ∙ ap (λ c. plain s r && c) (or-false (opaque_cxx t (target s r)))

  forbids-rust : (k : ℕ) → kind s r ≡ k → holds_no_cxx k ≡ false → holds_no_rust k ≡ true → forbidden s t r ≡ (plain s r && opaque_rust t (target s r))
  forbids-rust k e a b = forbidden-by false true (ap holds_no_cxx e ∙ a) (ap holds_no_rust e ∙ b)

  -- ## Box and Vec: they never part

  -- the source's test of an opaque C++ target
  abbrev cxx_test : Bool
  cxx_test = plain s r && is_opaque t (target s r)

  test-is : cxx_test ≡ (plain s r && opaque_cxx t (target s r))
  unfolding opaque_cxx is_shared is_opaque is_extern extern_in is_cxx is_struct is_enum is_alias
  test-is = of (plain s r) (t.cxx ∋ target s r) (t.structs ∋ target s r) (t.enums ∋ target s r) (t.aliases ∋ target s r)
    where
      of : (p c s e a : Bool) → (p && (c && not s && not e && not a)) ≡ (p && (c && not (s || e || a)))
      of false c s e a = refl
      of true false s e a = refl
      of true true true e a = refl
      of true true false true a = refl
      of true true false false true = refl
      of true true false false false = refl

  box-tells : tells 4 (check_type_box s t r) ≡ cxx_test
  unfolding check_type_box
  box-tells = simp (has-append, has-when, and-true, and-false, or-false)

  vec_tells : tells 6 (check_type_rust_vec s t r) ≡ cxx_test
  unfolding check_type_rust_vec
  vec_tells = simp (has-if, has_one, has-none, box-silent s t (inner s r), if-same, if-test)

  box-by : kind s r ≡ RustBox → tells 4 (check_type_box s t r) ≡ forbidden s t r
  unfolding holds_no_cxx holds_no_rust
  box-by e = box-tells ∙ test-is ∙ sym (forbids-cxx RustBox e refl refl)

  pub box-is : kind s r ≡ RustBox → tells 4 (check_type s t r) ≡ forbidden s t r
  unfolding check_type type_checks
  box-is e = rw e (box-by e)

  pub vec-is : kind s r ≡ RustVec → tells 6 (check_type s t r) ≡ forbidden s t r
  unfolding check_type type_checks holds_no_cxx holds_no_rust
  vec-is e = rw e (vec_tells ∙ test-is ∙ sym (forbids-cxx RustVec e refl refl))

  -- ## UniquePtr, SharedPtr, WeakPtr and CxxVector: the source also refuses a RustType's name that a struct, enum or alias shares

  unique-tells : tells 8 (check_type_unique_ptr s t r) ≡ (plain s r && is_rust t (target s r))
  unfolding check_type_unique_ptr
  unique-tells = simp (has-if, has_one, has-none, if-same, if-test)

  shared-tells : tells 10 (check_type_shared_ptr s t r) ≡ (plain s r && is_rust t (target s r))
  unfolding check_type_shared_ptr check_counted_ptr
  shared-tells = simp (has-if, has_one, has-none, if-same, if-test)

  weak-tells : tells 13 (check_type_weak_ptr s t r) ≡ (plain s r && is_rust t (target s r))
  unfolding check_type_weak_ptr check_counted_ptr
  weak-tells = simp (has-if, has_one, has-none, if-same, if-test)

  vector-tells : tells 16 (check_type_cxx_vector s t r) ≡ (plain s r && is_rust t (target s r))
  unfolding check_type_cxx_vector
  vector-tells = simp (has-if, has_one, has-none, if-same, if-test)

  -- message m is what the book forbids, and that shape; and without that shape it is what the book forbids
  pub record Rust (m : ℕ) : Type 0 where
    pub tells_is : tells m (check_type s t r) ≡ (forbidden s t r || (plain s r && is_rust t (target s r) && is_shared t (target s r)))
    pub forbidden-is : forbidden s t r ≡ (tells m (check_type s t r) && not (is_shared t (target s r)))

  rust-is : (k m : ℕ) → kind s r ≡ k → holds_no_cxx k ≡ false → holds_no_rust k ≡ true → tells m (check_type s t r) ≡ (plain s r && is_rust t (target s r))
      → Rust m
  unfolding opaque_rust
  rust-is k m e a b h =
      let f = forbids-rust k e a b in
      record {
        tells_is =
            h ∙ parts (plain s r) (is_rust t (target s r)) (is_shared t (target s r))
            ∙ ap (λ c. c || (plain s r && is_rust t (target s r) && is_shared t (target s r))) (sym f);
        forbidden-is = f ∙ less (plain s r) (is_rust t (target s r)) (is_shared t (target s r)) ∙ ap (λ c. c && not (is_shared t (target s r))) (sym h);
      }
    where
      parts : (p r h : Bool) → (p && r) ≡ ((p && (r && not h)) || (p && r && h))
      parts false r h = refl
      parts true false h = refl
      parts true true true = refl
      parts true true false = refl

      less : (p r h : Bool) → (p && (r && not h)) ≡ (p && r && not h)
      less false r h = refl
      less true r h = refl

  pub unique-is : kind s r ≡ UniquePtr → Rust 8
  unfolding check_type type_checks holds_no_cxx holds_no_rust
  unique-is e = rust-is UniquePtr 8 e refl refl (rw e unique-tells)

  pub shared-is : kind s r ≡ SharedPtr → Rust 10
  unfolding check_type type_checks holds_no_cxx holds_no_rust
  shared-is e = rust-is SharedPtr 10 e refl refl (rw e shared-tells)

  pub weak-is : kind s r ≡ WeakPtr → Rust 13
  unfolding check_type type_checks holds_no_cxx holds_no_rust
  weak-is e = rust-is WeakPtr 13 e refl refl (rw e weak-tells)

  pub vector-is : kind s r ≡ CxxVector → Rust 16
  unfolding check_type type_checks holds_no_cxx holds_no_rust
  vector-is e = rust-is CxxVector 16 e refl refl (rw e vector-tells)

-- a Vec of a Box has the Box's message too
vec-of-box : (s : List ℕ) (t : Types) (r : ℕ) → kind s (inner s r) ≡ RustBox → check_type_rust_vec s t r ≡ check_type_box s t (inner s r)
unfolding check_type_rust_vec is if'◌then◌else◌
vec-of-box s t r e = rw e refl

vec-no-box : (s : List ℕ) (t : Types) (r : ℕ) → is s RustBox (inner s r) ≡ false → tells 4 (check_type_rust_vec s t r) ≡ false
unfolding check_type_rust_vec
vec-no-box s t r e = simp (e, has-if, has_one, has-none, if_no, if-same)

pub vec-box : (s : List ℕ) (t : Types) (r : ℕ) → kind s r ≡ RustVec
    → tells 4 (check_type s t r) ≡ (is s RustBox (inner s r) && forbidden s t (inner s r))
unfolding check_type type_checks
vec-box s t r k = rw k (go (is s RustBox (inner s r)) refl)
  where
    go : (b : Bool) → is s RustBox (inner s r) ≡ b → tells 4 (check_type_rust_vec s t r) ≡ (b && forbidden s t (inner s r))
    go true e = let q = is_kind s RustBox (inner s r) e in ap (tells 4) (vec-of-box s t r q) ∙ box-by s t (inner s r) q
    go false e = vec-no-box s t r e
