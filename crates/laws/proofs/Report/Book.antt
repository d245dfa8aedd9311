-- Where the book's rules on opaque targets and the source's messages agree, and where they part, kind by kind and exactly (Targets, Slices); and both ways for
-- every row of an accepted sheet: what the book forbids has its message, but for one shape (`refused`), and the messages mean it, but for one (`says-4` to
-- `says-16`).
-- Assumes nothing.
pub mod Targets
pub mod Slices
pub mod Twice
use Prim.Native.Nat.{ℕ, ◌<◌}
use mathlib.Core.Path.{◌≡◌, refl, sym, ap, ◌∙◌, subst}
use mathlib.Core.Logic.{◌⊎◌, inl, inr}
use mathlib.Core.Bool.{Bool, true, false, not, ◌&&◌, ◌||◌}
use mathlib.Core.List.{List, [], ◌∷◌}
use lib.Dec.{T, eqb}
use lib.ListN.{get_or}
use borrow.Author.Tests.{eqb-true}
use Rattle.rules.specs.Numbers.{RustBox, RustVec, UniquePtr, SharedPtr, WeakPtr, CxxVector, SliceRef, Array}
use Rattle.rules.specs.declared.Place.TheVariants.{R}
use Rattle.rules.specs.Base.{some}
use Rattle.rules.specs.Diagnostics.{tell, when}
use Rattle.rules.specs.Format.{Accepted}
use Rattle.rules.specs.View.{rows, kind, is, inner}
use Rattle.rules.specs.Types.{Types, is_rust}
use Rattle.rules.specs.Check.{check_type}
use Rattle.rules.specs.Book.{is_shared, holds_no_cxx, holds_no_rust, forbidden}
use Rattle.laws.specs.Tells.{has, tells}
use Rattle.laws.proofs.Base.Tests.{never, is_true, holds, or_is, both-are, implied, all_pass}
use Rattle.laws.proofs.Report.Tells.{tells-some}
use Rattle.laws.proofs.Base.Tests.{and-false}
use Rattle.laws.proofs.Base.Forms.{all-some}
use Rattle.laws.proofs.Report.Messages.Rows.{between, row_table, row_messages, row_told}
use Rattle.laws.proofs.Sheet.Accepted.Rows.{row_of}
use Targets.{plain, target, is_kind, forbidden-by, Rust, box-is, vec-is, vec-box, unique-is, shared-is, weak-is, vector-is}
use Slices.{slice-refused, array-refused}

-- the message of a forbidden target, by kinds
unfoldable pub target_message : (kind : ℕ) → ℕ
target_message k = get_or (0 ∷ 4 ∷ 6 ∷ 8 ∷ 10 ∷ 13 ∷ 16 ∷ 0 ∷ 0 ∷ 0 ∷ 23 ∷ 24 ∷ []) k 0

module _ (s : List ℕ) (acc : Accepted s) (t : Types) (r : ℕ) (l : r < rows s) where
  -- ### What the book forbids has its message, except a slice of a name that a RustType declares too

  abbrev pub Refused : Type 0
  Refused = (tells (target_message (kind s r)) (check_type s t r) ≡ true) ⊎ ((kind s r ≡ SliceRef) × (is_rust t (target s r) ≡ true))

  by_kind : (k m : ℕ) → target_message k ≡ m → kind s r ≡ k → tells m (check_type s t r) ≡ true → Refused
  by_kind k m e q h = inl (ap (λ n. tells n (check_type s t r)) (ap target_message q ∙ e) ∙ h)

  slice-by : (b : Bool) → is_rust t (target s r) ≡ b → kind s r ≡ SliceRef → forbidden s t r ≡ true → Refused
  unfolding target_message has when
  slice-by true e q f = inr (q, e)
  slice-by false e q f = by_kind SliceRef 23 refl q (ap (tells 23) (slice-refused s acc t r l q f ∙ ap (λ b. when (not b) (tell 23 (R r) 1)) e))

  rust-by : (k m : ℕ) → target_message k ≡ m → kind s r ≡ k → Rust s t r m → forbidden s t r ≡ true → Refused
  rust-by k m e q h f = by_kind k m e q (h.tells_is ∙ ap (λ b. b || (plain s r && is_rust t (target s r) && is_shared t (target s r))) f)

  cxx-kinds : (a b c d : Bool) → eqb (kind s r) RustBox ≡ a → eqb (kind s r) RustVec ≡ b → eqb (kind s r) SliceRef ≡ c → eqb (kind s r) Array ≡ d
      → (a || b || c || d) ≡ true
      → forbidden s t r ≡ true → Refused
  unfolding target_message
  cxx-kinds true b c d e _ _ _ h f = let q = eqb-true (kind s r) RustBox e in by_kind RustBox 4 refl q (box-is s t r q ∙ f)
  cxx-kinds false true c d _ e _ _ h f = let q = eqb-true (kind s r) RustVec e in by_kind RustVec 6 refl q (vec-is s t r q ∙ f)
  cxx-kinds false false true d _ _ e _ h f = slice-by (is_rust t (target s r)) refl (eqb-true (kind s r) SliceRef e) f
  cxx-kinds false false false true _ _ _ e h f = let q = eqb-true (kind s r) Array e in by_kind Array 24 refl q (array-refused s acc t r l q f)
  cxx-kinds false false false false _ _ _ _ h f = never h

  rust-kinds : (a b c d : Bool) → eqb (kind s r) UniquePtr ≡ a → eqb (kind s r) SharedPtr ≡ b → eqb (kind s r) WeakPtr ≡ c → eqb (kind s r) CxxVector ≡ d
      → (a || b || c || d) ≡ true
      → forbidden s t r ≡ true → Refused
  unfolding target_message
  rust-kinds true b c d e _ _ _ h f = let q = eqb-true (kind s r) UniquePtr e in rust-by UniquePtr 8 refl q (unique-is s t r q) f
  rust-kinds false true c d _ e _ _ h f = let q = eqb-true (kind s r) SharedPtr e in rust-by SharedPtr 10 refl q (shared-is s t r q) f
  rust-kinds false false true d _ _ e _ h f = let q = eqb-true (kind s r) WeakPtr e in rust-by WeakPtr 13 refl q (weak-is s t r q) f
  rust-kinds false false false true _ _ _ e h f = let q = eqb-true (kind s r) CxxVector e in rust-by CxxVector 16 refl q (vector-is s t r q) f
  rust-kinds false false false false _ _ _ _ h f = never h

  pub refused : forbidden s t r ≡ true → Refused
  unfolding holds_no_cxx holds_no_rust
  refused f = go (holds_no_cxx (kind s r)) (holds_no_rust (kind s r)) refl refl
    where
      k : ℕ
      k = kind s r

      go : (a b : Bool) → holds_no_cxx k ≡ a → holds_no_rust k ≡ b → Refused
      go true b e _ = cxx-kinds (eqb k RustBox) (eqb k RustVec) (eqb k SliceRef) (eqb k Array) refl refl refl refl e f
      go false true _ e = rust-kinds (eqb k UniquePtr) (eqb k SharedPtr) (eqb k WeakPtr) (eqb k CxxVector) refl refl refl refl e f
      go false false e d = never (sym (and-false (plain s r)) ∙ sym (forbidden-by s t r false false e d) ∙ f)

  -- ### Messages 4, 6, 8, 10, 13 and 16 mean it, except the shapes that are named

  -- which kinds have a message: one computed test
  said-among : (m : ℕ) (q : ℕ → Bool) → some 14 (λ x. not (not (row_messages x m) || q x)) ≡ false → tells m (check_type s t r) ≡ true → q (kind s r) ≡ true
  unfolding row_messages
  said-among m q test h =
      let u : T (row_messages (kind s r) m) =
      all-some (λ d p e. passes d.message e p.message) (row_told s t r) (tells-some m (check_type s t r) (holds h)) in
      let v = all_pass 14 (λ x. not (row_messages x m) || q x) test (kind s r) (row_of s acc r l).known in
      implied (row_messages (kind s r) m) (q (kind s r)) v (is_true (row_messages (kind s r) m) u)
    where
      passes : (x : ℕ) → x ≡ m → T (between (get_or row_table (kind s r) (3, 2)).0 (get_or row_table (kind s r) (3, 2)).1 x) → T (row_messages (kind s r) m)
      passes x e u = subst (λ (y : ℕ). T (row_messages (kind s r) y)) e u

  said-by : (m k : ℕ) → some 14 (λ x. not (not (row_messages x m) || eqb x k)) ≡ false → tells m (check_type s t r) ≡ true → kind s r ≡ k
  said-by m k test h = eqb-true (kind s r) k (said-among m (λ x. eqb x k) test h)

  -- at a Box, or at a Vec of such a Box
  pub says-4 : tells 4 (check_type s t r) ≡ true
      → ((kind s r ≡ RustBox) × (forbidden s t r ≡ true)) ⊎ ((kind s r ≡ RustVec) × (kind s (inner s r) ≡ RustBox) × (forbidden s t (inner s r) ≡ true))
  unfolding some row_messages row_table
  says-4 h = go (or_is (eqb (kind s r) RustBox) (eqb (kind s r) RustVec) (said-among 4 (λ x. eqb x RustBox || eqb x RustVec) refl h))
    where
      vec : kind s r ≡ RustVec → (kind s r ≡ RustVec) × (kind s (inner s r) ≡ RustBox) × (forbidden s t (inner s r) ≡ true)
      vec q =
          let b = both-are (is s RustBox (inner s r)) (forbidden s t (inner s r)) (sym (vec-box s t r q) ∙ h) in
          (q, is_kind s RustBox (inner s r) b.0, b.1)

      go : (eqb (kind s r) RustBox ≡ true) ⊎ (eqb (kind s r) RustVec ≡ true)
          → ((kind s r ≡ RustBox) × (forbidden s t r ≡ true)) ⊎ ((kind s r ≡ RustVec) × (kind s (inner s r) ≡ RustBox) × (forbidden s t (inner s r) ≡ true))
      go (inl e) = let q = eqb-true (kind s r) RustBox e in inl (q, sym (box-is s t r q) ∙ h)
      go (inr e) = inr (vec (eqb-true (kind s r) RustVec e))

  pub says-6 : tells 6 (check_type s t r) ≡ true → (kind s r ≡ RustVec) × (forbidden s t r ≡ true)
  unfolding some row_messages row_table
  says-6 h = let q = said-by 6 RustVec refl h in (q, sym (vec-is s t r q) ∙ h)

  -- a RustType's name; forbidden, or a struct, enum or alias shares it
  rust-says : (k m : ℕ) → kind s r ≡ k → Rust s t r m → tells m (check_type s t r) ≡ true
      → (kind s r ≡ k) × ((forbidden s t r ≡ true) ⊎ (is_shared t (target s r) ≡ true))
  rust-says k m q p h = (q, go (is_shared t (target s r)) refl)
    where
      go : (b : Bool) → is_shared t (target s r) ≡ b → (forbidden s t r ≡ true) ⊎ (is_shared t (target s r) ≡ true)
      go true e = inr e
      go false e = inl (p.forbidden-is ∙ ap (λ b. b && not (is_shared t (target s r))) h ∙ ap not e)

  pub says-8 : tells 8 (check_type s t r) ≡ true → (kind s r ≡ UniquePtr) × ((forbidden s t r ≡ true) ⊎ (is_shared t (target s r) ≡ true))
  unfolding some row_messages row_table
  says-8 h = let q = said-by 8 UniquePtr refl h in rust-says UniquePtr 8 q (unique-is s t r q) h

  pub says-10 : tells 10 (check_type s t r) ≡ true → (kind s r ≡ SharedPtr) × ((forbidden s t r ≡ true) ⊎ (is_shared t (target s r) ≡ true))
  unfolding some row_messages row_table
  says-10 h = let q = said-by 10 SharedPtr refl h in rust-says SharedPtr 10 q (shared-is s t r q) h

  pub says-13 : tells 13 (check_type s t r) ≡ true → (kind s r ≡ WeakPtr) × ((forbidden s t r ≡ true) ⊎ (is_shared t (target s r) ≡ true))
  unfolding some row_messages row_table
  says-13 h = let q = said-by 13 WeakPtr refl h in rust-says WeakPtr 13 q (weak-is s t r q) h

  pub says-16 : tells 16 (check_type s t r) ≡ true → (kind s r ≡ CxxVector) × ((forbidden s t r ≡ true) ⊎ (is_shared t (target s r) ≡ true))
  unfolding some row_messages row_table
  says-16 h = let q = said-by 16 CxxVector refl h in rust-says CxxVector 16 q (vector-is s t r q) h
