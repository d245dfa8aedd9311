-- What each diagnostic of a row is: one of its kind's messages, at the row, at the Box that a Vec holds, or at an argument of an Fn.
-- Assumes nothing.
use Prim.Native.Nat.{ℕ, zero, suc, ◌≤◌, ◌<◌}
use mathlib.Core.Path.{◌≡◌, refl}
use mathlib.Core.Logic.{◌⊎◌, inl, inr}
use mathlib.Core.Bool.{Bool, true, ◌&&◌}
use mathlib.Core.List.{List, [], ◌∷◌}
use native.Mathlib.Omega.{arith}
use lib.Dec.{T, leb, leb→le}
use lib.ListN.{get_or}
use Rattle.rules.specs.Numbers.{Ident, RustVec, Fn}
use Rattle.rules.specs.declared.Place.{Place}
use Rattle.rules.specs.declared.Place.TheVariants.{R, G, I, F, A, O, D, L}
use Rattle.rules.specs.declared.Diagnostic.{Diagnostic}
use Rattle.rules.specs.Diagnostics.{tell}
use Rattle.rules.specs.View.{kind, is, row_name, inner, fn_arg_count}
use Rattle.rules.specs.Types.{Types, is_extern}
use Rattle.rules.specs.Check as K
use Rattle.laws.proofs.Base.Tests.{and_left, and_right, bit_le}
use Rattle.laws.proofs.Base.Forms.{All, none, more, ◌&◌, branch, loop, said}

abbrev pub between : (low high m : ℕ) → Bool
between a b m = leb a m && leb m b

-- the first and the last message of a row, by its kind: a Str and a Void have none
unfoldable pub row_table : List (ℕ × ℕ)
row_table = (3, 3) ∷ (4, 5) ∷ (4, 7) ∷ (8, 9) ∷ (10, 12) ∷ (13, 15) ∷ (16, 17) ∷ (18, 20) ∷ (21, 22) ∷ (3, 2) ∷ (23, 23) ∷ (24, 24) ∷ (25, 26) ∷ (3, 2) ∷ []

unfoldable pub row_messages : (kind m : ℕ) → Bool
row_messages k m = let r = get_or row_table k (3, 2) in between r.0 r.1 m

module _ (s : List ℕ) (r : ℕ) where
  -- the row, or the Box that a Vec holds; an argument of an Fn
  abbrev pub RowPlace : Place → Type 0
  RowPlace (R q) = (q ≡ r) ⊎ ((kind s r ≡ RustVec) × (q ≡ inner s r))
  RowPlace (G q j) = (q ≡ r) × (kind s r ≡ Fn) × (j < fn_arg_count s r)
  RowPlace (I i) = ⊥
  RowPlace (F i j) = ⊥
  RowPlace (A i j) = ⊥
  RowPlace (O i) = ⊥
  RowPlace (D i j) = ⊥
  RowPlace (L i j) = ⊥

  pub record OfRow (low high : ℕ) (d : Diagnostic) : Type 0 where
    pub message : T (between low high d.message)
    pub place : RowPlace d.place
    pub detail : d.detail ≤ 1

module _ (s : List ℕ) (t : Types) (r : ℕ) where
  -- one diagnostic, with a detail and without
  told : {low high : ℕ} (m : ℕ) {p : Place} (x : ℕ) → x ≤ 1 → T (between low high m) → RowPlace s r p → All (OfRow s r low high) (tell m p x)
  told m x l h q = more (record { message = h; place = q; detail = l }) none

  at : {low high : ℕ} (m : ℕ) {p : Place} → T (between low high m) → RowPlace s r p → All (OfRow s r low high) (tell m p 0)
  at m h q = told m 0 (omega arith) h q

  here : {low high : ℕ} (m : ℕ) → T (between low high m) → All (OfRow s r low high) (tell m (R r) 0)
  here m h = at m h (inl refl)

  ident : All (OfRow s r 3 3) (K.check_type_ident s t r)
  unfolding K.check_type_ident
  ident = said _ (here 3 tt)

  box : All (OfRow s r 4 5) (K.check_type_box s t r)
  unfolding K.check_type_box
  box = said _ (here 4 tt) & said _ (here 5 tt)

  -- a Box inside a Vec is checked at the Box's row
  vec : kind s r ≡ RustVec → All (OfRow s r 4 7) (K.check_type_rust_vec s t r)
  unfolding K.check_type_rust_vec K.check_type_box
  vec e =
      branch _ (here 6 tt) (branch _ none (branch _ none (branch _ (said _ (at 4 tt (inr (e, refl))) & said _ (at 5 tt (inr (e, refl)))) (here 7 tt))))

  unique : All (OfRow s r 8 9) (K.check_type_unique_ptr s t r)
  unfolding K.check_type_unique_ptr
  unique = branch _ (here 8 tt) (branch _ none (branch _ none (here 9 tt)))

  shared : All (OfRow s r 10 12) (K.check_type_shared_ptr s t r)
  unfolding K.check_type_shared_ptr K.check_counted_ptr
  shared = branch _ (here 10 tt) (branch _ none (branch _ (here 11 tt) (here 12 tt)))

  weak : All (OfRow s r 13 15) (K.check_type_weak_ptr s t r)
  unfolding K.check_type_weak_ptr K.check_counted_ptr
  weak = branch _ (here 13 tt) (branch _ none (branch _ (here 14 tt) (here 15 tt)))

  vector : All (OfRow s r 16 17) (K.check_type_cxx_vector s t r)
  unfolding K.check_type_cxx_vector
  vector = branch _ (here 16 tt) (branch _ none (here 17 tt))

  ref : All (OfRow s r 18 20) (K.check_type_ref s t r)
  unfolding K.check_type_ref
  ref = said _ (here 18 tt) & said _ (here 19 tt) & said _ (here 20 tt)

  ptr : All (OfRow s r 21 22) (K.check_type_ptr s t r)
  unfolding K.check_type_ptr
  ptr = said _ (here 21 tt) & said _ (here 22 tt)

  slice : All (OfRow s r 23 23) (K.check_type_slice_ref s t r)
  unfolding K.check_type_slice_ref
  slice =
      let n = row_name s (inner s r) in
      said _ (told 23 _ (bit_le (is s Ident (inner s r) && is_extern t n)) tt (inl refl))

  array : All (OfRow s r 24 24) (K.check_type_array s t r)
  unfolding K.check_type_array
  array = said _ (here 24 tt)

  fn : kind s r ≡ Fn → All (OfRow s r 25 26) (K.check_type_fn s t r)
  unfolding K.check_type_fn
  fn e = said _ (here 25 tt) & loop _ _ (λ j l. said _ (at 26 tt (refl, e, l)))

  pub no_row : {P : Diagnostic → Type 0} → All P (K.no_check s t r)
  unfolding K.no_check
  no_row = none

  by_kind : (k : ℕ) → kind s r ≡ k → All (OfRow s r (get_or row_table k (3, 2)).0 (get_or row_table k (3, 2)).1)
      (get_or (K.type_checks s t) k (K.no_check s t) r)
  unfolding row_table K.type_checks
  by_kind zero e = ident
  by_kind (suc zero) e = box
  by_kind (suc (suc zero)) e = vec e
  by_kind (suc (suc (suc zero))) e = unique
  by_kind (suc (suc (suc (suc zero)))) e = shared
  by_kind (suc (suc (suc (suc (suc zero))))) e = weak
  by_kind (suc (suc (suc (suc (suc (suc zero)))))) e = vector
  by_kind (suc (suc (suc (suc (suc (suc (suc zero))))))) e = ref
  by_kind (suc (suc (suc (suc (suc (suc (suc (suc zero)))))))) e = ptr
  by_kind (suc (suc (suc (suc (suc (suc (suc (suc (suc zero))))))))) e = no_row
  by_kind (suc (suc (suc (suc (suc (suc (suc (suc (suc (suc zero)))))))))) e = slice
  by_kind (suc (suc (suc (suc (suc (suc (suc (suc (suc (suc (suc zero))))))))))) e = array
  by_kind (suc (suc (suc (suc (suc (suc (suc (suc (suc (suc (suc (suc zero)))))))))))) e = fn e
  by_kind (suc (suc (suc (suc (suc (suc (suc (suc (suc (suc (suc (suc (suc zero))))))))))))) e = no_row
  by_kind (suc (suc (suc (suc (suc (suc (suc (suc (suc (suc (suc (suc (suc (suc k)))))))))))))) e = no_row

  pub row_told : All (OfRow s r (get_or row_table (kind s r) (3, 2)).0 (get_or row_table (kind s r) (3, 2)).1) (K.check_type s t r)
  unfolding K.check_type
  row_told = by_kind (kind s r) refl

-- every row is within 3 to 26: one computed test of the table
pub row_within : (k : ℕ) → (3 ≤ (get_or row_table k (3, 2)).0) × ((get_or row_table k (3, 2)).1 ≤ 26)
unfolding row_table
row_within k = go row_table tt k
  where
    fits : ℕ × ℕ → Bool
    fits m = leb 3 m.0 && leb m.1 26

    every : List (ℕ × ℕ) → Bool
    every [] = true
    every (m ∷ ms) = fits m && every ms

    go : (ms : List (ℕ × ℕ)) → T (every ms) → (k : ℕ) → (3 ≤ (get_or ms k (3, 2)).0) × ((get_or ms k (3, 2)).1 ≤ 26)
    go [] h k = (omega arith, omega arith)
    go (m ∷ ms) h zero =
        let f = and_left (fits m) (every ms) h in
        (leb→le 3 m.0 (and_left (leb 3 m.0) (leb m.1 26) f), leb→le m.1 26 (and_right (leb 3 m.0) (leb m.1 26) f))
    go (m ∷ ms) h (suc k) = go ms (and_right (fits m) (every ms) h) k

-- a message between two is no smaller and no larger
pub between_is : (a b m : ℕ) → T (between a b m) → (a ≤ m) × (m ≤ b)
between_is a b m t = (leb→le a m (and_left (leb a m) (leb m b) t), leb→le m b (and_right (leb a m) (leb m b) t))

pub row-range : (s : List ℕ) (r : ℕ) {d : Diagnostic} → OfRow s r (get_or row_table (kind s r) (3, 2)).0 (get_or row_table (kind s r) (3, 2)).1 d
    → (3 ≤ d.message) × (d.message ≤ 26)
row-range s r {d} h =
    let m = get_or row_table (kind s r) (3, 2) in
    let w = row_within (kind s r) in
    let b = between_is m.0 m.1 d.message h.message in
    (omega (arith, w.0, b.0), omega (arith, w.1, b.1))
