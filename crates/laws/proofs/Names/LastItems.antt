-- The tables of last items: what is computed is what the words of rule 3 say.
-- Assumes nothing.
use Prim.Native.Nat.{ℕ, zero, suc, ◌≤◌, ◌<◌}
use mathlib.Core.Path.{◌≡◌, refl, sym, ap, ◌∙◌, subst}
use mathlib.Core.Logic.{◌≢◌, ◌↔◌}
use mathlib.Core.Bool.{Bool, true, false, ◌&&◌, ◌||◌}
use mathlib.Core.List.{List}
use native.Mathlib.Omega.{arith}
use lib.Dec.{T, eqb, ltb, leb, ltb→lt, lt→ltb, eqb→eq, eqb_refl}
use lib.ListN.{length, get_or, set, length-set, length-replicate, get_or-replicate, get_or-eq_default}
use lib.Seq.{get_or-set_same, get_or-set_other}
use native.Mathlib.Decide.{dec_lt}
use Rattle.rules.specs.Numbers.{Struct, no_item, name_count}
use Rattle.rules.specs.Format.{Accepted}
use Rattle.rules.specs.View.{is_type, items, item_kind, item_is, item_name}
use Rattle.rules.specs.Collect.{last_to, enters_structs}
use Rattle.rules.specs.Types.{types_of, struct_of}
use Rattle.rules.specs.Rule3.{IsStruct, LastStruct}
use Rattle.laws.proofs.Base.Counts.{Eq?, same, other, eq?}
use Rattle.laws.proofs.Base.Tests.{and_left, and_right, and_both}
use Rattle.laws.proofs.Sheet.Accepted.{type-named}

-- an item of a kind that is a type's
pub kind-type : (s : List ℕ) (k : ℕ) → T ((leb 1 k && leb k 4) || eqb k 7) → (i : ℕ) → item_kind s i ≡ k → T (is_type s i)
unfolding is_type
kind-type s k t i e = subst (λ (x : ℕ). T ((leb 1 x && leb x 4) || eqb x 7)) (sym e) t

pub struct-named : (s : List ℕ) → Accepted s → (i : ℕ) → IsStruct s i → item_name s i < name_count
struct-named s acc i h = type-named s acc i h.below (kind-type s Struct tt i h.is_struct)

-- r is the last of the first k items that pass and bear the name n, or there is none
pub data Last (s : List ℕ) (p : ℕ → Bool) (k n : ℕ) : ℕ → Type 0 where
  no_one : ((j : ℕ) → j < k → T (p j) → item_name s j ≢ n) → Last s p k n no_item
  last : {r : ℕ} → r < k → T (p r) → item_name s r ≡ n → ((j : ℕ) → j < k → T (p j) → item_name s j ≡ n → j ≤ r) → Last s p k n r

module _ (s : List ℕ) (p : ℕ → Bool) where
  pub length_last : (k : ℕ) → length (last_to s p k) ≡ name_count
  unfolding last_to
  length_last zero = length-replicate {A = ℕ} name_count no_item
  length_last (suc k) = go (p k) (length_last k)
    where
      go : (b : Bool) → length (last_to s p k) ≡ name_count
          → length {A = ℕ} (elim b as (λ _. List ℕ) [ true ↦ set (last_to s p k) (item_name s k) k | false ↦ last_to s p k ]) ≡ name_count
      go true h = length-set (last_to s p k) (item_name s k) k ∙ h
      go false h = h

  widen : (k n : ℕ) {r : ℕ} → (T (p k) → item_name s k ≢ n) → Last s p k n r → Last s p (suc k) n r
  widen k n h (no_one f) = no_one λ j l t. at j l t (eq? j k)
    where
      at : (j : ℕ) → j < suc k → T (p j) → Eq? j k → item_name s j ≢ n
      at j l t (same _ e) = rw e (h (subst (λ (x : ℕ). T (p x)) e t))
      at j l t (other _ e) = f j (omega arith) t
  widen k n {r} h (last l t e f) = let w : r < suc k = omega arith in last {r = r} w t e λ j m u q. at j m u q (eq? j k)
    where
      at : (j : ℕ) → j < suc k → T (p j) → item_name s j ≡ n → Eq? j k → j ≤ r
      at j m u q (same _ d) = absurd (h (subst (λ (x : ℕ). T (p x)) d u) (subst (λ (x : ℕ). item_name s x ≡ n) d q))
      at j m u q (other _ d) = f j (omega arith) u q

  pub last-is : (k n : ℕ) → n < name_count → Last s p k n (get_or (last_to s p k) n no_item)
  unfolding last_to
  last-is zero n l = subst (λ (x : ℕ). Last s p 0 n x) (sym (get_or-replicate name_count n no_item no_item l)) (no_one λ j m _. absurd (omega arith))
  last-is (suc k) n l = go (p k) refl (eq? n (item_name s k)) (last-is k n l)
    where
      t : List ℕ
      t = last_to s p k

      go : (b : Bool) → p k ≡ b → Eq? n (item_name s k) → Last s p k n (get_or t n no_item)
          → Last s p (suc k) n (get_or (elim b as (λ _. List ℕ) [ true ↦ set t (item_name s k) k | false ↦ t ]) n no_item)
      go true e (same _ q) ih =
          let w : get_or (set t (item_name s k) k) n no_item ≡ k =
          ap (λ x. get_or (set t (item_name s k) k) x no_item) q ∙ get_or-set_same t (item_name s k) k no_item (omega (arith, length_last k)) in
          subst (λ (x : ℕ). Last s p (suc k) n x) (sym w) (last {r = k} (omega arith) (subst T (sym e) tt) (sym q) (λ j m _ _. omega arith))
      go true e (other _ q) ih =
          subst (λ (x : ℕ). Last s p (suc k) n x) (sym (get_or-set_other t (item_name s k) n k no_item q)) (widen k n (λ _ d. q (sym d)) ih)
      go false e q ih = widen k n (λ u. absurd (subst T e u)) ih

-- ## Struct items

module _ (s : List ℕ) where
  pub kind-true : (i : ℕ) → item_kind s i ≡ Struct → T (item_is s Struct i)
  unfolding item_is
  kind-true i e = subst (λ (x : ℕ). T (eqb x 1)) (sym e) (eqb_refl 1)

  pub true-kind : (i : ℕ) → T (item_is s Struct i) → item_kind s i ≡ Struct
  unfolding item_is
  true-kind i t = eqb→eq (item_kind s i) 1 t

  -- as every graph of the sheet has them
  pub struct_is : (i : ℕ) → T (ltb i (items s) && item_is s Struct i) ↔ IsStruct s i
  struct_is i = (
    λ t. record {
      below = ltb→lt i (items s) (and_left (ltb i (items s)) (item_is s Struct i) t);
      is_struct = true-kind i (and_right (ltb i (items s)) (item_is s Struct i) t);
    },
    λ h. and_both (ltb i (items s)) (item_is s Struct i) (lt→ltb i (items s) h.below) (kind-true i h.is_struct),
  )

  -- a name's last struct, as the table has it
  struct-of : (n : ℕ) → n < name_count → Last s (enters_structs s) (items s) n (struct_of (types_of s) n)
  unfolding struct_of types_of
  struct-of n l = last-is s (enters_structs s) (items s) n l

  named_small : (n : ℕ) → struct_of (types_of s) n ≢ no_item → n < name_count
  unfolding struct_of types_of
  named_small n h = go (dec_lt n name_count)
    where
      go : Dec (n < name_count) → n < name_count
      go (yes l) = l
      go (no m) = absurd (h (get_or-eq_default (last_to s (enters_structs s) (items s)) no_item (omega (arith, length_last s (enters_structs s) (items s)))))

  enters : (i : ℕ) → T (enters_structs s i) → item_kind s i ≡ Struct
  unfolding enters_structs
  enters i t = true-kind i t

  pub enters-struct : (i : ℕ) → item_kind s i ≡ Struct → T (enters_structs s i)
  unfolding enters_structs
  enters-struct i e = kind-true i e

  pub of-last : (n i : ℕ) → struct_of (types_of s) n ≡ i → i ≢ no_item → LastStruct s n i
  of-last n i e ne = go (struct_of (types_of s) n) e (struct-of n (named_small n (λ q. ne (sym e ∙ q))))
    where
      go : (r : ℕ) → r ≡ i → Last s (enters_structs s) (items s) n r → LastStruct s n i
      go r q (no_one f) = absurd (ne (sym q))
      go r q (last l t b f) =
          subst (λ (x : ℕ). LastStruct s n x) q
          (record { struct = record { below = l; is_struct = enters r t }; bears = b; last = λ j h d. f j h.below (enters-struct j h.is_struct) d })

  pub last_of : Accepted s → (n i : ℕ) → LastStruct s n i → struct_of (types_of s) n ≡ i
  last_of acc n i h = go (struct_of (types_of s) n) refl (struct-of n (subst (λ (x : ℕ). x < name_count) h.bears (struct-named s acc i h.struct)))
    where
      go : (r : ℕ) → struct_of (types_of s) n ≡ r → Last s (enters_structs s) (items s) n r → struct_of (types_of s) n ≡ i
      go r e (no_one f) = absurd (f i h.struct.below (enters-struct i h.struct.is_struct) h.bears)
      go r e (last l t b f) =
          let a : i ≤ r = f i h.struct.below (enters-struct i h.struct.is_struct) h.bears in
          let c : r ≤ i = h.last r (record { below = l; is_struct = enters r t }) b in
          e ∙ omega arith
