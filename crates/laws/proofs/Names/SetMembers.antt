-- A name is in a set of collected names exactly where an item that enters the set bears it.
-- Assumes nothing.
use Prim.Native.Nat.{ℕ, zero, suc, ◌<◌}
use mathlib.Core.Path.{◌≡◌, refl, sym, ap, ◌∙◌, subst}
use mathlib.Core.Logic.{◌↔◌, ◌⊎◌, inl, inr}
use mathlib.Core.Bool.{Bool, true, false, not, ◌||◌}
use mathlib.Core.List.{List}
use native.Mathlib.Omega.{arith}
use lib.Dec.{T, eqb, eqb→eq, eqb_refl}
use lib.ListN.{length}
use Rattle.rules.specs.Numbers.{Struct, Enum, CxxType, RustType, TypeAlias}
use Rattle.rules.specs.Names.{Words, add, ◌∋◌}
use Rattle.rules.specs.Format.{Accepted}
use Rattle.rules.specs.View.{type_kind, items, item_kind, item_is, is_enum_item, item_name, type_trusted}
use Rattle.rules.specs.Collect.{names_to, enters_structs, enters_enums, enters_cxx, enters_rust, enters_aliases, enters_untrusted}
use Rattle.rules.specs.Types.{types_of, is_struct, is_enum, is_cxx, is_rust, is_alias, is_untrusted}
use Rattle.rules.specs.Rule3.{Borne}
use Rattle.laws.proofs.Base.Counts.{Eq?, same, other, eq?}
use Rattle.laws.proofs.Names.NameSets.{has-add, length-add, has-empty}
use Rattle.laws.proofs.Names.LastItems.{kind-type}
use Rattle.laws.proofs.Sheet.Accepted.{type-named}
use Rattle.laws.proofs.Base.Tests.{or_cases, or_left, or_right, and_left}

-- one of the first k items that pass bears the name n
pub record Member (s : List ℕ) (p : ℕ → Bool) (k n : ℕ) : Type 0 where
  pub item : ℕ
  pub below : item < k
  pub passes : T (p item)
  pub bears : item_name s item ≡ n

module _ (s : List ℕ) (p : ℕ → Bool) where
  pub length-names : (k : ℕ) → length (names_to s p k) ≡ 4
  unfolding names_to
  length-names zero = refl
  length-names (suc k) = go (p k) (length-names k)
    where
      go : (b : Bool) → length (names_to s p k) ≡ 4
          → length {A = ℕ} (elim b as (λ _. Words) [ true ↦ add (names_to s p k) (item_name s k) | false ↦ names_to s p k ]) ≡ 4
      go true h = length-add (names_to s p k) (item_name s k) ∙ h
      go false h = h

  wider : {k n : ℕ} → Member s p k n → Member s p (suc k) n
  wider {k} m = let l : m.item < k = m.below in record { item = m.item; below = omega arith; passes = m.passes; bears = m.bears }

  pub member_is : (k : ℕ) → ((i : ℕ) → i < k → T (p i) → item_name s i < 256) → (n : ℕ) → T (names_to s p k ∋ n) ↔ Member s p k n
  unfolding names_to
  member_is zero h n = (λ t. absurd (subst T (has-empty n) t), λ m. let l : m.item < 0 = m.below in absurd (omega arith))
  member_is (suc k) h n = go (p k) refl (member_is k (λ i l. h i (omega arith)) n)
    where
      w : Words
      w = names_to s p k

      narrow : p k ≡ false → Member s p (suc k) n → Member s p k n
      narrow e m = at m.item m.below m.passes m.bears
        where
          at : (i : ℕ) → i < suc k → T (p i) → item_name s i ≡ n → Member s p k n
          at i l t b = by (eq? i k)
            where
              by : Eq? i k → Member s p k n
              by (same _ d) = absurd (subst T (ap p d ∙ e) t)
              by (other _ d) = record { item = i; below = omega arith; passes = t; bears = b }

      go : (b : Bool) → p k ≡ b → T (w ∋ n) ↔ Member s p k n
          → T ((elim b as (λ _. Words) [ true ↦ add w (item_name s k) | false ↦ w ]) ∋ n) ↔ Member s p (suc k) n
      go false e ih = (λ t. wider (ih.0 t), λ m. ih.1 (narrow e m))
      go true e ih = (λ t. to (or_cases (eqb n (item_name s k)) (w ∋ n) (subst T a t)), λ m. subst T (sym a) (from m))
        where
          tk : T (p k)
          tk = subst T (sym e) tt

          a : (add w (item_name s k) ∋ n) ≡ (eqb n (item_name s k) || w ∋ n)
          a = has-add w (item_name s k) n (length-names k) (h k (omega arith) tk)

          to : T (eqb n (item_name s k)) ⊎ T (w ∋ n) → Member s p (suc k) n
          to (inl t) = record { item = k; below = omega arith; passes = tk; bears = sym (eqb→eq n (item_name s k) t) }
          to (inr t) = wider (ih.0 t)

          from : Member s p (suc k) n → T (eqb n (item_name s k) || w ∋ n)
          from m = by (eq? m.item k)
            where
              by : Eq? m.item k → T (eqb n (item_name s k) || w ∋ n)
              by (same _ d) =
                  or_left (eqb n (item_name s k)) (w ∋ n)
                  (subst (λ (x : ℕ). T (eqb x (item_name s k))) (ap (item_name s) (sym d) ∙ m.bears) (eqb_refl (item_name s k)))
              by (other _ d) =
                  let l : m.item < suc k = m.below in
                  or_right (eqb n (item_name s k)) (w ∋ n) (ih.1 (record { item = m.item; below = omega arith; passes = m.passes; bears = m.bears }))

-- ## The sets of a sheet

module _ (s : List ℕ) (acc : Accepted s) where
  -- of a test that asks for one kind
  of-kind : (k : ℕ) → T (type_kind k) → (p : ℕ → Bool) → ((i : ℕ) → T (p i) ↔ (item_kind s i ≡ k)) → (n : ℕ)
      → T (names_to s p (items s) ∋ n) ↔ Borne s k n
  of-kind k tk p is-p n =
      let r = member_is s p (items s) (λ i l t. type-named s acc i l (kind-type s k tk i ((is-p i).0 t))) n in (
        λ t. let m = r.0 t in record { item = m.item; below = m.below; is_kind = (is-p m.item).0 m.passes; bears = m.bears },
        λ b. r.1 (record { item = b.item; below = b.below; passes = (is-p b.item).1 b.is_kind; bears = b.bears }),
      )

  kind-is : (k i : ℕ) → T (item_is s k i) ↔ (item_kind s i ≡ k)
  unfolding item_is
  kind-is k i = (λ t. eqb→eq (item_kind s i) k t, λ e. subst (λ (x : ℕ). T (eqb x k)) (sym e) (eqb_refl k))

  enum_is : (i : ℕ) → T (is_enum_item s i) ↔ (item_kind s i ≡ Enum)
  unfolding is_enum_item
  enum_is i = (λ t. eqb→eq (item_kind s i) Enum t, λ e. subst (λ (x : ℕ). T (eqb x Enum)) (sym e) (eqb_refl Enum))

  pub structs-are : (n : ℕ) → T (is_struct (types_of s) n) ↔ Borne s Struct n
  unfolding types_of is_struct enters_structs
  structs-are n = of-kind Struct tt (enters_structs s) (λ i. kind-is Struct i) n

  pub rust-are : (n : ℕ) → T (is_rust (types_of s) n) ↔ Borne s RustType n
  unfolding types_of is_rust enters_rust
  rust-are n = of-kind RustType tt (enters_rust s) (λ i. kind-is RustType i) n

  pub aliases-are : (n : ℕ) → T (is_alias (types_of s) n) ↔ Borne s TypeAlias n
  unfolding types_of is_alias enters_aliases
  aliases-are n = of-kind TypeAlias tt (enters_aliases s) (λ i. kind-is TypeAlias i) n

  pub enums-are : (n : ℕ) → T (is_enum (types_of s) n) ↔ Borne s Enum n
  unfolding types_of is_enum enters_enums
  enums-are n = of-kind Enum tt (enters_enums s) (λ i. enum_is i) n

  -- an alias enters cxx too
  pub cxx-are : (n : ℕ) → T (is_cxx (types_of s) n) ↔ (Borne s CxxType n ⊎ Borne s TypeAlias n)
  unfolding types_of is_cxx enters_cxx
  cxx-are n = (λ t. to (r.0 t), λ b. r.1 (from b))
    where
      cases : (i : ℕ) → T (item_is s CxxType i || item_is s TypeAlias i) → (item_kind s i ≡ CxxType) ⊎ (item_kind s i ≡ TypeAlias)
      cases i t = by (or_cases (item_is s CxxType i) (item_is s TypeAlias i) t)
        where
          by : T (item_is s CxxType i) ⊎ T (item_is s TypeAlias i) → (item_kind s i ≡ CxxType) ⊎ (item_kind s i ≡ TypeAlias)
          by (inl u) = inl ((kind-is CxxType i).0 u)
          by (inr u) = inr ((kind-is TypeAlias i).0 u)

      small : (i : ℕ) → i < items s → (item_kind s i ≡ CxxType) ⊎ (item_kind s i ≡ TypeAlias) → item_name s i < 256
      small i l (inl e) = type-named s acc i l (kind-type s CxxType tt i e)
      small i l (inr e) = type-named s acc i l (kind-type s TypeAlias tt i e)

      r : T (names_to s (enters_cxx s) (items s) ∋ n) ↔ Member s (enters_cxx s) (items s) n
      r = member_is s (enters_cxx s) (items s) (λ i l t. small i l (cases i t)) n

      to : Member s (enters_cxx s) (items s) n → Borne s CxxType n ⊎ Borne s TypeAlias n
      to m = by (cases m.item m.passes)
        where
          by : (item_kind s m.item ≡ CxxType) ⊎ (item_kind s m.item ≡ TypeAlias) → Borne s CxxType n ⊎ Borne s TypeAlias n
          by (inl e) = inl (record { item = m.item; below = m.below; is_kind = e; bears = m.bears })
          by (inr e) = inr (record { item = m.item; below = m.below; is_kind = e; bears = m.bears })

      from : Borne s CxxType n ⊎ Borne s TypeAlias n → Member s (enters_cxx s) (items s) n
      from (inl b) =
          record {
            item = b.item;
            below = b.below;
            passes = or_left (item_is s CxxType b.item) (item_is s TypeAlias b.item) ((kind-is CxxType b.item).1 b.is_kind);
            bears = b.bears;
          }
      from (inr b) =
          record {
            item = b.item;
            below = b.below;
            passes = or_right (item_is s CxxType b.item) (item_is s TypeAlias b.item) ((kind-is TypeAlias b.item).1 b.is_kind);
            bears = b.bears;
          }

  pub untrusted-are : (n : ℕ) → T (is_untrusted (types_of s) n) ↔ Member s (enters_untrusted s) (items s) n
  unfolding types_of is_untrusted enters_untrusted
  untrusted-are n =
      member_is s (enters_untrusted s) (items s)
      (λ i l t. type-named s acc i l (kind-type s CxxType tt i ((kind-is CxxType i).0 (and_left (item_is s CxxType i) (not (type_trusted s i)) t)))) n

  pub borne-small : (k : ℕ) → T (type_kind k) → (n : ℕ) → Borne s k n → n < 256
  borne-small k tk n b = subst (λ (x : ℕ). x < 256) b.bears (type-named s acc b.item b.below (kind-type s k tk b.item b.is_kind))
