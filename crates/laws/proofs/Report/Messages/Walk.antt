-- What each diagnostic of the walk is: message 2, at a field of a struct item.
-- Assumes nothing.
use Prim.Native.Nat.{ℕ, zero, suc, ◌≤◌, ◌<◌}
use mathlib.Core.Path.{◌≡◌, refl, sym, subst}
use mathlib.Core.Bool.{Bool, true, false}
use mathlib.Core.List.{List}
use native.Mathlib.Omega.{arith}
use lib.Dec.{T, eqb}
use lib.ListN.{get_or, set}
use Rattle.rules.specs.declared.Place.{Place}
use Rattle.rules.specs.declared.Place.TheVariants.{R, G, I, F, A, O, D, L}
use Rattle.rules.specs.declared.Diagnostic.{Diagnostic}
use Rattle.rules.specs.Graph.{Graph}
use Rattle.rules.specs.Walk.{Out, still, blame, blamed, seen, finished, field_out, fields_out, visit_out, item_out, items_out, sort_out}
use Rattle.laws.proofs.Graph.Chains.{Good}
use Rattle.laws.proofs.Base.Counts.{eqb-false}
use Rattle.laws.proofs.Base.Forms.{All, none, more, ◌&◌}

module _ (H : Graph) where
  abbrev pub FieldPlace : Place → Type 0
  FieldPlace (R r) = ⊥
  FieldPlace (G r j) = ⊥
  FieldPlace (I i) = ⊥
  FieldPlace (F i j) = T (H.struct i) × (j < H.fields i)
  FieldPlace (A i j) = ⊥
  FieldPlace (O i) = ⊥
  FieldPlace (D i j) = ⊥
  FieldPlace (L i j) = ⊥

  pub record OfField (d : Diagnostic) : Type 0 where
    pub message : d.message ≡ 2
    pub place : FieldPlace d.place
    pub detail : d.detail ≡ 0

module _ (H : Graph) (n : ℕ) (good : Good H n) where
  abbrev Told : List Diagnostic → Type 0
  Told ds = All (OfField H) ds

  abbrev Visits : (List ℕ → ℕ → Out) → Type 0
  Visits v = (m : List ℕ) (j : ℕ) → T (H.struct j) → Told (v m j).errors

  blame-told : (b : Bool) (i k : ℕ) → T (H.struct i) → k < H.fields i → Told (blame b i k)
  blame-told true i k si l = none
  blame-told false i k si l = more {x = record { message = 2; place = F i k; detail = 0 }} (record { message = refl; place = (si, l); detail = refl }) none

  field_told : (v : List ℕ → ℕ → Out) → Visits v → (i k : ℕ) → T (H.struct i) → k < H.fields i → (m : List ℕ) → Told (field_out v H i k m).errors
  unfolding field_out
  field_told v h i k si l m = go (eqb (H.to i k) 255) refl
    where
      go : (b : Bool) → eqb (H.to i k) 255 ≡ b → Told (elim b as (λ _. Out) [ true ↦ still m | false ↦ blamed i k (v m (H.to i k)) ]).errors
      go true e = none
      go false e = h m (H.to i k) (good.closed i k l (eqb-false (H.to i k) 255 e)) & blame-told (v m (H.to i k)).ok i k si l

  fields_told : (v : List ℕ → ℕ → Out) → Visits v → (i k : ℕ) → T (H.struct i) → k ≤ H.fields i → (m : List ℕ) → Told (fields_out v H i k m).errors
  unfolding fields_out
  fields_told v h i zero si l m = none
  fields_told v h i (suc k) si l m = fields_told v h i k si (omega arith) m & field_told v h i k si (omega arith) (fields_out v H i k m).marks

  visit-told : (f : ℕ) → Visits (visit_out f H)
  unfolding visit_out
  visit-told zero m i si = none
  visit-told (suc f) m i si = go (eqb (get_or m i 0) 0) (visit-told f)
    where
      fields : Out
      fields = fields_out (visit_out f H) H i (H.fields i) (set m i 1)

      go : (b : Bool) → Visits (visit_out f H) → Told (elim b as (λ _. Out) [ true ↦ finished i fields | false ↦ seen (eqb (get_or m i 0) 2) m ]).errors
      go true h = fields_told (visit_out f H) h i (H.fields i) si (omega arith) (set m i 1)
      go false h = none

  item-told : (f i : ℕ) (m : List ℕ) → Told (item_out f H i m).errors
  unfolding item_out
  item-told f i m = go (H.struct i) refl
    where
      go : (b : Bool) → H.struct i ≡ b → Told (elim b as (λ _. Out) [ true ↦ visit_out f H m i | false ↦ still m ]).errors
      go true e = visit-told f m i (subst T (sym e) tt)
      go false e = none

  items-told : (f i : ℕ) (m : List ℕ) → Told (items_out f H i m).errors
  unfolding items_out
  items-told f zero m = none
  items-told f (suc i) m = items-told f i m & item-told f i (items_out f H i m).marks

  pub walk-told : All (OfField H) (sort_out H n).errors
  unfolding sort_out
  walk-told = items-told (suc n) n _
