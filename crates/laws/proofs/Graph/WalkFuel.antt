-- Fuel of the walk: more than the number of items not met yet is enough, and how much more does not matter.
-- Assumes nothing.
use mathlib.Core.Path.{◌≡◌, refl, ap, ◌∙◌}
use mathlib.Core.Bool.{Bool, true, false}
use mathlib.Core.List.{List}
use Prim.Native.Nat.{ℕ, zero, suc, ◌≤◌, ◌<◌}
use native.Mathlib.Omega.{arith}
use lib.Dec.{eqb}
use lib.ListN.{length, get_or, set, length-set}
use Rattle.laws.specs.Left.{fresh}
use Rattle.laws.proofs.Base.Counts.{eqb-true, eqb-false, fresh_set, fresh-set-le}
use Rattle.rules.specs.Graph.{Graph}
use Rattle.laws.proofs.Graph.Chains.{Good}
use Rattle.rules.specs.Walk.{Out, still, join, blamed, seen, finished, field_out, fields_out, visit_out}

pub record Shrinks (m m' : List ℕ) : Type 0 where
  pub size : length m' ≡ length m
  pub less : fresh m' ≤ fresh m

stay : (m : List ℕ) → Shrinks m m
stay m = record { size = refl; less = omega arith }

onward : {m m' m'' : List ℕ} → Shrinks m m' → Shrinks m' m'' → Shrinks m m''
onward p q = record { size = q.size ∙ p.size; less = omega (arith, p.less, q.less) }

abbrev pub Down : (List ℕ → ℕ → Out) → Type 0
Down v = (m : List ℕ) (j : ℕ) → Shrinks m (v m j).marks

pub field-shrinks : (v : List ℕ → ℕ → Out) → Down v → (G : Graph) (i k : ℕ) (m : List ℕ) → Shrinks m (field_out v G i k m).marks
unfolding field_out
field-shrinks v h G i k m = go (eqb (G.to i k) 255)
  where
    go : (b : Bool) → Shrinks m (elim b as (λ _. Out) [ true ↦ still m | false ↦ blamed i k (v m (G.to i k)) ]).marks
    go true = stay m
    go false = h m (G.to i k)

pub fields-shrinks : (v : List ℕ → ℕ → Out) → Down v → (G : Graph) (i k : ℕ) (m : List ℕ) → Shrinks m (fields_out v G i k m).marks
unfolding fields_out
fields-shrinks v h G i zero m = stay m
fields-shrinks v h G i (suc k) m = onward (fields-shrinks v h G i k m) (field-shrinks v h G i k (fields_out v G i k m).marks)

pub visit-shrinks : (G : Graph) (f : ℕ) → Down (visit_out f G)
unfolding visit_out
visit-shrinks G zero m i = stay m
visit-shrinks G (suc f) m i = go (visit-shrinks G f) (eqb (get_or m i 0) 0)
  where
    go : Down (visit_out f G) → (b : Bool)
        → Shrinks m (elim b as (λ _. Out) [
          | true ↦ finished i (fields_out (visit_out f G) G i (G.fields i) (set m i 1))
          | false ↦ seen (eqb (get_or m i 0) 2) m
        ]).marks
    go ih true =
        let p = fields-shrinks (visit_out f G) ih G i (G.fields i) (set m i 1) in
        let m' = (fields_out (visit_out f G) G i (G.fields i) (set m i 1)).marks in
        record { size = length-set m' i 2 ∙ p.size ∙ length-set m i 1; less = omega (arith, p.less, fresh-set-le m i 0, fresh-set-le m' i 1) }
    go ih false = stay m

module _ (G : Graph) (n : ℕ) (good : Good G n) where
  -- two visitors that agree where fewer than c items are not met
  Agree : ℕ → (List ℕ → ℕ → Out) → (List ℕ → ℕ → Out) → Type 0
  Agree c v w = (m : List ℕ) (j : ℕ) → length m ≡ n → fresh m < c → j < n → v m j ≡ w m j

  field-agree : (c : ℕ) (v w : List ℕ → ℕ → Out) → Agree c v w → (i k : ℕ) → k < G.fields i → (m : List ℕ) → length m ≡ n → fresh m < c
      → field_out v G i k m ≡ field_out w G i k m
  unfolding field_out Agree
  field-agree c v w a i k l m z h = go (eqb (G.to i k) 255) refl
    where
      go : (b : Bool) → eqb (G.to i k) 255 ≡ b
          → ◌≡◌ {A = Out} (elim b as (λ _. Out) [ true ↦ still m | false ↦ blamed i k (v m (G.to i k)) ])
          (elim b as (λ _. Out) [ true ↦ still m | false ↦ blamed i k (w m (G.to i k)) ])
      go true e = refl
      go false e = ap (blamed i k) (a m (G.to i k) z h (good.below (G.to i k) (good.closed i k l (eqb-false (G.to i k) 255 e))))

  fields-agree : (c : ℕ) (v w : List ℕ → ℕ → Out) → Agree c v w → Down w → (i k : ℕ) → k ≤ G.fields i → (m : List ℕ) → length m ≡ n → fresh m < c
      → fields_out v G i k m ≡ fields_out w G i k m
  unfolding fields_out
  fields-agree c v w a d i zero l m z h = refl
  fields-agree c v w a d i (suc k) l m z h =
      let p = fields-shrinks w d G i k m in
      rw (fields-agree c v w a d i k (omega arith) m z h)
      (ap (join (fields_out w G i k m)) (field-agree c v w a i k l (fields_out w G i k m).marks (p.size ∙ z) (omega (arith, p.less))))

  pub fuel : (f h : ℕ) (m : List ℕ) (i : ℕ) → length m ≡ n → i < n → fresh m < f → fresh m < h → visit_out f G m i ≡ visit_out h G m i
  unfolding visit_out Agree
  fuel zero h m i l b p q = absurd (omega arith)
  fuel (suc f) zero m i l b p q = absurd (omega arith)
  fuel (suc f) (suc h) m i l b p q = go (eqb (get_or m i 0) 0) refl (λ t j l' p' q' b'. fuel f h t j l' b' p' q')
    where
      go : (b : Bool) → eqb (get_or m i 0) 0 ≡ b
          → ((t : List ℕ) (j : ℕ) → length t ≡ n → fresh t < f → fresh t < h → j < n → visit_out f G t j ≡ visit_out h G t j)
          → ◌≡◌ {A = Out} (elim b as (λ _. Out) [
            | true ↦ finished i (fields_out (visit_out f G) G i (G.fields i) (set m i 1))
            | false ↦ seen (eqb (get_or m i 0) 2) m
          ]) (elim b as (λ _. Out) [
            | true ↦ finished i (fields_out (visit_out h G) G i (G.fields i) (set m i 1))
            | false ↦ seen (eqb (get_or m i 0) 2) m
          ])
      go true e ih =
          let d = fresh_set m i 0 (omega arith) (eqb-true (get_or m i 0) 0 e) in
          ap (finished i) (fields-agree (fresh m) (visit_out f G) (visit_out h G) (λ t j l' z b'. ih t j l' (omega arith) (omega arith) b')
          (visit-shrinks G h) i
          (G.fields i) (omega arith) (set m i 1) (length-set m i 1 ∙ l) (omega arith))
      go false e ih = refl
