-- The visits that the walk makes, counted without the walk: the struct items, and their fields that lead to one.
-- Assumes nothing.
use mathlib.Core.Path.{◌≡◌, refl, sym, ap, ◌∙◌, subst}
use mathlib.Core.Bool.{Bool, true, false, not}
use mathlib.Core.List.{List, [], ◌∷◌}
use Prim.Native.Nat.{ℕ, zero, suc, ◌*◌, ◌+◌, ◌≤◌, ◌<◌}
use native.Mathlib.Omega.{arith}
use lib.Dec.{T, eqb}
use lib.ListN.{length, get_or, set, length-set, replicate, length-replicate}
use Rattle.rules.specs.Diagnostics.{bit}
use Rattle.rules.specs.Count.{count}
use Rattle.laws.specs.Left.{fresh}
use Rattle.laws.proofs.Base.Counts.{eqb-true, eqb-false, fresh_set, fresh-zeros}
use Rattle.rules.specs.Graph.{Graph}
use Rattle.laws.proofs.Graph.Chains.{Good}
use Rattle.rules.specs.Walk.{Out, still, join, blamed, seen, finished, field_out, fields_out, visit_out, item_out, items_out, sort_out}
use Rattle.laws.proofs.Graph.WalkFuel.{Shrinks, Down, fields-shrinks, visit-shrinks}
use Rattle.laws.proofs.Graph.WalkOrder.{each-once}
use Rattle.laws.proofs.Base.Sums.{sum_to, sum_same, sum-add, sum-bits, weight, weight-append, weight-sum, weight-one}

-- how many of the first k fields of item i lead to an item
abbrev pub leading : Graph → ℕ → ℕ → ℕ
leading G i k = sum_to k (λ x. bit (not (eqb (G.to i x) 255)))

unfoldable pub work : Graph → ℕ → ℕ
work G n = sum_to n (λ x. bit (G.struct x) * suc (leading G x (G.fields x)))

module _ (G : Graph) (n : ℕ) (good : Good G n) where
  all : ℕ → ℕ
  all x = leading G x (G.fields x)

  -- a visit, and one for each leading field of what it adds to the order
  Counts : Out → ℕ → Type 0
  Counts a c = a.calls ≡ c + weight all a.sorted

  Counter : ℕ → (List ℕ → ℕ → Out) → Type 0
  Counter f v = (m : List ℕ) (j : ℕ) → length m ≡ n → fresh m < f → j < n → Counts (v m j) 1

  field-calls : (f : ℕ) (v : List ℕ → ℕ → Out) → Counter f v → (i k : ℕ) → k < G.fields i → (m : List ℕ) → length m ≡ n → fresh m < f
      → Counts (field_out v G i k m) (bit (not (eqb (G.to i k) 255)))
  unfolding field_out Counts Counter weight
  field-calls f v h i k l m z d = go (eqb (G.to i k) 255) refl
    where
      go : (b : Bool) → eqb (G.to i k) 255 ≡ b → Counts (elim b as (λ _. Out) [ true ↦ still m | false ↦ blamed i k (v m (G.to i k)) ]) (bit (not b))
      go true e = refl
      go false e = h m (G.to i k) z d (good.below (G.to i k) (good.closed i k l (eqb-false (G.to i k) 255 e)))

  joined : (a b : Out) (c d : ℕ) → Counts a c → Counts b d → Counts (join a b) (c + d)
  unfolding Counts
  joined a b c d p q = omega (arith, weight-append all a.sorted b.sorted)

  fields-calls : (f : ℕ) (v : List ℕ → ℕ → Out) → Counter f v → Down v → (i k : ℕ) → k ≤ G.fields i → (m : List ℕ) → length m ≡ n → fresh m < f
      → Counts (fields_out v G i k m) (leading G i k)
  unfolding fields_out Counts weight sum_to
  fields-calls f v h d i zero l m z q = refl
  fields-calls f v h d i (suc k) l m z q =
      let p = fields-shrinks v d G i k m in
      joined (fields_out v G i k m) (field_out v G i k (fields_out v G i k m).marks) (leading G i k) (bit (not (eqb (G.to i k) 255)))
      (fields-calls f v h d i k (omega arith) m z q) (field-calls f v h i k l (fields_out v G i k m).marks (p.size ∙ z) (omega (arith, p.less)))

  visit-calls : (f : ℕ) → Counter f (visit_out f G)
  unfolding visit_out Counts Counter weight all
  visit-calls zero m i z q b = absurd (omega arith)
  visit-calls (suc f) m i z q b = go (visit-calls f) (eqb (get_or m i 0) 0) refl
    where
      go : Counter f (visit_out f G) → (b : Bool) → eqb (get_or m i 0) 0 ≡ b
          → Counts (elim b as (λ _. Out) [
            | true ↦ finished i (fields_out (visit_out f G) G i (G.fields i) (set m i 1))
            | false ↦ seen (eqb (get_or m i 0) 2) m
          ]) 1
      go ih true e =
          let d = fresh_set m i 0 (omega arith) (eqb-true (get_or m i 0) 0 e) in
          let a = fields_out (visit_out f G) G i (G.fields i) (set m i 1) in
          omega (
            arith,
            fields-calls f (visit_out f G) ih (visit-shrinks G f) i (G.fields i) (omega arith) (set m i 1) (length-set m i 1 ∙ z) (omega arith),
            weight-append all a.sorted (i ∷ []),
          )
      go ih false e = refl

  item-shrinks : (f i : ℕ) (m : List ℕ) → Shrinks m (item_out f G i m).marks
  unfolding item_out
  item-shrinks f i m = go (G.struct i)
    where
      go : (b : Bool) → Shrinks m (elim b as (λ _. Out) [ true ↦ visit_out f G m i | false ↦ still m ]).marks
      go true = visit-shrinks G f m i
      go false = record { size = refl; less = omega arith }

  item-calls : (f i : ℕ) (m : List ℕ) → length m ≡ n → fresh m < f → Counts (item_out f G i m) (bit (G.struct i))
  unfolding item_out Counts weight Counter
  item-calls f i m z q = go (G.struct i) refl
    where
      go : (b : Bool) → G.struct i ≡ b → Counts (elim b as (λ _. Out) [ true ↦ visit_out f G m i | false ↦ still m ]) (bit b)
      go true e = visit-calls f m i z q (good.below i (subst T (sym e) tt))
      go false e = refl

  record Items (f k : ℕ) (a : Out) : Type 0 where
    shrinks : Shrinks (replicate n 0) a.marks
    counts : Counts a (sum_to k (λ x. bit (G.struct x)))

  items : (f : ℕ) → n < f → (k : ℕ) → Items f k (items_out f G k (replicate n 0))
  unfolding items_out Counts weight sum_to
  items f l zero = record { shrinks = record { size = refl; less = omega arith }; counts = refl }
  items f l (suc k) = both (items_out f G k (replicate n 0)) (items f l k)
    where
      both : (a : Out) → Items f k a → Items f (suc k) (join a (item_out f G k a.marks))
      both a p =
          let s = item-shrinks f k a.marks in
          record {
            shrinks = record { size = s.size ∙ p.shrinks.size; less = omega (arith, s.less, p.shrinks.less) };
            counts =
                joined a (item_out f G k a.marks) (sum_to k (λ x. bit (G.struct x))) (bit (G.struct k)) p.counts
                (item-calls f k a.marks (p.shrinks.size ∙ length-replicate n 0) (omega (arith, p.shrinks.less, fresh-zeros n)));
          }

  is_struct : (x : ℕ) → 0 < count x (sort_out G n).sorted → T (G.struct x)
  is_struct x m = go (G.struct x) refl
    where
      go : (b : Bool) → G.struct x ≡ b → T b
      go true e = tt
      go false e = let z : count x (sort_out G n).sorted ≡ bit false = rw e at (each-once G n good x) in absurd (omega arith)

  -- the walk makes as many visits as the formula says
  pub calls_are : (sort_out G n).calls ≡ work G n
  unfolding sort_out Counts all work
  calls_are =
      let c : (sort_out G n).calls ≡ sum_to n (λ x. bit (G.struct x)) + weight all (sort_out G n).sorted = (items (suc n) (omega arith) n).counts in
      let e₁ : weight all (sort_out G n).sorted ≡ sum_to n (λ x. count x (sort_out G n).sorted * all x) =
      weight-sum n all (sort_out G n).sorted (λ x m. good.below x (is_struct x m)) in
      let e₂ : sum_to n (λ x. count x (sort_out G n).sorted * all x) ≡ sum_to n (λ x. bit (G.struct x) * all x) =
      sum_same n (λ x. count x (sort_out G n).sorted * all x) (λ x. bit (G.struct x) * all x) (λ x _. ap (λ k. k * all x) (each-once G n good x)) in
      let e₃ : work G n ≡ sum_to n (λ x. bit (G.struct x) + bit (G.struct x) * all x) =
      sum_same n (λ x. bit (G.struct x) * suc (all x)) (λ x. bit (G.struct x) + bit (G.struct x) * all x) (λ x _. omega arith) in
      omega (arith, sum-add n (λ x. bit (G.struct x)) (λ x. bit (G.struct x) * all x))

  -- the order has as many places as there are struct items
  pub order-length : length (sort_out G n).sorted ≡ sum_to n (λ x. bit (G.struct x))
  order-length =
      let o = (sort_out G n).sorted in
      weight-one o ∙ weight-sum n (λ _. 1) o (λ x m. good.below x (is_struct x m)) ∙ sum_same n (λ x. count x o * 1) (λ x. bit (G.struct x))
      (λ x _. omega (arith, each-once G n good x))

  pub order-few : length (sort_out G n).sorted ≤ n
  order-few = omega (arith, order-length, sum-bits n G.struct)
