-- The walk and the tiers of a graph ask only for fields of its struct items: two graphs that agree on those have one walk and one table of tiers. So has the
-- graph of a function of rows, and the graph of a table that holds the function.
-- Assumes nothing.
use Prim.Native.Nat.{ℕ, zero, suc, ◌≤◌, ◌<◌, max}
use mathlib.Core.Path.{◌≡◌, refl, sym, ap, ◌∙◌, subst}
use mathlib.Core.Logic.{◌≢◌}
use mathlib.Core.Bool.{Bool, true, false}
use mathlib.Core.List.{List, [], ◌∷◌, map}
use native.Mathlib.Omega.{arith}
use lib.Dec.{T, eqb, ltb}
use borrow.Author.Tests.{eqb-true, lt-ltb, ltb-true}
use lib.ListN.{get_or, set, replicate}
use Rattle.rules.specs.Numbers.{no_item, most_items}
use Rattle.rules.specs.Kinds.{some_unless}
use Rattle.rules.specs.Base.{if'◌then◌else◌, over}
use Rattle.rules.specs.Format.{Accepted}
use Rattle.rules.specs.View.{rows, items, field}
use Rattle.rules.specs.Graph.{Graph}
use Rattle.rules.specs.Walk.{Out, still, join, blamed, seen, finished, field_out, fields_out, visit_out, item_out, items_out, sort_out}
use Rattle.rules.specs.Tiers.{largest, one_above, longest, tier_at, tiers_of}
use Rattle.rules.specs.Order.{graph_by}
use Rattle.rules.specs.Rule3.{IsStruct}
use Rattle.laws.specs.RowTable.{LeadTable, lead_by, item_of}
use Rattle.std.specs.Prelude.{Option, Some, None}
use Rattle.laws.proofs.Base.Counts.{eqb-false}
use Rattle.laws.proofs.Graph.Chains.{Good}
use Rattle.laws.proofs.Sheet.Accepted.{few-items, field_row}
use Rattle.laws.proofs.Names.LastItems.{struct_is}
use Rattle.laws.proofs.Rule3.Tied.{ToStructs, good-for}

module _ (G : Graph) (n : ℕ) (good : Good G n) (to : (i k : ℕ) → ℕ) (same : (i k : ℕ) → T (G.struct i) → k < G.fields i → to i k ≡ G.to i k) where
  abbrev H : Graph
  H = record { struct = G.struct; fields = G.fields; to = to }

  -- ## The walk

  abbrev Same : (v w : List ℕ → ℕ → Out) → Type 0
  Same v w = (m : List ℕ) (i : ℕ) → T (G.struct i) → v m i ≡ w m i

  field-same : (v w : List ℕ → ℕ → Out) → Same v w → (i k : ℕ) → T (G.struct i) → k < G.fields i → (m : List ℕ) → field_out v H i k m ≡ field_out w G i k m
  unfolding field_out
  field-same v w a i k si l m = ap {B = Out} (λ x. elim (eqb x no_item) as (λ _. Out) [ true ↦ still m | false ↦ blamed i k (v m x) ]) (same i k si l)
      ∙ go (eqb (G.to i k) no_item) refl
    where
      go : (b : Bool) → eqb (G.to i k) no_item ≡ b
          → ◌≡◌ {A = Out} (elim b as (λ _. Out) [ true ↦ still m | false ↦ blamed i k (v m (G.to i k)) ])
          (elim b as (λ _. Out) [ true ↦ still m | false ↦ blamed i k (w m (G.to i k)) ])
      go true e = refl
      go false e = ap (blamed i k) (a m (G.to i k) (good.closed i k l (eqb-false (G.to i k) no_item e)))

  fields-same : (v w : List ℕ → ℕ → Out) → Same v w → (i k : ℕ) → T (G.struct i) → k ≤ G.fields i → (m : List ℕ) → fields_out v H i k m ≡ fields_out w G i k m
  unfolding fields_out
  fields-same v w a i zero si l m = refl
  fields-same v w a i (suc k) si l m =
      rw (fields-same v w a i k si (omega arith) m) (ap (join (fields_out w G i k m)) (field-same v w a i k si (omega arith) (fields_out w G i k m).marks))

  visit-same : (f : ℕ) → Same (visit_out f H) (visit_out f G)
  unfolding visit_out
  visit-same zero m i si = refl
  visit-same (suc f) m i si =
      ap {B = Out} (λ a. elim (eqb (get_or m i 0) 0) as (λ _. Out) [ true ↦ finished i a | false ↦ seen (eqb (get_or m i 0) 2) m ])
      (fields-same (visit_out f H) (visit_out f G) (visit-same f) i (G.fields i) si (omega arith) (set m i 1))

  items-same : (f k : ℕ) (m : List ℕ) → items_out f H k m ≡ items_out f G k m
  unfolding items_out item_out
  items-same f zero m = refl
  items-same f (suc k) m = rw (items-same f k m) (ap (join (items_out f G k m)) (go (items_out f G k m).marks (G.struct k) refl))
    where
      go : (u : List ℕ) (b : Bool) → G.struct k ≡ b
          → ◌≡◌ {A = Out} (elim b as (λ _. Out) [ true ↦ visit_out f H u k | false ↦ still u ])
          (elim b as (λ _. Out) [ true ↦ visit_out f G u k | false ↦ still u ])
      go u true e = visit-same f u k (subst T (sym e) tt)
      go u false e = refl

  pub walk_same : (k : ℕ) → sort_out H k ≡ sort_out G k
  unfolding sort_out
  walk_same k = items-same (suc k) k (replicate k 0)

  -- ## The tiers

  largest-same : (f : ℕ → ℕ) (i k : ℕ) → T (G.struct i) → k ≤ G.fields i → largest f H i k ≡ largest f G i k
  unfolding largest
  largest-same f i zero si l = refl
  largest-same f i (suc k) si l =
      ap {B = ℕ} (λ m. elim (eqb (to i k) no_item) as (λ _. ℕ) [ true ↦ m | false ↦ max m (f (to i k)) ]) (largest-same f i k si (omega arith))
      ∙ ap {B = ℕ} (λ x. elim (eqb x no_item) as (λ _. ℕ) [ true ↦ largest f G i k | false ↦ max (largest f G i k) (f x) ]) (same i k si (omega arith))

  above_same : (t : List ℕ) (i : ℕ) → one_above H t i ≡ one_above G t i
  unfolding one_above
  above_same t i = go (G.struct i) refl
    where
      go : (b : Bool) → G.struct i ≡ b
          → ◌≡◌ {A = ℕ} (elim b as (λ _. ℕ) [ true ↦ largest (λ j. suc (get_or t j 0)) H i (G.fields i) | false ↦ 0 ])
          (elim b as (λ _. ℕ) [ true ↦ largest (λ j. suc (get_or t j 0)) G i (G.fields i) | false ↦ 0 ])
      go true e = largest-same (λ j. suc (get_or t j 0)) i (G.fields i) (subst T (sym e) tt) (omega arith)
      go false e = refl

  over-same : (t : List ℕ) (k : ℕ) → over {A = ℕ} k (λ i. one_above H t i ∷ []) ≡ over k (λ i. one_above G t i ∷ [])
  unfolding over
  over-same t zero = refl
  over-same t (suc k) = rw (over-same t k, above_same t k)

  longest-same : (m k : ℕ) → longest H m k ≡ longest G m k
  unfolding longest
  longest-same m zero = refl
  longest-same m (suc k) = rw (longest-same m k) (over-same (longest G m k) m)

  pub tiers-same : (m : ℕ) → tiers_of H m ≡ tiers_of G m
  unfolding tiers_of
  tiers-same m = ap (map (tier_at m)) (longest-same m m)

-- ## A table of the items to which rows lead

pub item_is : (i : ℕ) → item_of (some_unless no_item i) ≡ i
unfolding some_unless if'◌then◌else◌
item_is i = go (eqb i no_item) refl
  where
    go : (b : Bool) → eqb i no_item ≡ b → item_of (if' b then None else Some i) ≡ i
    go true e = sym (eqb-true i no_item e)
    go false e = refl

-- an entry that has an item
pub entry-some : (i j : ℕ) → some_unless no_item i ≡ Some j → (i ≡ j) × (i ≢ no_item)
unfolding some_unless if'◌then◌else◌
entry-some i j = go (eqb i no_item) refl
  where
    go : (b : Bool) → eqb i no_item ≡ b → (if' b then None else Some i) ≡ Some j → (i ≡ j) × (i ≢ no_item)
    go true e q = absurd cc
    go false e q = (cc, eqb-false i no_item e)

module _ (s : List ℕ) (d : List (Option ℕ)) where
  pub lead-at : (r : ℕ) → r < rows s → lead_by s d r ≡ item_of (get_or d r None)
  unfolding lead_by if'◌then◌else◌
  lead-at r l = rw (lt-ltb r (rows s) l)

  pub lead-to-structs : LeadTable s d → ToStructs s (lead_by s d)
  unfolding lead_by if'◌then◌else◌
  lead-to-structs t r = go (ltb r (rows s)) refl (get_or d r None) refl
    where
      go : (b : Bool) → ltb r (rows s) ≡ b → (o : Option ℕ) → get_or d r None ≡ o → (if' b then item_of o else no_item) ≢ no_item
          → IsStruct s (if' b then item_of o else no_item)
      go true e None q ne = absurd (ne refl)
      go true e (Some i) q ne = t.to_structs r i (ltb-true r (rows s) e) q
      go false e o q ne = absurd (ne refl)

  -- the graph of such a table, over n items
  pub table-good : LeadTable s d → (n : ℕ) → items s ≤ n → n ≤ most_items → Good (graph_by s (lead_by s d)) n
  table-good t = good-for s (lead_by s d) (lead-to-structs t)

  module _ (lead : (row : ℕ) → ℕ) (holds : (r : ℕ) → r < rows s → get_or d r None ≡ some_unless no_item (lead r)) where
    -- a table that holds a function that leads to struct items
    pub lead-table : ToStructs s lead → LeadTable s d
    lead-table to =
        record {
          to_structs =
              λ r i l e. (let q = entry-some (lead r) i (sym (holds r l) ∙ e) in subst (λ (x : ℕ). IsStruct s x) q.0 (to r q.1));
        }

    module _ (acc : Accepted s) (t : LeadTable s d) where
      field-leads : (i k : ℕ) → T ((graph_by s lead).struct i) → k < (graph_by s lead).fields i → lead (field s i k) ≡ lead_by s d (field s i k)
      field-leads i k si l =
          let m = field_row s acc i k ((struct_is s i).0 si) l in
          sym (lead-at (field s i k) m ∙ ap item_of (holds (field s i k) m) ∙ item_is (lead (field s i k)))

      good : Good (graph_by s (lead_by s d)) most_items
      good = table-good t most_items (few-items s acc) (omega arith)

      -- one walk and one table of tiers
      pub table-walk : (n : ℕ) → sort_out (graph_by s lead) n ≡ sort_out (graph_by s (lead_by s d)) n
      table-walk = walk_same (graph_by s (lead_by s d)) most_items good (λ i k. lead (field s i k)) field-leads

      pub table-tiers : (n : ℕ) → tiers_of (graph_by s lead) n ≡ tiers_of (graph_by s (lead_by s d)) n
      table-tiers = tiers-same (graph_by s (lead_by s d)) most_items good (λ i k. lead (field s i k)) field-leads
