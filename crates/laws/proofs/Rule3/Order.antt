-- The rule of an order and the rule of tiers, of every relation that is tied to a graph: the walk over the graph gives such an order (`order-rule`), and its
-- tiers are such tiers (`tier-rule`). A chain of edges is a chain of the relation, and the other way round.
-- Assumes nothing.
use Prim.Native.Nat.{ℕ, zero, suc, ◌<◌, min}
use mathlib.Core.Path.{◌≡◌, refl, sym, ap, ◌∙◌, subst}
use mathlib.Core.Logic.{◌⊎◌, inl, inr, ◌↔◌}
use mathlib.Core.Bool.{Bool, true, false}
use mathlib.Core.List.{List}
use native.Mathlib.Omega.{arith}
use lib.Dec.{T}
use lib.ListN.{length, get_or, take}
use Rattle.rules.specs.Numbers.{Struct, most_items}
use Rattle.rules.specs.Diagnostics.{bit}
use Rattle.rules.specs.View.{items, item_is}
use Rattle.rules.specs.Collect.{structs_to}
use Rattle.rules.specs.Count.{count, place}
use Rattle.rules.specs.Graph.{Graph}
use Rattle.rules.specs.Walk.{sort_out}
use Rattle.rules.specs.Tiers.{tiers_of}
use Rattle.rules.specs.Answer.{places}
use Rattle.rules.specs.Rule3.{IsStruct, one, more, Chain, Cycle, Endless, OrderRule, TierRule}
use Rattle.laws.proofs.Graph.Chains.{Good, Edge}
use Rattle.laws.proofs.Graph.WalkOrder.{in_order, each-once, chain-end}
use Rattle.laws.proofs.Graph.WalkCalls.{order-length, order-few}
use Rattle.laws.proofs.Base.Sums.{sum_to, sum-cut, sum_same}
use Rattle.laws.proofs.Base.Lists.{places-take}
use Rattle.laws.proofs.Base.Tests.{is_true, is_false, holds, fails}
use Rattle.laws.proofs.Graph.TierTable.{table-all, table_none}
use Rattle.laws.proofs.Graph.GraphTiers.{GraphTiers, graph-tiers}
use Rattle.laws.proofs.Names.LastItems.{kind-true, true-kind}
use Rattle.laws.proofs.Rule3.Tied.{Tied, tied-good}

-- the struct items among the first k, counted off the sheet
structs-sum : (s : List ℕ) (k : ℕ) → sum_to k (λ x. bit (item_is s Struct x)) ≡ structs_to s k
unfolding sum_to structs_to
structs-sum s zero = refl
structs-sum s (suc k) = rw (structs-sum s k)

module _ (s : List ℕ) (G : Graph) (Holds : (i k : ℕ) → Type 0) (t : Tied s G Holds) where
  good : Good G most_items
  good = tied-good t

  is_struct : {i k : ℕ} → Chain (Edge G) i k → IsStruct s k
  is_struct {k = k} c = (t.struct k).0 (chain-end G most_items good c)

  -- ## Chains

  chain-to : {i k : ℕ} → IsStruct s i → Chain (Edge G) i k → Chain Holds i k
  chain-to {i} {k} si (one e) = one (t.holds i k si e)
  chain-to {i} si (more {j = j} e c) = more (t.holds i j si e) (chain-to (is_struct (one e)) c)

  chain-from : {i k : ℕ} → Chain Holds i k → Chain (Edge G) i k
  chain-from {i} {k} (one h) = one (t.has-edge i k h)
  chain-from {i} (more {j = j} h c) = more (t.has-edge i j h) (chain-from c)

  pub cycle-is : Cycle (Edge G) ↔ Cycle Holds
  cycle-is = (λ c. (c.0, chain-to (is_struct c.1) c.1), λ c. (c.0, chain-from c.1))

  endless-is : (i : ℕ) → IsStruct s i → Endless (Edge G) i ↔ Endless Holds i
  endless-is i si = (
    λ e. record { at = e.at; begins = e.begins; goes_on = λ n. t.holds (e.at n) (e.at (suc n)) (at-struct e n) (e.goes_on n) },
    λ e. record { at = e.at; begins = e.begins; goes_on = λ n. t.has-edge (e.at n) (e.at (suc n)) (e.goes_on n) },
  )
    where
      at-struct : (e : Endless (Edge G) i) (n : ℕ) → IsStruct s (e.at n)
      at-struct e zero = subst (λ (x : ℕ). IsStruct s x) (sym e.begins) si
      at-struct e (suc n) = is_struct (one (e.goes_on n))

  -- ## The order

  abbrev sorted : List ℕ
  sorted = (sort_out G most_items).sorted

  -- the graph has the struct items of the sheet
  struct-same : (i : ℕ) (b : Bool) → item_is s Struct i ≡ b → i < items s → G.struct i ≡ b
  struct-same i true e l = is_true (G.struct i) ((t.struct i).1 (record { below = l; is_struct = true-kind s i (holds e) }))
  struct-same i false e l = is_false (G.struct i) (λ u. fails e (kind-true s i ((t.struct i).0 u).is_struct))

  sum_is : sum_to most_items (λ x. bit (G.struct x)) ≡ structs_to s (items s)
  sum_is =
      sum-cut (items s) most_items (λ x. bit (G.struct x)) t.own.few
      (λ x m. ap bit (is_false (G.struct x) (λ u. absurd (omega (arith, t.own.below x u)))))
      ∙ sum_same (items s) (λ x. bit (G.struct x)) (λ x. bit (item_is s Struct x)) (λ x l. ap bit (struct-same x (item_is s Struct x) refl l))
      ∙ structs-sum s (items s)

  pub places-are : length (sort_out G most_items).sorted ≡ structs_to s (items s)
  places-are = order-length G most_items good ∙ sum_is

  order_is : take (structs_to s (items s)) (places sorted) ≡ sorted
  order_is = ap (λ n. take n (places sorted)) (sym places-are) ∙ places-take sorted (order-few G most_items good)

  after_is : ((i k : ℕ) → Holds i k → place sorted k < place sorted i) ↔ (Cycle Holds → ⊥)
  after_is =
      let r = in_order G most_items good in (
        λ h c. r.0 (λ i k si e. h i k (t.holds i k ((t.struct i).0 si) e)) (cycle-is.1 c),
        λ n i k h. r.1 (λ c. n (cycle-is.0 c)) i k ((t.struct i).1 (t.holder h)) (t.has-edge i k h),
      )

  pub order-rule : OrderRule s Holds (places (sort_out G most_items).sorted)
  order-rule =
      record {
        once = λ i si. ap (count i) order_is ∙ each-once G most_items good i ∙ ap bit (is_true (G.struct i) ((t.struct i).1 si));
        none_else = λ i ns. ap (count i) order_is ∙ each-once G most_items good i ∙ ap bit (is_false (G.struct i) (λ u. ns ((t.struct i).0 u)));
        after = rw order_is after_is;
      }

  -- ## The tiers

  pub tier-rule : TierRule s Holds (places (tiers_of G (items s)))
  tier-rule =
      record {
        endless = λ i si. (λ e. (endless-is i si).0 ((rule.endless i (in_graph i si)).0 e), λ e. (rule.endless i (in_graph i si)).1 ((endless-is i si).1 e));
        bare = λ i si h. rule.bare i (in_graph i si) (λ k e. h k (t.holds i k si e));
        no_less = λ i k si h g. rule.no_less i k (in_graph i si) (λ e. h ((endless-is i si).0 e)) (t.has-edge i k g);
        no_more = λ i si h. most i si (rule.no_more i (in_graph i si) (λ e. h ((endless-is i si).0 e)));
        others = λ i ns. table_none G (items s) t.own t.own.few i (λ u. ns ((t.struct i).0 u));
      }
    where
      table : List ℕ
      table = places (tiers_of G (items s))

      in_graph : (i : ℕ) → IsStruct s i → T (G.struct i)
      in_graph i si = (t.struct i).1 si

      rule : GraphTiers G (λ x. get_or table x 0)
      rule = graph-tiers G (items s) t.own (λ x. get_or table x 0) (table-all G (items s) t.own t.own.few)

      most : (i : ℕ) → IsStruct s i → (get_or table i 0 ≡ 0) ⊎ ((k : ℕ) × Edge G i k × (get_or table i 0 ≡ min 254 (suc (get_or table k 0))))
          → (get_or table i 0 ≡ 0) ⊎ ((k : ℕ) × Holds i k × (get_or table i 0 ≡ min 254 (suc (get_or table k 0))))
      most i si (inl e) = inl e
      most i si (inr r) = inr (r.0, t.holds i r.0 si r.1, r.2)
