-- The turns of the loops that find the tiers, and what the pass over the order gives.
-- Assumes nothing.
use Prim.Native.Nat.{ℕ, ◌+◌, ◌≤◌, ◌<◌, max}
use mathlib.Core.Path.{◌≡◌, refl, sym, ap, ◌∙◌}
use mathlib.Core.Bool.{true, false}
use mathlib.Core.List.{List}
use native.Mathlib.Numerals.{add-one}
use native.Mathlib.Omega.{arith}
use borrow.Author.Tests.{eq-eqb, ne_eqb}
use lib.ListN.{length, get_or, set, replicate}
use lib.Seq.{get_or-set_same, get_or-set_other}
use Rattle.rules.specs.Numbers.{most_items}
use Rattle.rules.specs.View.{items}
use Rattle.rules.specs.Count.{count}
use Rattle.rules.specs.Types.{types_of}
use Rattle.rules.specs.Graph.{Graph}
use Rattle.rules.specs.Walk.{Out, sort_out}
use Rattle.rules.specs.Order.{graph_by, plain_lead}
use Rattle.rules.specs.Tiers.{largest, tiers_of}
use Rattle.rules.specs.Answer.{places}
use Rattle.rules.specs.Rule3.{IsStruct}
use Rattle.laws.specs.RowTable.{LeadRows}
use Rattle.std.specs.Prelude.{Option, None}
use Rattle.laws.specs.TierPass.{up, tier_from, tiers_to, start_to, pass_of}
use Rattle.laws.proofs.Base.Tests.{both, holds}
use Rattle.laws.proofs.Base.Counts.{count-get, Eq?, same, other, eq?}
use Rattle.laws.proofs.Names.LastItems.{struct_is}
use Rattle.laws.proofs.Graph.WalkOrder.{each-once}
use Rattle.laws.proofs.Graph.TierPass.{pass-is}
use Rattle.laws.proofs.Graph.SameEdges.{table-walk, table-tiers}
use Rattle.laws.proofs.Rule3.Due.{plain-tiers}
use Rattle.toposort.specs.Leads.{Led, table_graph, Ups}
use Rattle.toposort.specs.Post.{Ordered, Tiered}
use Rattle.toposort.proofs.Leading.{Skips}
use Rattle.toposort.proofs.Edges.{own-good, whole, struct-below}

-- ## The fields of an item

-- `best` is the largest that the first k fields of item i give, by the table of what each item gives
abbrev pub Best : (G : Graph) (u : List ℕ) (i best k : ℕ) → Type 0
Best G u i best k = (t : List ℕ) → Ups t u 255 → best ≡ largest (λ x. up (get_or t x 0)) G i k

module _ (G : Graph) (u : List ℕ) (i : ℕ) where
  pub best-none : Best G u i 0 0
  unfolding largest
  best-none t h = refl

  module _ {best : ℕ} where
    -- a field that leads nowhere gives nothing
    pub best-skips : {n : ℕ} → Skips G i n (Best G u i best)
    unfolding largest
    best-skips k l e b t h = rw (add-one, largest, eq-eqb (G.to i k) 255 e) (b t h)

    pub best-more : {k x next : ℕ} → x ≡ G.to i k → (G.to i k ≡ 255 → ⊥) → x < 255 → next ≡ max best (get_or u x 0) → Best G u i best k
        → Best G u i next (k + 1)
    unfolding largest
    best-more {k} {x} q ne l e b t h = rw (add-one, largest, ne_eqb (G.to i k) 255 ne, e, h.ups x l, ← q) (ap (λ (y : ℕ). max y (up (get_or t x 0))) (b t h))

-- a new tier, and what it gives
pub ups-set : (t u : List ℕ) (i y v : ℕ) → Ups t u 255 → length t ≡ 255 → length u ≡ 255 → i < 255 → v ≡ up y → Ups (set t i y) (set u i v) 255
ups-set t u i y v h m n l e = record { ups = λ x b. at x b (eq? x i) }
  where
    at : (x : ℕ) → x < 255 → Eq? x i → get_or (set u i v) x 0 ≡ up (get_or (set t i y) x 0)
    at x b (same _ q) = rw (q, get_or-set_same u i v 0 (omega (arith, n)), get_or-set_same t i y 0 (omega (arith, m))) e
    at x b (other _ q) = rw (get_or-set_other u i x v 0 q, get_or-set_other t i x y 0 q) (h.ups x b)

-- ## Before the pass

module _ (G : Graph) (t : List ℕ) (i : ℕ) (u : List ℕ) (h : u ≡ start_to G i t) where
  pub start-struct : G.struct i ≡ true → set u i 255 ≡ start_to G (i + 1) t
  unfolding start_to
  start-struct e = rw (add-one, start_to, e, h)

  pub start-other : G.struct i ≡ false → u ≡ start_to G (i + 1) t
  unfolding start_to
  start-other e = rw (add-one, start_to, e) h

-- ## The pass

pub tiers-on : (G : Graph) (o t u : List ℕ) (p i x : ℕ) → u ≡ tiers_to G o p t → i ≡ get_or o p 0 → x ≡ tier_from G u i → set u i x ≡ tiers_to G o (p + 1) t
unfolding tiers_to
tiers-on G o t u p i x h q e = rw (add-one, tiers_to, ← h, ← q, e)

module _ {s : List ℕ} {d : List (Option ℕ)} (led : Led s d) {o : List ℕ} (own : Ordered s d o) where
  abbrev G : Graph
  G = table_graph s d

  -- the order of the function is that of the table that holds it
  order-is : o ≡ (sort_out (table_graph s d) most_items).sorted
  order-is = own.order ∙ ap (λ (w : Out). w.sorted) (table-walk s d own.lead (own.held.entries None) led.accepted led.table most_items)

  module _ (p : ℕ) (l : p < length o) where
    pub place-struct : IsStruct s (get_or o p 0)
    place-struct =
        let x = get_or o p 0 in
        let c : 0 < count x o = count-get o p l in
        let e = ap (count x) order-is ∙ each-once G most_items (whole led) x in
        let no : G.struct x ≡ false → ⊥ = λ t. let z : count x o ≡ 0 = rw t at e in omega arith in
        both (G.struct x) (λ t. (struct_is s x).0 (holds t)) (λ t. absurd (no t))

    pub place-below : get_or o p 0 < most_items
    place-below = struct-below led (get_or o p 0) place-struct

  pub tiers-end : (t : List ℕ) (p : ℕ) → p ≤ length o → length o ≤ p
      → t ≡ tiers_to (table_graph s d) o p (start_to (table_graph s d) 255 (replicate 255 0)) → Tiered s d t
  unfolding pass_of
  tiers-end t p l m h = record { tiers = by-lead; rule = λ held. rw (by-lead (plain_lead s (types_of s)) held) (plain-tiers s led.accepted) }
    where
      by-table : t ≡ places (tiers_of G (items s))
      by-table =
          let z : p ≡ length o = omega arith in
          h ∙ rw (z, order-is) (pass-is G (items s) (own-good led) (whole led))

      by-lead : (lead : (row : ℕ) → ℕ) → LeadRows s lead d → t ≡ places (tiers_of (graph_by s lead) (items s))
      by-lead lead held = by-table ∙ ap places (sym (table-tiers s d lead (held.entries None) led.accepted led.table (items s)))
