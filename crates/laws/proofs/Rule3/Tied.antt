-- A graph of a sheet's struct items that is tied to a relation between them: its edges are what the relation says. All that is known of the walk and of the
-- tiers of a graph is then known of chains of the relation (Rule3Order). A relation that goes by rows is tied by what it says of each row: `ties`.
-- Assumes nothing.
use Prim.Native.Nat.{ℕ, ◌≤◌, ◌<◌}
use mathlib.Core.Path.{◌≡◌, refl}
use mathlib.Core.Logic.{◌≢◌, ◌↔◌}
use mathlib.Core.List.{List}
use native.Mathlib.Omega.{arith}
use lib.Dec.{T}
use Rattle.rules.specs.Numbers.{no_item, most_items}
use Rattle.rules.specs.Format.{Accepted}
use Rattle.rules.specs.View.{rows, items, field}
use Rattle.rules.specs.Graph.{Graph}
use Rattle.rules.specs.Order.{graph_by}
use Rattle.rules.specs.Rule3.{IsStruct, HoldsBy}
use Rattle.laws.proofs.Graph.Chains.{Good, Edge}
use Rattle.laws.proofs.Sheet.Accepted.{few-items, field_row}
use Rattle.laws.proofs.Names.LastItems.{struct_is}

pub record Tied (s : List ℕ) (G : Graph) (Holds : (i k : ℕ) → Type 0) : Type 0 where
  pub struct : (i : ℕ) → T (G.struct i) ↔ IsStruct s i
  pub holder : {i k : ℕ} → Holds i k → IsStruct s i
  pub holds : (i k : ℕ) → IsStruct s i → Edge G i k → Holds i k
  pub has-edge : (i k : ℕ) → Holds i k → Edge G i k
  pub own : Good G (items s)

-- the graph is as good over all items that a sheet can have
pub tied-good : {s : List ℕ} {G : Graph} {Holds : (i k : ℕ) → Type 0} → Tied s G Holds → Good G most_items
tied-good t = record { few = omega arith; below = λ x u. omega (arith, t.own.below x u, t.own.few); closed = t.own.closed }

-- ## Rows that lead to items

-- the items to which rows lead are struct items, or none
abbrev pub ToStructs : (s : List ℕ) (lead : (row : ℕ) → ℕ) → Type 0
ToStructs s lead = (r : ℕ) → lead r ≢ no_item → IsStruct s (lead r)

-- a graph with such fields, over the items of the sheet and over all items that a sheet can have
pub good-for : (s : List ℕ) (lead : (row : ℕ) → ℕ) → ToStructs s lead → (n : ℕ) → items s ≤ n → n ≤ most_items → Good (graph_by s lead) n
good-for s lead to n least few =
    record {
      few = few;
      below = λ x u. omega (arith, ((struct_is s x).0 u).below);
      closed = λ i k _ ne. (struct_is s (lead (field s i k))).1 (to (field s i k) ne);
    }

-- a function that leads each row where a relation says
pub record LeadsAs (s : List ℕ) (lead : (row : ℕ) → ℕ) (Leads : (row k : ℕ) → Type 0) : Type 0 where
  pub so : (r k : ℕ) → lead r ≡ k → k ≢ no_item → Leads r k
  pub is : (r k : ℕ) → r < rows s → Leads r k → lead r ≡ k
  pub struct : (r k : ℕ) → Leads r k → IsStruct s k

module _ {s : List ℕ} {lead : (row : ℕ) → ℕ} {Leads : (row k : ℕ) → Type 0} (led : LeadsAs s lead Leads) where
  pub to_structs : ToStructs s lead
  to_structs r ne = led.struct r (lead r) (led.so r (lead r) refl ne)

  pub ties : Accepted s → Tied s (graph_by s lead) (HoldsBy s Leads)
  ties acc =
      record {
        struct = struct_is s;
        holder = λ h. h.holder;
        holds = λ i k si e.
            record { holder = si; number = e.place; is_field = e.is_field; leads = led.so (field s i e.place) k e.leads e.is-item };
        has-edge = λ i k h.
            record {
              place = h.number;
              is_field = h.is_field;
              leads = led.is (field s i h.number) k (field_row s acc i h.number h.holder h.is_field) h.leads;
              is-item = λ q. omega (arith, (led.struct (field s i h.number) k h.leads).below, few-items s acc);
            };
        own = good-for s lead to_structs (items s) (omega arith) (few-items s acc);
      }
