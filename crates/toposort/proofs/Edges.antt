-- The graph of a lent table: it is bounded, its fields lead to struct items or to none, and the code reads off the table where they lead.
-- Assumes nothing.
use Prim.Native.Nat.{ℕ, ◌<◌, ◌≤◌}
use mathlib.Core.Path.{◌≡◌, refl, sym, ap, ◌∙◌}
use mathlib.Core.Logic.{◌≢◌}
use mathlib.Core.List.{List}
use mathlib.Core.Bool.{not}
use native.Mathlib.Omega.{arith}
use borrow.Author.Tests.{ne_eqb}
use lib.Dec.{eqb}
use Rattle.std.specs.Prelude.{Option, Some, None, is_some}
use lib.ListN.{get_or}
use Rattle.rules.specs.Numbers.{no_item, most_items, most_fields}
use Rattle.rules.specs.Format.{pair_at}
use Rattle.rules.specs.View.{rows, items, field_count, field, rest, entry}
use Rattle.rules.specs.Rule3.{IsStruct}
use Rattle.laws.specs.RowTable.{lead_by, item_of}
use Rattle.laws.proofs.Graph.Chains.{Good}
use Rattle.laws.proofs.Names.LastItems.{struct_is}
use Rattle.laws.proofs.Sheet.Accepted.{few-items, field_row}
use Rattle.laws.proofs.Sheet.Accepted.Items.{item-of}
use Rattle.laws.proofs.Graph.SameEdges.{lead-at, table-good}
use Rattle.toposort.specs.Leads.{Led, table_graph}
use Rattle.toposort.proofs.Parts.{Bounded}

module _ {s : List ℕ} {d : List (Option ℕ)} (own : Led s d) where
  -- ## What the graph is like

  pub own-good : Good (table_graph s d) (items s)
  own-good = table-good s d own.table (items s) (omega arith) (few-items s own.accepted)

  pub whole : Good (table_graph s d) most_items
  whole = table-good s d own.table most_items (few-items s own.accepted) (omega arith)

  pub few-fields : (i : ℕ) → IsStruct s i → field_count s i ≤ most_fields
  few-fields i h = ((item-of s own.accepted i h.below).as_struct h.is_struct).few-fields

  pub bounded : Bounded (table_graph s d)
  bounded = record { good = whole; few = λ i t. few-fields i ((struct_is s i).0 t) }

  pub struct-below : (i : ℕ) → IsStruct s i → i < most_items
  struct-below i h = whole.below i ((struct_is s i).1 h)

  -- a field that leads somewhere leads to a struct item
  pub leads-struct : (i k e : ℕ) → k < field_count s i → e ≡ (table_graph s d).to i k → e ≢ no_item → IsStruct s e
  leads-struct i k e l q ne = rw q ((struct_is s ((table_graph s d).to i k)).0 (whole.closed i k l (λ z. ne (q ∙ z))))

  -- ## Where a field leads, as the code reads it

  module _ (i k at row : ℕ) (h : IsStruct s i) (a : at ≡ rest s i) (l : k < field_count s i) (r : row ≡ entry s at k) where
    row_is : row ≡ field s i k
    unfolding field
    row_is = rw a at r

    row_below : row < rows s
    row_below = rw row_is (field_row s own.accepted i k h l)

    pub led-at : item_of (get_or d row None) ≡ lead_by s d (field s i k)
    led-at = sym (lead-at s d row row_below) ∙ ap (lead_by s d) row_is

    -- its entry has something where it leads to a struct
    pub told_is : is_some (get_or d row None) ≡ not (eqb (lead_by s d (field s i k)) no_item)
    told_is = go (get_or d row None) refl ∙ ap (λ (x : ℕ). not (eqb x no_item)) led-at
      where
        go : (o : Option ℕ) → get_or d row None ≡ o → is_some o ≡ not (eqb (item_of o) no_item)
        go None e = refl
        go (Some j) e =
            let b = struct-below j (own.table.to_structs row j row_below e) in
            rw (ne_eqb j no_item (λ q. absurd (omega arith))) refl

-- the number of fields, as the code reads it
pub counted_is : (s : List ℕ) (i at n : ℕ) → at ≡ rest s i → n ≡ pair_at s at → n ≡ field_count s i
unfolding field_count
counted_is s i at n a q = rw a at q
