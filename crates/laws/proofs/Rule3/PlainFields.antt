-- The first relation between struct items: fields with a plain name, which lead to the name's last struct. The graph of a sheet is tied to it.
-- Assumes nothing.
use Prim.Native.Nat.{ℕ}
use mathlib.Core.Path.{◌≡◌, refl, sym}
use mathlib.Core.Logic.{◌≢◌}
use mathlib.Core.Bool.{Bool, true, false}
use mathlib.Core.List.{List}
use borrow.Author.Tests.{eqb-true, eq-eqb}
use Rattle.rules.specs.Numbers.{Ident, no_item, most_items}
use Rattle.rules.specs.Base.{if'◌then◌else◌}
use Rattle.rules.specs.Format.{Accepted}
use Rattle.rules.specs.View.{is, kind, row_name}
use Rattle.rules.specs.Types.{types_of, struct_of}
use Rattle.rules.specs.Order.{plain_lead, graph_of}
use Rattle.rules.specs.Rule3.{PlainLeads, Holds}
use Rattle.laws.proofs.Graph.Chains.{Good}
use Rattle.laws.proofs.Names.LastItems.{of-last, last_of}
use Rattle.laws.specs.RowTable.{LeadRows, LeadTable}
use Rattle.std.specs.Prelude.{Option, None}
use Rattle.laws.proofs.Rule3.Tied.{Tied, tied-good, LeadsAs, to_structs, ties}
use Rattle.laws.proofs.Graph.SameEdges.{lead-table}

module _ (s : List ℕ) where
  plain-so : (r k : ℕ) → plain_lead s (types_of s) r ≡ k → k ≢ no_item → PlainLeads s r k
  unfolding plain_lead is if'◌then◌else◌
  plain-so r k e ne = go (is s Ident r) refl e
    where
      go : (b : Bool) → is s Ident r ≡ b → (if' b then struct_of (types_of s) (row_name s r) else no_item) ≡ k → PlainLeads s r k
      go true p q = record { plain = eqb-true (kind s r) Ident p; last = of-last s (row_name s r) k q ne }
      go false p q = absurd (ne (sym q))

  module _ (acc : Accepted s) where
    plain-is : (r k : ℕ) → PlainLeads s r k → plain_lead s (types_of s) r ≡ k
    unfolding plain_lead is if'◌then◌else◌
    plain-is r k h = rw (eq-eqb (kind s r) Ident h.plain, if'◌then◌else◌) (last_of s acc (row_name s r) k h.last)

    pub plain-leads : LeadsAs s (plain_lead s (types_of s)) (PlainLeads s)
    plain-leads = record { so = plain-so; is = λ r k _ h. plain-is r k h; struct = λ r k h. h.last.struct }

    pub plain : Tied s (graph_of s (types_of s)) (Holds s)
    plain = ties plain-leads acc

    pub good : Good (graph_of s (types_of s)) most_items
    good = tied-good plain

    -- a table of where plain names lead
    pub plain-table : (d : List (Option ℕ)) → LeadRows s (plain_lead s (types_of s)) d → LeadTable s d
    plain-table d held = lead-table s d (plain_lead s (types_of s)) (held.entries None) (to_structs plain-leads)
