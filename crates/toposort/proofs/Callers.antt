-- What a caller of `sort` and `tiers` shows, and what it reads off their answers, where the table holds what plain names lead to.
-- Assumes nothing.
use Prim.Native.Nat.{ℕ, ◌≤◌}
use mathlib.Core.List.{List}
use lib.ListN.{length, take}
use Rattle.rules.specs.Numbers.{most_items}
use Rattle.rules.specs.Format.{Accepted}
use Rattle.rules.specs.Types.{types_of}
use Rattle.rules.specs.Walk.{Out, sort_out}
use Rattle.rules.specs.Order.{graph_by, plain_lead, walk_of}
use Rattle.laws.specs.RowTable.{LeadRows}
use Rattle.std.specs.Prelude.{Option, None}
use Rattle.laws.proofs.Base.Lists.{places-take}
use Rattle.laws.proofs.Graph.WalkCalls.{order-few}
use Rattle.laws.proofs.Graph.SameEdges.{table-walk}
use Rattle.laws.proofs.Rule3.PlainFields.{plain-table}
use Rattle.errors.specs.declared.Errors.{Errors}
use Rattle.toposort.specs.declared.Sorted.{Sorted}
use Rattle.toposort.specs.Leads.{Led, table_graph}
use Rattle.toposort.specs.Post.{SortsBy, Sorts, Ordered}
use Rattle.toposort.proofs.Edges.{whole}

module _ {s : List ℕ} {d : List (Option ℕ)} (held : LeadRows s (plain_lead s (types_of s)) d) where
  pub plain-led : Accepted s → Led s d
  plain-led acc = record { accepted = acc; table = plain-table s acc d held }

  module _ {cx : Errors} {r : Sorted} {cx' : Errors} (h : Sorts s d cx r cx') where
    pub plain-sorts : SortsBy (walk_of s (types_of s)) cx r cx'
    unfolding walk_of
    plain-sorts = h.sorts (plain_lead s (types_of s)) held

    -- the places that count, and the order that stands in them
    module _ (acc : Accepted s) where
      w : Out
      w = sort_out (graph_by s (plain_lead s (types_of s))) most_items

      few : length w.sorted ≤ most_items
      unfolding w
      few =
          let led = plain-led acc in
          rw (table-walk s d (plain_lead s (types_of s)) (held.entries None) acc led.table most_items) (order-few (table_graph s d) most_items (whole led))

      pub plain-few : r.len ≤ most_items
      unfolding w
      plain-few = rw (h.sorts (plain_lead s (types_of s)) held).len few

      pub plain-ordered : Ordered s d (take r.len r.order)
      unfolding w
      plain-ordered =
          let p = h.sorts (plain_lead s (types_of s)) held in
          record { lead = plain_lead s (types_of s); held = held; order = rw (p.order, p.len) (places-take w.sorted few) }
