-- What the crate answers, of an accepted sheet and a table of what its rows lead to: the order, the messages 2 and the tiers, of every function of rows that
-- the table holds; and the rules of them where it holds what plain names lead to. A rule for other edges is one more field like `plain` and `rule` here.
-- Assumes nothing: these are definitions.
use Rattle.std.specs.Prelude.{ℕ, ◌≡◌, List, Option, length}
use Rattle.rules.specs.Numbers.{most_items}
use Rattle.rules.specs.View.{items}
use Rattle.rules.specs.Types.{types_of}
use Rattle.rules.specs.Walk.{Out, sort_out}
use Rattle.rules.specs.Order.{graph_by, plain_lead, walk_of}
use Rattle.rules.specs.Tiers.{tiers_of}
use Rattle.rules.specs.Answer.{places}
use Rattle.rules.specs.Rule3.{Holds, OrderRule, Cyclic, Tiers3}
use Rattle.laws.specs.RowTable.{LeadRows}
use Rattle.errors.specs.declared.Errors.{Errors}
use Rattle.errors.specs.Sink.{Reported}
use Rattle.toposort.specs.declared.Sorted.{Sorted}

-- the order of a walk, the visits that it took and its messages 2
pub record SortsBy (w : Out) (cx : Errors) (r : Sorted) (cx' : Errors) : Type 0 where
  pub order : r.order ≡ places w.sorted
  pub len : r.len ≡ length w.sorted
  pub calls : r.calls ≡ w.calls
  pub errors : Reported cx w.errors cx'

-- rule 3 of an order, and of the messages that come with it
pub record PlainRule (s o : List ℕ) : Type 0 where
  pub order : OrderRule s (Holds s) o
  pub cyclic : Cyclic s (walk_of s (types_of s)).errors

pub record Sorts (s : List ℕ) (d : List (Option ℕ)) (cx : Errors) (r : Sorted) (cx' : Errors) : Type 0 where
  pub sorts : (lead : (row : ℕ) → ℕ) → LeadRows s lead d → SortsBy (sort_out (graph_by s lead) most_items) cx r cx'
  pub plain : LeadRows s (plain_lead s (types_of s)) d → PlainRule s r.order
  -- whatever the table holds, the errors go to the same buffer
  pub same : cx'.out.ghost_name ≡ cx.out.ghost_name

-- the lent order is that of the walk, by a function that the table holds
pub record Ordered (s : List ℕ) (d : List (Option ℕ)) (o : List ℕ) : Type 0 where
  pub lead : (row : ℕ) → ℕ
  pub held : LeadRows s lead d
  pub order : o ≡ (sort_out (graph_by s lead) most_items).sorted

-- the tiers of a sheet's items, and the rule of tiers of them
pub record Tiered (s : List ℕ) (d : List (Option ℕ)) (r : List ℕ) : Type 0 where
  pub tiers : (lead : (row : ℕ) → ℕ) → LeadRows s lead d → r ≡ places (tiers_of (graph_by s lead) (items s))
  pub rule : LeadRows s (plain_lead s (types_of s)) d → Tiers3 s r
