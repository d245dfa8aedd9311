-- The struct items of a sheet and where their fields lead; their order, and message 2.
-- Assumes nothing: these are definitions.
use Rattle.std.specs.Prelude.{ℕ, List, ◌&&◌, ltb}
use Rattle.rules.specs.Numbers.{Ident, Struct, no_item, most_items}
use Rattle.rules.specs.Base.{if'◌then◌else◌}
use Rattle.rules.specs.View.{is, row_name, items, item_is, field_count, field}
use Rattle.rules.specs.Types.{Types, struct_of}
use Rattle.rules.specs.Graph.{Graph}
use Rattle.rules.specs.Walk.{Out, sort_out}

-- the struct items of a sheet, with fields that lead where their rows lead: to an item, or nowhere
abbrev pub graph_by : List ℕ → (lead : (row : ℕ) → ℕ) → Graph
graph_by s lead = record { struct = λ i. ltb i (items s) && item_is s Struct i; fields = field_count s; to = λ i k. lead (field s i k) }

-- a plain-named row leads to its name's last struct, atoms included
unfoldable pub plain_lead : List ℕ → Types → (row : ℕ) → ℕ
plain_lead s t r = if' is s Ident r then struct_of t (row_name s r) else no_item

abbrev pub graph_of : List ℕ → Types → Graph
graph_of s t = graph_by s (plain_lead s t)

-- `.sorted` of it is the order, `.errors` the messages 2
unfoldable pub walk_of : List ℕ → Types → Out
walk_of s t = sort_out (graph_of s t) most_items
