-- The lent table of what each row leads to, the graph that it stands for, and the table of what each item gives.
-- Assumes nothing: these are definitions.
use Rattle.std.specs.Prelude.{ℕ, ◌<◌, ◌≡◌, List, Option, get_or}
use Rattle.rules.specs.Format.{Accepted}
use Rattle.rules.specs.View.{rest, field_count, field}
use Rattle.rules.specs.Graph.{Graph}
use Rattle.rules.specs.Order.{graph_by}
use Rattle.rules.specs.Rule3.{IsStruct}
use Rattle.laws.specs.RowTable.{LeadTable, lead_by, item_of}
use Rattle.laws.specs.TierPass.{up}

-- the sheet is accepted, and by the table each of its rows leads to a struct item, or to none
pub record Led (s : List ℕ) (d : List (Option ℕ)) : Type 0 where
  pub accepted : Accepted s
  pub table : LeadTable s d

-- the struct items of a sheet, with fields that lead where the table says
abbrev pub table_graph : (s : List ℕ) (d : List (Option ℕ)) → Graph
table_graph s d = graph_by s (lead_by s d)

-- x is where field k leads of each struct whose fields stand at that place
abbrev pub FieldLeads : (s : List ℕ) (d : List (Option ℕ)) → (at k : ℕ) (x : Option ℕ) → Type 0
FieldLeads s d at k x = (i : ℕ) → IsStruct s i → at ≡ rest s i → k < field_count s i → item_of x ≡ lead_by s d (field s i k)

-- u has what the first n items give to a field, by the tiers t
pub record Ups (t u : List ℕ) (n : ℕ) : Type 0 where
  pub ups : (x : ℕ) → x < n → get_or u x 0 ≡ up (get_or t x 0)
