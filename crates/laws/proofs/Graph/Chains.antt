-- Edges of any graph, and its chains, cycles and endless chains: those of rule 3, over its edges. What the theorems on the walk and the tiers speak of.
-- Assumes nothing: these are definitions.
use mathlib.Core.Path.{◌≡◌}
use mathlib.Core.Logic.{◌≢◌}
use Prim.Native.Nat.{ℕ, ◌≤◌, ◌<◌}
use lib.Dec.{T}
use Rattle.rules.specs.Numbers.{no_item, most_items}
use Rattle.rules.specs.Graph.{Graph}
use Rattle.rules.specs.Rule3 as R

-- n items; a field leads to a struct item
pub record Good (G : Graph) (n : ℕ) : Type 0 where
  pub few : n ≤ most_items
  pub below : (x : ℕ) → T (G.struct x) → x < n
  pub closed : (i k : ℕ) → k < G.fields i → G.to i k ≢ no_item → T (G.struct (G.to i k))

-- some field of i leads to j
pub record Edge (G : Graph) (i j : ℕ) : Type 0 where
  pub place : ℕ
  pub is_field : place < G.fields i
  pub leads : G.to i place ≡ j
  pub is-item : j ≢ no_item

abbrev pub Chain : Graph → ℕ → ℕ → Type 0
Chain G = R.Chain (Edge G)

abbrev pub Cycle : Graph → Type 0
Cycle G = R.Cycle (Edge G)

abbrev pub Endless : Graph → ℕ → Type 0
Endless G = R.Endless (Edge G)
