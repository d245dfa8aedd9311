-- The tier of each struct item: docs/RULES.md, "Order and tiers". It is the length of the longest chain of edges from the item, and 255 where a chain never
-- ends.
-- Assumes nothing: these are definitions.
use Rattle.std.specs.Prelude.{Bool, true, false, List, [], ◌∷◌, map, ℕ, zero, suc, max, eqb, leb, get_or, replicate}
use Rattle.rules.specs.Numbers.{no_item}
use Rattle.rules.specs.Base.{over}
use Rattle.rules.specs.Graph.{Graph}

-- the largest f of the items to which the first k fields of item i lead; 0 where none leads
unfoldable pub largest : (f : ℕ → ℕ) → Graph → (i k : ℕ) → ℕ
largest f G i zero = 0
largest f G i (suc k) = let m = largest f G i k in elim (eqb (G.to i k) no_item) [ true ↦ m | false ↦ max m (f (G.to i k)) ]

-- one more than the largest that item i holds, by a table; 0 without edges, and for what is no struct item
unfoldable pub one_above : Graph → List ℕ → (i : ℕ) → ℕ
one_above G t i = elim (G.struct i) [ true ↦ largest (λ j. suc (get_or t j 0)) G i (G.fields i) | false ↦ 0 ]

-- of each of n items, the longest chain from it, counted up to k edges
unfoldable pub longest : Graph → (n k : ℕ) → List ℕ
longest G n zero = replicate n 0
longest G n (suc k) = let t = longest G n k in over n (λ i. one_above G t i ∷ [])

abbrev pub capped : Bool → ℕ → ℕ
capped true m = 255
capped false m = m

-- over n items a chain of n edges meets an item twice, so it can go on without end; any other has fewer, and with 255 items at most 254
abbrev pub tier_at : (n longest : ℕ) → ℕ
tier_at n m = capped (leb n m) m

unfoldable pub tiers_of : Graph → (n : ℕ) → List ℕ
tiers_of G n = map (tier_at n) (longest G n n)
