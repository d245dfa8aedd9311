-- The tiers as the code finds them, by one pass over the order: each struct item begins at 255, and gets its tier when its turn comes. Laws:
-- proofs/graph/TierPass, where the pass is shown to give the tiers of rules.
-- Assumes nothing: these are definitions.
use Rattle.std.specs.Prelude.{ℕ, zero, suc, min, Bool, true, false, List, eqb, get_or, set, replicate}
use Rattle.rules.specs.Graph.{Graph}
use Rattle.rules.specs.Tiers.{largest}

-- what an edge to an item of tier t gives: one more, at most 254; and 255 for 255
abbrev pub upper : Bool → ℕ → ℕ
upper true t = 255
upper false t = min 254 (suc t)

abbrev pub up : ℕ → ℕ
up t = upper (eqb t 255) t

-- the tier of item i, from the tiers so far: the largest that its fields give
abbrev pub tier_from : Graph → List ℕ → ℕ → ℕ
tier_from G t i = largest (λ j. up (get_or t j 0)) G i (G.fields i)

-- the first p places of the order, one after another
unfoldable pub tiers_to : Graph → (order : List ℕ) → (p : ℕ) → List ℕ → List ℕ
tiers_to G o zero t = t
tiers_to G o (suc p) t = let u = tiers_to G o p t in set u (get_or o p 0) (tier_from G u (get_or o p 0))

-- before the pass: 255 for each struct item among the first k, over t
unfoldable pub start_to : Graph → (k : ℕ) → List ℕ → List ℕ
start_to G zero t = t
start_to G (suc k) t = let u = start_to G k t in elim (G.struct k) [ true ↦ set u k 255 | false ↦ u ]

-- the tiers of n items, by the first p places of the order
unfoldable pub pass_of : Graph → (n : ℕ) → (order : List ℕ) → (p : ℕ) → List ℕ
pass_of G n o p = tiers_to G o p (start_to G n (replicate n 0))
