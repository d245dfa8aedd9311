-- The tiers of specs/Tiers, entry by entry: each struct item has its tier, the others have 0.
-- Assumes nothing.
use mathlib.Core.Path.{◌≡◌, refl, sym, ap, ◌∙◌, subst}
use mathlib.Core.Bool.{Bool, true, false}
use mathlib.Core.List.{List, [], ◌∷◌, map}
use Prim.Native.Nat.{ℕ, zero, suc, ◌≤◌, ◌<◌}
use native.Mathlib.Omega.{arith}
use native.Mathlib.Decide.{dec_lt}
use lib.Dec.{T, leb, leb→le}
use lib.ListN.{length, get_or, length-map, length-replicate, get_or-eq_default}
use Rattle.rules.specs.Graph.{Graph}
use Rattle.rules.specs.Answer.{places}
use Rattle.rules.specs.Tiers.{largest, one_above, longest, capped, tier_at, tiers_of}
use Rattle.laws.proofs.Base.Lists.{over-length, over-get, zeros-get, places-get}
use Rattle.rules.specs.Rule3.{one}
use Rattle.laws.proofs.Graph.Chains.{Good, Edge}
use Rattle.laws.proofs.Graph.WalkOrder.{chain-end}
use Rattle.laws.proofs.Graph.LongestChain.{long, tier, largest-same}

longest-length : (G : Graph) (n k : ℕ) → length (longest G n k) ≡ n
unfolding longest
longest-length G n zero = length-replicate n 0
longest-length G n (suc k) = over-length (λ i. one_above G (longest G n k) i) n

pub tiers-length : (G : Graph) (n : ℕ) → length (tiers_of G n) ≡ n
unfolding tiers_of
tiers-length G n = length-map (longest G n n) (tier_at n) ∙ longest-length G n n

map_get : (f : ℕ → ℕ) (l : List ℕ) (x : ℕ) → x < length l → get_or (map f l) x 0 ≡ f (get_or l x 0)
map_get f [] x h = absurd (omega arith)
map_get f (y ∷ ys) zero h = refl
map_get f (y ∷ ys) (suc x) h = map_get f ys x (omega arith)

module _ (G : Graph) (n : ℕ) (good : Good G n) where
  -- the table holds the longest chains
  longest-is : (k x : ℕ) → T (G.struct x) → get_or (longest G n k) x 0 ≡ long G k x
  unfolding longest long one_above
  longest-is zero x sx = zeros-get n x
  longest-is (suc k) x sx =
      over-get (λ i. one_above G (longest G n k) i) 0 n x (good.below x sx)
      ∙ go (G.struct x) refl (λ j e. ap (λ m. suc m) (longest-is k j (chain-end G n good (one e))))
    where
      go : (b : Bool) → G.struct x ≡ b → ((j : ℕ) → Edge G x j → suc (get_or (longest G n k) j 0) ≡ suc (long G k j))
          → ◌≡◌ {A = ℕ} (elim b as (λ _. ℕ) [ true ↦ largest (λ j. suc (get_or (longest G n k) j 0)) G x (G.fields x) | false ↦ 0 ])
          (largest (λ j. suc (long G k j)) G x (G.fields x))
      go true e held = largest-same (λ j. suc (get_or (longest G n k) j 0)) (λ j. suc (long G k j)) G x held
      go false e held = absurd (subst T e sx)

  -- and nothing for what is no struct item
  longest-none : (k x : ℕ) → x < n → (T (G.struct x) → ⊥) → get_or (longest G n k) x 0 ≡ 0
  unfolding longest one_above
  longest-none zero x l nt = zeros-get n x
  longest-none (suc k) x l nt = over-get (λ i. one_above G (longest G n k) i) 0 n x l ∙ go (G.struct x) refl
    where
      go : (b : Bool) → G.struct x ≡ b
          → ◌≡◌ {A = ℕ} (elim b as (λ _. ℕ) [ true ↦ largest (λ j. suc (get_or (longest G n k) j 0)) G x (G.fields x) | false ↦ 0 ]) 0
      go true e = absurd (nt (subst T (sym e) tt))
      go false e = refl

  pub tiers-all : (x : ℕ) → T (G.struct x) → get_or (tiers_of G n) x 0 ≡ tier G n x
  unfolding tiers_of tier
  tiers-all x sx = map_get (tier_at n) (longest G n n) x (omega (arith, longest-length G n n, good.below x sx)) ∙ ap (tier_at n) (longest-is n x sx)

  pub tiers-none : (x : ℕ) → (T (G.struct x) → ⊥) → get_or (tiers_of G n) x 0 ≡ 0
  unfolding tiers_of
  tiers-none x nt = go (dec_lt x n)
    where
      none : (b : Bool) → leb n 0 ≡ b → x < n → ◌≡◌ {A = ℕ} (capped b 0) 0
      none true e l = let z : n ≤ 0 = leb→le n 0 (subst T (sym e) tt) in absurd (omega arith)
      none false e l = refl

      go : Dec (x < n) → get_or (map (tier_at n) (longest G n n)) x 0 ≡ 0
      go (yes l) = map_get (tier_at n) (longest G n n) x (omega (arith, longest-length G n n)) ∙ ap (tier_at n) (longest-none n x l nt) ∙ none (leb n 0) refl l
      go (no l) = get_or-eq_default (map (tier_at n) (longest G n n)) 0 (omega (arith, length-map (longest G n n) (tier_at n), longest-length G n n))

  -- the same of the answer's table
  module _ (few : n ≤ 255) where
    at : (x : ℕ) → get_or (places (tiers_of G n)) x 0 ≡ get_or (tiers_of G n) x 0
    at = places-get (tiers_of G n) (omega (arith, tiers-length G n))

    pub table-all : (x : ℕ) → T (G.struct x) → get_or (places (tiers_of G n)) x 0 ≡ tier G n x
    table-all x sx = at x ∙ tiers-all x sx

    pub table_none : (x : ℕ) → (T (G.struct x) → ⊥) → get_or (places (tiers_of G n)) x 0 ≡ 0
    table_none x nt = at x ∙ tiers-none x nt
