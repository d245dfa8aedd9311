-- A table that holds the longest chains meets the rule of tiers.
-- Assumes nothing.
use mathlib.Core.Path.{◌≡◌, sym, ap, ◌∙◌}
use mathlib.Core.Logic.{◌≢◌, ◌⊎◌, inl, inr, ◌↔◌}
use Prim.Native.Nat.{ℕ, suc, ◌≤◌, min}
use lib.Dec.{T}
use Rattle.laws.proofs.Base.Counts.{Eq?, same, other, eq?}
use Rattle.rules.specs.Graph.{Graph}
use Rattle.rules.specs.Tiers.{largest}
use Rattle.laws.specs.TierPass.{up}
use Rattle.rules.specs.Rule3.{one, more}
use Rattle.laws.proofs.Graph.Chains.{Good, Edge, Endless}
use Rattle.laws.proofs.Graph.WalkOrder.{chain-end}
use Rattle.laws.proofs.Graph.LongestChain.{largest-ge, largest-at, tier, tier-endless, tier-step, loops-endless, endless-loops}

-- the tier rule of docs/RULES.md, over any graph
pub record GraphTiers (G : Graph) (t : ℕ → ℕ) : Type 0 where
  -- 255 where an endless chain starts
  pub endless : (x : ℕ) → T (G.struct x) → (t x ≡ 255) ↔ Endless G x
  -- else 0 without edges
  pub bare : (x : ℕ) → T (G.struct x) → ((j : ℕ) → Edge G x j → ⊥) → t x ≡ 0
  -- and one more than the largest tier held, at most 254: no less than for each edge, and as much as for one
  pub no_less : (x j : ℕ) → T (G.struct x) → (Endless G x → ⊥) → Edge G x j → min 254 (suc (t j)) ≤ t x
  pub no_more : (x : ℕ) → T (G.struct x) → (Endless G x → ⊥) → (t x ≡ 0) ⊎ ((j : ℕ) × Edge G x j × (t x ≡ min 254 (suc (t j))))

up-other : (t : ℕ) → t ≢ 255 → up t ≡ min 254 (suc t)
up-other t ne = go (eq? t 255)
  where
    go : Eq? t 255 → up t ≡ min 254 (suc t)
    go (same _ e) = absurd (ne e)
    go (other e _) = rw e

module _ (G : Graph) (n : ℕ) (good : Good G n) (t : ℕ → ℕ) (right : (x : ℕ) → T (G.struct x) → t x ≡ tier G n x) where
  ends : (x : ℕ) → T (G.struct x) → (tier G n x ≡ 255) ↔ Endless G x
  ends x sx =
      let b = good.below x sx in
      (λ e. loops-endless G x ((tier-endless G n good x b).0 e), λ e. (tier-endless G n good x b).1 (endless-loops G n good x b e))

  held : (x j : ℕ) → T (G.struct x) → (Endless G x → ⊥) → Edge G x j → up (tier G n j) ≡ min 254 (suc (t j))
  held x j sx no_end e =
      let sj = chain-end G n good (one e) in
      up-other (tier G n j) (λ q. let l = (tier-endless G n good j (good.below j sj)).0 q in no_end (loops-endless G x (l.0, more e l.1, l.2)))
      ∙ ap (λ k. min 254 (suc k)) (sym (right j sj))

  pub graph-tiers : GraphTiers G t
  graph-tiers =
      record {
        endless = λ x sx. rw (right x sx) (ends x sx);
        bare = at_bare;
        no_less = at_less;
        no_more = λ x sx ne. at_more x sx ne (largest-at (λ j. up (tier G n j)) G x);
      }
    where
      at_bare : (x : ℕ) → T (G.struct x) → ((j : ℕ) → Edge G x j → ⊥) → t x ≡ 0
      at_bare x sx none = right x sx ∙ tier-step G n good x (good.below x sx) ∙ go (largest-at (λ j. up (tier G n j)) G x)
        where
          go : (largest (λ j. up (tier G n j)) G x (G.fields x) ≡ 0)
              ⊎ ((j : ℕ) × Edge G x j × (largest (λ j. up (tier G n j)) G x (G.fields x) ≡ up (tier G n j)))
              → largest (λ j. up (tier G n j)) G x (G.fields x) ≡ 0
          go (inl e) = e
          go (inr r) = absurd (none r.0 r.1)

      at_less : (x j : ℕ) → T (G.struct x) → (Endless G x → ⊥) → Edge G x j → min 254 (suc (t j)) ≤ t x
      at_less x j sx ne e = rw (right x sx, tier-step G n good x (good.below x sx), ← held x j sx ne e) (largest-ge (λ j. up (tier G n j)) G x j e)

      at_more : (x : ℕ) → T (G.struct x) → (Endless G x → ⊥)
          → (largest (λ j. up (tier G n j)) G x (G.fields x) ≡ 0)
          ⊎ ((j : ℕ) × Edge G x j × (largest (λ j. up (tier G n j)) G x (G.fields x) ≡ up (tier G n j)))
          → (t x ≡ 0) ⊎ ((j : ℕ) × Edge G x j × (t x ≡ min 254 (suc (t j))))
      at_more x sx ne (inl e) = inl (right x sx ∙ tier-step G n good x (good.below x sx) ∙ e)
      at_more x sx ne (inr r) = inr (r.0, r.1, right x sx ∙ tier-step G n good x (good.below x sx) ∙ r.2 ∙ held x r.0 sx ne r.1)
