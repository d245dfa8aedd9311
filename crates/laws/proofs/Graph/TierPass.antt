-- One pass over the order finds all tiers: each struct item begins at 255, and gets its tier when its turn comes. An item that is asked for before its turn
-- lies on a cycle, so its 255 is right already. `pass-is`: the pass gives the tiers of specs/Tiers.
-- Assumes nothing.
use mathlib.Core.Path.{◌≡◌, refl, sym, ap, ◌∙◌, subst}
use mathlib.Core.Logic.{◌≢◌, ◌⊎◌, inl, inr, ◌↔◌}
use mathlib.Core.Bool.{Bool, true, false}
use mathlib.Core.List.{List}
use Prim.Native.Nat.{ℕ, zero, suc, ◌≤◌, ◌<◌}
use native.Mathlib.Omega.{arith}
use native.Mathlib.Decide.{dec_lt}
use lib.Dec.{T}
use lib.ListN.{length, get_or, set, length-set, replicate, length-replicate}
use lib.Seq.{get_or-set_same, get_or-set_other, ext_get_or}
use Rattle.rules.specs.Diagnostics.{bit}
use Rattle.rules.specs.Count.{count, place}
use Rattle.laws.proofs.Base.Counts.{Eq?, same, other, eq?, place-lt, place_of, count-get, get-place}
use Rattle.rules.specs.Graph.{Graph}
use Rattle.rules.specs.Rule3.{one, more}
use Rattle.laws.proofs.Graph.Chains.{Good, Edge, Chain}
use Rattle.rules.specs.Walk.{sort_out}
use Rattle.laws.proofs.Graph.WalkOrder.{InOrder, in_order, each-once, edge-or-back, stands, chain-end}
use Rattle.laws.specs.TierPass.{up, tier_from, tiers_to, start_to, pass_of}
use Rattle.laws.proofs.Graph.LongestChain.{largest-same, tier-wide, tier, tier-endless, tier-step}
use Rattle.rules.specs.Tiers.{tiers_of}
use Rattle.rules.specs.Answer.{places}
use Rattle.laws.proofs.Graph.TierTable.{table-all, table_none}
use Rattle.laws.proofs.Base.Lists.{zeros-get, places-length}
use Rattle.laws.proofs.Base.Tests.{bit_le}

pub record Started (G : Graph) (n k : ℕ) (t : List ℕ) : Type 0 where
  pub size : length t ≡ n
  pub structs : (x : ℕ) → x < k → T (G.struct x) → get_or t x 0 ≡ 255
  pub others : (x : ℕ) → (T (G.struct x) → ⊥) → get_or t x 0 ≡ 0

pub started : (G : Graph) (n k : ℕ) → k ≤ n → Started G n k (start_to G k (replicate n 0))
unfolding start_to
started G n zero l = record { size = length-replicate n 0; structs = λ x q. absurd (omega arith); others = λ x _. zeros-get n x }
started G n (suc k) l = go (start_to G k (replicate n 0)) (started G n k (omega arith)) (G.struct k) refl
  where
    go : (u : List ℕ) → Started G n k u → (b : Bool) → G.struct k ≡ b → Started G n (suc k) (elim b as (λ _. List ℕ) [ true ↦ set u k 255 | false ↦ u ])
    go u h true e = record { size = length-set u k 255 ∙ h.size; structs = λ x. at-structs x (eq? x k); others = λ x. at_others x (eq? x k) }
      where
        at-structs : (x : ℕ) → Eq? x k → x < suc k → T (G.struct x) → get_or (set u k 255) x 0 ≡ 255
        at-structs x (same _ p) q t = rw p (get_or-set_same u k 255 0 (omega (arith, h.size)))
        at-structs x (other _ p) q t = rw (get_or-set_other u k x 255 0 p) (h.structs x (omega arith) t)

        at_others : (x : ℕ) → Eq? x k → (T (G.struct x) → ⊥) → get_or (set u k 255) x 0 ≡ 0
        at_others x (same _ p) nt = absurd (nt (subst (λ (y : ℕ). T (G.struct y)) (sym p) (subst T (sym e) tt)))
        at_others x (other _ p) nt = rw (get_or-set_other u k x 255 0 p) (h.others x nt)
    go u h false e = record { size = h.size; structs = λ x. at-structs x (eq? x k); others = h.others }
      where
        at-structs : (x : ℕ) → Eq? x k → x < suc k → T (G.struct x) → get_or u x 0 ≡ 255
        at-structs x (same _ p) q t = absurd (subst T e (subst (λ (y : ℕ). T (G.struct y)) p t))
        at-structs x (other _ p) q t = h.structs x (omega arith) t

-- only what stands in the order is set
pub tiers-other : (G : Graph) (o : List ℕ) (p : ℕ) (t : List ℕ) (x : ℕ) → ((q : ℕ) → q < p → get_or o q 0 ≢ x) → get_or (tiers_to G o p t) x 0 ≡ get_or t x 0
unfolding tiers_to
tiers-other G o zero t x h = refl
tiers-other G o (suc p) t x h =
    get_or-set_other (tiers_to G o p t) (get_or o p 0) x (tier_from G (tiers_to G o p t) (get_or o p 0)) 0 (λ e. h p (omega arith) (sym e))
    ∙ tiers-other G o p t x (λ q l. h q (omega arith))

pub length-tiers : (G : Graph) (o : List ℕ) (p : ℕ) (t : List ℕ) → length (tiers_to G o p t) ≡ length t
unfolding tiers_to
length-tiers G o zero t = refl
length-tiers G o (suc p) t = length-set (tiers_to G o p t) (get_or o p 0) (tier_from G (tiers_to G o p t) (get_or o p 0)) ∙ length-tiers G o p t

module _ (G : Graph) (n : ℕ) (good : Good G n) where
  record Begun (o : List ℕ) (p : ℕ) (t : List ℕ) : Type 0 where
    size : length t ≡ n
    given : (x : ℕ) → place o x < p → get_or t x 0 ≡ tier G n x
    waits : (x : ℕ) → T (G.struct x) → p ≤ place o x → get_or t x 0 ≡ 255

  module _ (o : List ℕ) (once : (x : ℕ) → count x o ≡ bit (G.struct x))
      (edges : (i j : ℕ) → T (G.struct i) → Edge G i j → (place o j < place o i) ⊎ Chain G j i) where
    is_struct : (x : ℕ) → 0 < count x o → T (G.struct x)
    is_struct x h = go (G.struct x) refl
      where
        go : (b : Bool) → G.struct x ≡ b → T b
        go true e = tt
        go false e = let z : count x o ≡ bit false = rw e at (once x) in absurd (omega arith)

    next : (p : ℕ) → p < length o → (t : List ℕ) → Begun o p t → Begun o (suc p) (set t (get_or o p 0) (tier_from G t (get_or o p 0)))
    next p l t h = record { size = length-set t i (tier_from G t i) ∙ h.size; given = λ x. at-given x (eq? x i); waits = λ x. at-waits x (eq? x i) }
      where
        i : ℕ
        i = get_or o p 0

        si : T (G.struct i)
        si = is_struct i (count-get o p l)

        at_p : place o i ≡ p
        at_p = place_of o p l (omega (arith, once i, bit_le (G.struct i)))

        fits : i < length t
        fits = omega (arith, h.size, good.below i si)

        held : (j : ℕ) → Edge G i j → get_or t j 0 ≡ tier G n j
        held j d = go (dec_lt (place o j) p) (edges i j si d)
          where
            sj : T (G.struct j)
            sj = chain-end G n good (one d)

            go : Dec (place o j < p) → (place o j < place o i) ⊎ Chain G j i → get_or t j 0 ≡ tier G n j
            go (yes q) _ = h.given j q
            go (no q) (inl r) = absurd (q (omega (arith, at_p)))
            go (no q) (inr c) = h.waits j sj (omega arith) ∙ sym ((tier-endless G n good j (good.below j sj)).1 (i, c, more d c))

        right : tier_from G t i ≡ tier G n i
        right = largest-same (λ j. up (get_or t j 0)) (λ j. up (tier G n j)) G i (λ j d. ap up (held j d)) ∙ sym (tier-step G n good i (good.below i si))

        at-given : (x : ℕ) → Eq? x i → place o x < suc p → get_or (set t i (tier_from G t i)) x 0 ≡ tier G n x
        at-given x (same _ e) q = rw e (get_or-set_same t i (tier_from G t i) 0 fits ∙ right)
        at-given x (other _ e) q = rw (get_or-set_other t i x (tier_from G t i) 0 e) (h.given x (go (dec_lt (place o x) p)))
          where
            go : Dec (place o x < p) → place o x < p
            go (yes r) = r
            go (no r) = let z : place o x ≡ p = omega arith in absurd (e (sym (get-place o x (omega arith)) ∙ ap (λ k. get_or o k 0) z))

        at-waits : (x : ℕ) → Eq? x i → T (G.struct x) → suc p ≤ place o x → get_or (set t i (tier_from G t i)) x 0 ≡ 255
        at-waits x (same _ e) sx q = absurd (omega (arith, at_p, ap (place o) e))
        at-waits x (other _ e) sx q = rw (get_or-set_other t i x (tier_from G t i) 0 e) (h.waits x sx (omega arith))

    steps : (p : ℕ) → p ≤ length o → (t : List ℕ) → Begun o 0 t → Begun o p (tiers_to G o p t)
    unfolding tiers_to
    steps zero l t h = h
    steps (suc p) l t h = next p l (tiers_to G o p t) (steps p (omega arith) t h)

  -- T5 of the pass: what begins at 255 for each struct item ends at its tier
  pub tiers-right : (t : List ℕ) → length t ≡ n → ((x : ℕ) → T (G.struct x) → get_or t x 0 ≡ 255) → (x : ℕ) → T (G.struct x)
      → get_or (tiers_to G (sort_out G n).sorted (length (sort_out G n).sorted) t) x 0 ≡ tier G n x
  tiers-right t l h x sx =
      let o = (sort_out G n).sorted in
      (steps o (each-once G n good) (edge-or-back G n good) (length o) (omega arith) t
      (record { size = l; given = λ y q. absurd (omega arith); waits = λ y sy _. h y sy })
      ).given x (place-lt o x (stands G n good x sx))

  -- every struct item stands after all that it holds exactly where no tier is 255
  pub in-order-tiers : InOrder G (sort_out G n).sorted ↔ ((x : ℕ) → T (G.struct x) → tier G n x ≢ 255)
  in-order-tiers = (
    λ h x sx e. let r = (tier-endless G n good x (good.below x sx)).0 e in (in_order G n good).0 h (r.0, r.2),
    λ h. (in_order G n good).1 (λ c. let s = chain-end G n good c.1 in h c.0 s
        ((tier-endless G n good c.0 (good.below c.0 s)).1 (c.0, c.1, c.1))),
  )

  -- the table of the walk's order: each struct item has its tier, the others 0
  pub pass_all : (x : ℕ) → T (G.struct x) → get_or (pass_of G n (sort_out G n).sorted (length (sort_out G n).sorted)) x 0 ≡ tier G n x
  unfolding pass_of
  pass_all x sx = let h = started G n n (omega arith) in tiers-right (start_to G n (replicate n 0)) h.size (λ y sy. h.structs y (good.below y sy) sy) x sx

  pub pass-none : (x : ℕ) → (T (G.struct x) → ⊥) → get_or (pass_of G n (sort_out G n).sorted (length (sort_out G n).sorted)) x 0 ≡ 0
  unfolding pass_of
  pass-none x nt =
      let o = (sort_out G n).sorted in
      let h = started G n n (omega arith) in
      tiers-other G o (length o) (start_to G n (replicate n 0)) x
      (λ q l e. nt (subst (λ (y : ℕ). T (G.struct y)) e (is_struct o (each-once G n good) (edge-or-back G n good) (get_or o q 0) (count-get o q l))))
      ∙ h.others x nt

-- over 255 items, for a graph whose struct items are among the first n: the pass gives the answer's tiers
module _ (G : Graph) (n : ℕ) (good : Good G n) (wide : Good G 255) where
  length-start : (k : ℕ) (t : List ℕ) → length (start_to G k t) ≡ length t
  unfolding start_to
  length-start zero t = refl
  length-start (suc k) t = go (G.struct k) (length-start k t)
    where
      go : (b : Bool) → length (start_to G k t) ≡ length t
          → length {A = ℕ} (elim b as (λ _. List ℕ) [ true ↦ set (start_to G k t) k 255 | false ↦ start_to G k t ]) ≡ length t
      go true h = length-set (start_to G k t) k 255 ∙ h
      go false h = h

  pub pass-is : pass_of G 255 (sort_out G 255).sorted (length (sort_out G 255).sorted) ≡ places (tiers_of G n)
  unfolding pass_of
  pass-is = ext_get_or 0 table (places (tiers_of G n)) (sizes ∙ sym (places-length (tiers_of G n))) (λ x _. at x (G.struct x) refl)
    where
      o : List ℕ
      o = (sort_out G 255).sorted

      table : List ℕ
      table = pass_of G 255 o (length o)

      sizes : length table ≡ 255
      sizes = length-tiers G o (length o) (start_to G 255 (replicate 255 0)) ∙ length-start 255 (replicate 255 0) ∙ length-replicate {A = ℕ} 255 0

      at : (x : ℕ) (b : Bool) → G.struct x ≡ b → get_or table x 0 ≡ get_or (places (tiers_of G n)) x 0
      at x true e =
          let sx : T (G.struct x) = subst T (sym e) tt in
          pass_all G 255 wide x sx ∙ sym (tier-wide G n 255 good wide good.few x (good.below x sx)) ∙ sym (table-all G n good good.few x sx)
      at x false e = let nt : T (G.struct x) → ⊥ = λ u. subst T e u in pass-none G 255 wide x nt ∙ sym (table_none G n good good.few x nt)
