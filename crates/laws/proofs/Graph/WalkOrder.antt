-- The walk's order has each struct item once, after what it holds where no chain returns, and a message exactly where one does.
-- Assumes nothing.
use mathlib.Core.Path.{◌≡◌, refl, sym, ◌∙◌, subst}
use mathlib.Core.Logic.{◌⊎◌, inl, inr, ◌↔◌}
use mathlib.Core.Bool.{Bool, true, false}
use mathlib.Core.List.{List, [], ◌∷◌}
use Prim.Native.Nat.{ℕ, suc, ◌+◌, ◌<◌}
use native.Mathlib.Omega.{arith}
use lib.Dec.{T}
use lib.ListN.{length, get_or}
use Rattle.rules.specs.Diagnostics.{bit}
use Rattle.rules.specs.Count.{count, place}
use Rattle.rules.specs.Graph.{Graph}
use Rattle.rules.specs.Rule3.{one, more}
use Rattle.laws.proofs.Graph.Chains.{Good, Edge, Chain, Cycle}
use Rattle.rules.specs.declared.Diagnostic.{Diagnostic}
use Rattle.rules.specs.Walk.{sort_out}
use Rattle.laws.proofs.Graph.WalkInvariant.{Inv, Earlier, Walked, walked}

-- every edge of a struct item leads to one that stands earlier
abbrev pub InOrder : Graph → List ℕ → Type 0
InOrder G o = (i j : ℕ) → T (G.struct i) → Edge G i j → place o j < place o i

module _ (G : Graph) (n : ℕ) (good : Good G n) where
  result : Walked G n n (sort_out G n)
  unfolding sort_out
  result = walked G n good (suc n) (omega arith) n

  inv : Inv G n (sort_out G n).marks (sort_out G n).sorted (0 + length (sort_out G n).errors)
  inv = result.post.inv

  -- T1: the order has each struct item once, and nothing else
  pub each-once : (x : ℕ) → count x (sort_out G n).sorted ≡ bit (G.struct x)
  each-once x = go (G.struct x) refl (result.ends x)
    where
      go : (b : Bool) → G.struct x ≡ b → (get_or (sort_out G n).marks x 0 ≡ 0) ⊎ (get_or (sort_out G n).marks x 0 ≡ 2) → count x (sort_out G n).sorted ≡ bit b
      go true e _ = let t : T (G.struct x) = subst T (sym e) tt in omega (arith, inv.listed x, result.all x (good.below x t) t)
      go false e (inl p) = omega (arith, inv.listed x)
      go false e (inr p) = absurd (subst T e (inv.structs x (omega arith)))

  pub stands : (i : ℕ) → T (G.struct i) → 0 < count i (sort_out G n).sorted
  stands i si = omega (arith, each-once i, bit-true (G.struct i) si)
    where
      bit-true : (b : Bool) → T b → 0 < bit b
      bit-true true t = omega arith
      bit-true false t = absurd t

  -- of any graph: an edge leads to an earlier item, or closes a cycle
  pub edge-or-back : (i j : ℕ) → T (G.struct i) → Edge G i j → (place (sort_out G n).sorted j < place (sort_out G n).sorted i) ⊎ Chain G j i
  edge-or-back i j si e = inv.edges i j (stands i si) e

  edge-end : {i j : ℕ} → Edge G i j → T (G.struct j)
  edge-end {i} {j} e = subst (λ (x : ℕ). T (G.struct x)) e.leads (good.closed i e.place e.is_field (λ q. e.is-item (sym e.leads ∙ q)))

  pub chain-end : {i j : ℕ} → Chain G i j → T (G.struct j)
  chain-end (one e) = edge-end e
  chain-end (more e c) = chain-end c

  chain-earlier : (o : List ℕ) → InOrder G o → {i j : ℕ} → Chain G i j → T (G.struct i) → place o j < place o i
  chain-earlier o h {i} {j} (one e) si = h i j si e
  chain-earlier o h {i} (more {j = m} e c) si = omega (arith, h i m si e, chain-earlier o h c (edge-end e))

  -- T2: every struct item stands after all that it holds exactly where no chain returns to its start
  pub in_order : InOrder G (sort_out G n).sorted ↔ (Cycle G → ⊥)
  in_order =
      (λ h c. omega (arith, chain-earlier (sort_out G n).sorted h c.1 (chain-end c.1)), λ acyclic i j si e. go acyclic i j e (edge-or-back i j si e))
    where
      go : (Cycle G → ⊥) → (i j : ℕ) → Edge G i j → Earlier (sort_out G n).sorted j i ⊎ Chain G j i → Earlier (sort_out G n).sorted j i
      go acyclic i j e (inl q) = q
      go acyclic i j e (inr c) = absurd (acyclic (i, more e c))

  -- T3: a code is reported exactly where some chain returns to its start
  pub some-code : (d : Diagnostic) (ds : List Diagnostic) → (sort_out G n).errors ≡ d ∷ ds → Cycle G
  some-code d ds e = inv.dirty (rw e (omega arith))

  pub no_code : ((sort_out G n).errors ≡ []) ↔ (Cycle G → ⊥)
  no_code = (λ e. in_order.0 (λ i j si d. inv.clean (rw e) i j (stands i si) d), λ acyclic. go acyclic (sort_out G n).errors refl)
    where
      go : (Cycle G → ⊥) → (l : List Diagnostic) → (sort_out G n).errors ≡ l → l ≡ []
      go acyclic [] e = refl
      go acyclic (d ∷ ds) e = absurd (acyclic (some-code d ds e))

  -- so the answer decides it
  pub cyclic? : Dec (Cycle G)
  cyclic? = go (sort_out G n).errors refl
    where
      go : (l : List Diagnostic) → (sort_out G n).errors ≡ l → Dec (Cycle G)
      go [] e = no (no_code.0 e)
      go (d ∷ ds) e = yes (some-code d ds e)
