-- The search for improper structs finds exactly the names with an improper chain. A pass adds only such names, and fewer are left where it adds one; a pass
-- that adds none leaves nothing to find; so the passes end, and at the end every chain is found from its last field backwards.
-- Assumes nothing.
use mathlib.Core.Path.{◌≡◌, refl, sym, ap, ◌∙◌, subst}
use mathlib.Core.Logic.{◌≢◌, ◌⊎◌, inl, inr, ◌↔◌}
use mathlib.Core.Bool.{Bool, true, false, not, ◌||◌}
use Prim.Native.Nat.{ℕ, zero, suc, ◌≤◌, ◌<◌}
use native.Mathlib.Omega.{arith}
use lib.Dec.{T, eqb}
use lib.ListN.{length}
use borrow.Author.Tests.{not-true}
use Rattle.rules.specs.Names.{Words, empty, add, ◌∋◌}
use Rattle.rules.specs.Improper.{Look, fine, bad, to, Looks, hits, found, is_new, pass_to, search}
use Rattle.laws.specs.Left.{free}
use Rattle.laws.proofs.Base.Counts.{Eq?, same, other, eq?, eqb_same, free_one, free-le}
use Rattle.laws.proofs.Base.Tests.{never, or_cases, or_left, or_right, both-are}
use Rattle.laws.proofs.Names.NameSets.{has-add, length-add, has-empty}

-- a chain of fields, the first of the name's last struct, that ends in an improper one
pub data Improper (g : Looks) : ℕ → Type 0 where
  here : {i : ℕ} (k : ℕ) → k < g.fields i → g.look i k ≡ bad → Improper g i
  there : {i j : ℕ} (k : ℕ) → k < g.fields i → g.look i k ≡ to j → Improper g j → Improper g i

-- how many names are not in the set
abbrev pub left : Words → ℕ
left w = free 256 (λ n. w ∋ n)

-- a turn of a pass
abbrev turn : (new : Bool) → Words × Bool → (n : ℕ) → Words × Bool
turn b r n = elim b [ true ↦ (add r.0 n, true) | false ↦ r ]

module _ (g : Looks) where
  -- every name of the set has an improper chain
  abbrev pub Sound : Words → Type 0
  Sound w = (x : ℕ) → T (w ∋ x) → Improper g x

  -- ## The fields of one name

  found_at : (w : Words) (i k : ℕ) → T (found g w i k) → (x : ℕ) × (x < k) × T (hits w (g.look i x))
  unfolding found
  found_at w i zero t = absurd t
  found_at w i (suc k) t = go (or_cases (found g w i k) (hits w (g.look i k)) t) (found_at w i k)
    where
      go : T (found g w i k) ⊎ T (hits w (g.look i k)) → (T (found g w i k) → (x : ℕ) × (x < k) × T (hits w (g.look i x)))
          → (x : ℕ) × (x < suc k) × T (hits w (g.look i x))
      go (inl u) ih = let r = ih u in let l : r.0 < k = r.1 in (r.0, omega arith, r.2)
      go (inr u) ih = (k, omega arith, u)

  at-found : (w : Words) (i k x : ℕ) → x < k → T (hits w (g.look i x)) → T (found g w i k)
  unfolding found
  at-found w i zero x l t = absurd (omega arith)
  at-found w i (suc k) x l t = go (eq? x k) (at-found w i k x)
    where
      go : Eq? x k → (x < k → T (hits w (g.look i x)) → T (found g w i k)) → T (found g w i k || hits w (g.look i k))
      go (same _ e) ih = or_right (found g w i k) (hits w (g.look i k)) (subst (λ (y : ℕ). T (hits w (g.look i y))) e t)
      go (other _ e) ih = or_left (found g w i k) (hits w (g.look i k)) (ih (omega arith) t)

  found-bad : (w : Words) (i : ℕ) → found g w i (g.fields i) ≡ true → Sound w → Improper g i
  found-bad w i h q = let r = found_at w i (g.fields i) (subst T (sym h) tt) in go r.0 r.1 (g.look i r.0) refl r.2
    where
      go : (x : ℕ) → x < g.fields i → (u : Look) → g.look i x ≡ u → T (hits w u) → Improper g i
      go x m fine e t = absurd t
      go x m bad e t = here x m e
      go x m (to j) e t = there x m e (q j t)

  -- ## A pass

  -- what a part of a pass makes of a set
  pub record Passed (w v : Words) (new : Bool) : Type 0 where
    pub sound : Sound w → Sound v
    pub less : left v ≤ left w
    pub fewer : new ≡ true → left v < left w
    pub idle : new ≡ false → v ≡ w
    pub four : length v ≡ 4

  -- one name enters
  entered : {w v : Words} {new : Bool} (i : ℕ) → i < 256 → is_new g v i ≡ true → Passed w v new → Passed w (add v i) true
  unfolding is_new
  entered {v = v} i l e p =
      let b = both-are (not (v ∋ i)) (found g v i (g.fields i)) e in
      let has : (x : ℕ) → add v i ∋ x ≡ (eqb x i || v ∋ x) = λ x. has-add v i x p.four l in
      let absent : v ∋ i ≡ false = not-true (v ∋ i) b.0 in
      let h : suc (left (add v i)) ≡ left v =
      free_one 256 i (λ n. v ∋ n) (λ n. add v i ∋ n) (λ x ne. apart x ne (eq? x i) (has x)) absent (rw (has i, eqb_same i)) l in
      record {
        sound = λ q x. at x (eq? x i) (has x) (found-bad v i b.1 (p.sound q)) (p.sound q);
        less = omega (arith, p.less);
        fewer = λ _. omega (arith, p.less);
        idle = λ z. never (sym z);
        four = length-add v i ∙ p.four;
      }
    where
      apart : (x : ℕ) → x ≢ i → Eq? x i → add v i ∋ x ≡ (eqb x i || v ∋ x) → add v i ∋ x ≡ v ∋ x
      apart x ne (same _ q) h = absurd (ne q)
      apart x ne (other d _) h = h ∙ ap (λ c. c || v ∋ x) d

      at : (x : ℕ) → Eq? x i → add v i ∋ x ≡ (eqb x i || v ∋ x) → Improper g i → Sound v → T (add v i ∋ x) → Improper g x
      at x (same _ q) h r s t = subst (λ (y : ℕ). Improper g y) (sym q) r
      at x (other d q) h r s t = s x (subst T (apart x q (other d q) h) t)

  pub passed : (k : ℕ) → k ≤ 256 → (w : Words) → length w ≡ 4 → Passed w (pass_to g k w).0 (pass_to g k w).1
  unfolding pass_to
  passed zero l w o = record { sound = λ q. q; less = omega arith; fewer = λ z. never z; idle = λ _. refl; four = o }
  passed (suc k) l w o = go (is_new g (pass_to g k w).0 k) refl (passed k (omega arith) w o)
    where
      r : Words × Bool
      r = pass_to g k w

      go : (b : Bool) → is_new g r.0 k ≡ b → Passed w r.0 r.1
          → Passed w (turn b r k).0 (turn b r k).1
      go true e p = entered k l e p
      go false e p = p

  -- ## When a pass finds none

  -- nothing is left to find
  Closed : Words → Type 0
  Closed w = (x : ℕ) → x < 256 → w ∋ x ≡ false → found g w x (g.fields x) ≡ false

  quiet : (k : ℕ) → k ≤ 256 → (w : Words) → length w ≡ 4 → (pass_to g k w).1 ≡ false → (x : ℕ) → x < k → w ∋ x ≡ false → found g w x (g.fields x) ≡ false
  unfolding pass_to is_new
  quiet zero l w o e x m h = absurd (omega arith)
  quiet (suc k) l w o e x m h = go (is_new g (pass_to g k w).0 k) refl e (quiet k (omega arith) w o)
    where
      r : Words × Bool
      r = pass_to g k w

      absent : is_new g w k ≡ false → w ∋ k ≡ false → found g w k (g.fields k) ≡ false
      absent q z = rw z at q

      go : (b : Bool) → is_new g r.0 k ≡ b → (turn b r k).1 ≡ false
          → (r.1 ≡ false → (y : ℕ) → y < k → w ∋ y ≡ false → found g w y (g.fields y) ≡ false)
          → found g w x (g.fields x) ≡ false
      go true q z ih = never (sym z)
      go false q z ih = by (eq? x k)
        where
          by : Eq? x k → found g w x (g.fields x) ≡ false
          by (other _ d) = ih z x (omega arith) h
          by (same _ d) = rw d (absent (ap (λ v. is_new g v k) (sym ((passed k (omega arith) w o).idle z)) ∙ q) (ap (λ y. w ∋ y) (sym d) ∙ h))

  complete : (closed : (i j k : ℕ) → k < g.fields i → g.look i k ≡ to j → j < 256) (w : Words) → Closed w → {x : ℕ} → Improper g x → x < 256 → T (w ∋ x)
  unfolding Closed
  complete closed w c {x} (here k m e) l = go (w ∋ x) refl
    where
      go : (h : Bool) → w ∋ x ≡ h → T h
      go true q = tt
      go false q = subst T (c x l q) (at-found w x (g.fields x) k m (subst (λ (u : Look). T (hits w u)) (sym e) tt))
  complete closed w c {x} (there {j = j} k m e r) l = go (w ∋ x) refl (complete closed w c r (closed x j k m e))
    where
      go : (h : Bool) → w ∋ x ≡ h → T (w ∋ j) → T h
      go true q t = tt
      go false q t = subst T (c x l q) (at-found w x (g.fields x) k m (subst (λ (u : Look). T (hits w u)) (sym e) t))

  -- ## The search

  searched : (f : ℕ) (w : Words) → length w ≡ 4 → left w < f → Sound w → Sound (search g f w) × Closed (search g f w)
  unfolding search Closed
  searched zero w o l q = absurd (omega arith)
  searched (suc f) w o l q = go r.1 refl (λ m. searched f r.0 p.four m (p.sound q))
    where
      r : Words × Bool
      r = pass_to g 256 w

      p : Passed w r.0 r.1
      p = passed 256 (omega arith) w o

      End : Words → Type 0
      End v = Sound v × Closed v

      go : (b : Bool) → r.1 ≡ b → (left r.0 < f → End (search g f r.0)) → End (elim b as (λ _. Words) [ true ↦ search g f r.0 | false ↦ r.0 ])
      go true e ih = ih (omega (arith, p.fewer e))
      go false e ih = (p.sound q, subst Closed (sym (p.idle e)) (quiet 256 (omega arith) w o e))

  pub improper-found : ((i j k : ℕ) → k < g.fields i → g.look i k ≡ to j → j < 256) → (x : ℕ) → x < 256 → T (search g 257 empty ∋ x) ↔ Improper g x
  improper-found closed x l =
      let r = searched 257 empty refl (omega (arith, free-le 256 (λ n. empty ∋ n))) (λ y t. absurd (subst T (has-empty y) t)) in
      (r.0 x, λ p. complete closed (search g 257 empty) r.1 p l)
