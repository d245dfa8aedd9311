-- The tier of an item of any graph is the longest chain from it, and 255 where a chain from it never ends.
-- Assumes nothing.
use mathlib.Core.Path.{◌≡◌, refl, sym, ◌∙◌, subst}
use mathlib.Core.Logic.{◌≢◌, ◌⊎◌, inl, inr, ◌↔◌}
use mathlib.Core.Bool.{Bool, true, false, not, ◌||◌}
use Prim.Native.Nat.{ℕ, zero, suc, ◌≤◌, ◌<◌, max}
use native.Mathlib.Omega.{arith}
use native.Mathlib.Decide.{dec_le}
use lib.Dec.{T, eqb, leb, leb→le, nleb→lt}
use Rattle.laws.specs.Left.{free}
use Rattle.laws.specs.TierPass.{upper, up}
use Rattle.laws.proofs.Base.Counts.{Eq?, same, other, eq?, eqb_same, eqb-true, eqb-false, free_one}
use Rattle.rules.specs.Graph.{Graph}
use Rattle.rules.specs.Rule3.{one, more}
use Rattle.laws.proofs.Graph.Chains.{Good, Edge, Chain, Endless}
use Rattle.laws.proofs.Graph.ChainLaws.{snoc}
use Rattle.rules.specs.Tiers.{largest, tier_at}

abbrev pub Loops : Graph → ℕ → Type 0
Loops G i = (c : ℕ) × Chain G i c × Chain G c c

-- m edges, one after another, from i
abbrev pub Way : Graph → ℕ → ℕ → Type 0
Way G zero i = Unit {0}
Way G (suc m) i = (j : ℕ) × Edge G i j × Way G m j

-- the longest chain from i, counted up to k edges
unfoldable pub long : Graph → ℕ → ℕ → ℕ
long G zero i = 0
long G (suc k) i = largest (λ j. suc (long G k j)) G i (G.fields i)

unfoldable pub tier : Graph → ℕ → ℕ → ℕ
tier G n i = tier_at n (long G n i)

module _ (f : ℕ → ℕ) (G : Graph) (i : ℕ) where
  -- field x leads somewhere
  abbrev Leads : ℕ → Type 0
  Leads x = G.to i x ≢ 255

  grows : (b : Bool) (t u : ℕ) → t ≤ elim b as (λ _. ℕ) [ true ↦ t | false ↦ max t u ]
  grows true t u = omega arith
  grows false t u = omega arith

  field-ge : (k x : ℕ) → x < k → Leads x → f (G.to i x) ≤ largest f G i k
  unfolding largest
  field-ge zero x l ne = absurd (omega arith)
  field-ge (suc k) x l ne = go (eq? x k) (field-ge k x)
    where
      last : (b : Bool) → eqb (G.to i k) 255 ≡ b → Leads k → (t u : ℕ) → u ≤ elim b as (λ _. ℕ) [ true ↦ t | false ↦ max t u ]
      last true e m t u = absurd (m (eqb-true (G.to i k) 255 e))
      last false e m t u = omega arith

      go : Eq? x k → (x < k → Leads x → f (G.to i x) ≤ largest f G i k) → f (G.to i x) ≤ largest f G i (suc k)
      go (same _ p) ih = rw p (last (eqb (G.to i k) 255) refl (subst Leads p ne) (largest f G i k) (f (G.to i k)))
      go (other _ p) ih = let a = ih (omega arith) ne in let b = grows (eqb (G.to i k) 255) (largest f G i k) (f (G.to i k)) in omega arith

  abbrev At : ℕ → ℕ → Type 0
  At k t = (t ≡ 0) ⊎ ((x : ℕ) × (x < k) × Leads x × (t ≡ f (G.to i x)))

  field_at : (k : ℕ) → At k (largest f G i k)
  unfolding largest
  field_at zero = inl refl
  field_at (suc k) = go (eqb (G.to i k) 255) refl (dec_le (largest f G i k) (f (G.to i k))) (field_at k)
    where
      wide : At k (largest f G i k) → At (suc k) (largest f G i k)
      wide (inl e) = inl e
      wide (inr r) = let l : r.0 < k = r.1 in inr (r.0, omega arith, r.2, r.3)

      go : (b : Bool) → eqb (G.to i k) 255 ≡ b → Dec (largest f G i k ≤ f (G.to i k)) → At k (largest f G i k)
          → At (suc k) (elim b as (λ _. ℕ) [ true ↦ largest f G i k | false ↦ max (largest f G i k) (f (G.to i k)) ])
      go true e _ r = wide r
      go false e (yes l) r = inr (k, omega arith, eqb-false (G.to i k) 255 e, omega arith)
      go false e (no l) r = let z : max (largest f G i k) (f (G.to i k)) ≡ largest f G i k = omega arith in rw z (wide r)

  pub largest-ge : (j : ℕ) → Edge G i j → f j ≤ largest f G i (G.fields i)
  largest-ge j e =
      subst (λ (x : ℕ). f x ≤ largest f G i (G.fields i)) e.leads
      (field-ge (G.fields i) e.place e.is_field (λ q. e.is-item (sym e.leads ∙ q)))

  pub largest-at : (largest f G i (G.fields i) ≡ 0) ⊎ ((j : ℕ) × Edge G i j × (largest f G i (G.fields i) ≡ f j))
  largest-at = go (field_at (G.fields i))
    where
      go : At (G.fields i) (largest f G i (G.fields i)) → (largest f G i (G.fields i) ≡ 0) ⊎ ((j : ℕ) × Edge G i j × (largest f G i (G.fields i) ≡ f j))
      go (inl e) = inl e
      go (inr r) = inr (G.to i r.0, record { place = r.0; is_field = r.1; leads = refl; is-item = r.2 }, r.3)

fields-same : (f f' : ℕ → ℕ) (G : Graph) (i k : ℕ) → ((x : ℕ) → x < k → G.to i x ≢ 255 → f (G.to i x) ≡ f' (G.to i x))
    → largest f G i k ≡ largest f' G i k
unfolding largest
fields-same f f' G i zero e = refl
fields-same f f' G i (suc k) e = go (eqb (G.to i k) 255) refl (fields-same f f' G i k (λ x l. e x (omega arith)))
  where
    go : (b : Bool) → eqb (G.to i k) 255 ≡ b → largest f G i k ≡ largest f' G i k
        → ◌≡◌ {A = ℕ} (elim b as (λ _. ℕ) [ true ↦ largest f G i k | false ↦ max (largest f G i k) (f (G.to i k)) ])
        (elim b as (λ _. ℕ) [ true ↦ largest f' G i k | false ↦ max (largest f' G i k) (f' (G.to i k)) ])
    go true q r = r
    go false q r = rw (r, e k (omega arith) (eqb-false (G.to i k) 255 q))

pub largest-same : (f f' : ℕ → ℕ) (G : Graph) (i : ℕ) → ((j : ℕ) → Edge G i j → f j ≡ f' j)
    → largest f G i (G.fields i) ≡ largest f' G i (G.fields i)
largest-same f f' G i e = fields-same f f' G i (G.fields i) (λ x l ne. e (G.to i x) (record { place = x; is_field = l; leads = refl; is-item = ne }))

-- one item more is seen
abbrev seen : (ℕ → Bool) → ℕ → ℕ → Bool
seen p x y = eqb y x || p y

seen_one : (n x : ℕ) (p : ℕ → Bool) → x < n → p x ≡ false → suc (free n (seen p x)) ≡ free n p
seen_one n x p l e = free_one n x p (seen p x) (λ y ne. at y ne (eq? y x)) e (rw (eqb_same x)) l
  where
    at : (y : ℕ) → y ≢ x → Eq? y x → seen p x y ≡ p y
    at y ne (same _ q) = absurd (ne q)
    at y ne (other q _) = rw q

-- a test of order, decided, with its equation
data Le? (m n : ℕ) : Type 0 where
  most : leb m n ≡ true → m ≤ n → Le? m n
  longer : leb m n ≡ false → n < m → Le? m n

le? : (m n : ℕ) → Le? m n
le? m n = go (leb m n) refl
  where
    go : (b : Bool) → leb m n ≡ b → Le? m n
    go true e = most e (leb→le m n (subst T (sym e) tt))
    go false e = longer e (nleb→lt m n (subst (λ (b : Bool). T (not b)) (sym e) tt))

up_small : (t : ℕ) → t < 254 → up t ≡ suc t
up_small t l = go (eq? t 255)
  where
    go : Eq? t 255 → up t ≡ suc t
    go (same _ e) = absurd (omega arith)
    go (other e _) = rw e (omega arith)

up_le : (t : ℕ) → up t ≤ 255
up_le t = go (eqb t 255)
  where
    go : (b : Bool) → upper b t ≤ 255
    go true = omega arith
    go false = omega arith

largest-le : (f : ℕ → ℕ) (G : Graph) (i k : ℕ) → largest (λ j. up (f j)) G i k ≤ 255
unfolding largest
largest-le f G i zero = omega arith
largest-le f G i (suc k) = go (eqb (G.to i k) 255) (largest-le f G i k)
  where
    go : (b : Bool) → largest (λ j. up (f j)) G i k ≤ 255 → elim b as (λ _. ℕ) [
      | true ↦ largest (λ j. up (f j)) G i k
      | false ↦ max (largest (λ j. up (f j)) G i k) (up (f (G.to i k)))
    ] ≤ 255
    go true l = l
    go false l = omega (arith, up_le (f (G.to i k)))

module _ (G : Graph) where
  long-le : (k i : ℕ) → long G k i ≤ k
  unfolding long
  long-le zero i = omega arith
  long-le (suc k) i = go (largest-at (λ j. suc (long G k j)) G i) (long-le k)
    where
      go : (long G (suc k) i ≡ 0) ⊎ ((j : ℕ) × Edge G i j × (long G (suc k) i ≡ suc (long G k j))) → ((j : ℕ) → long G k j ≤ k) → long G (suc k) i ≤ suc k
      go (inl e) ih = omega arith
      go (inr r) ih = omega (arith, r.2, ih r.0)

  -- it is the length of a chain
  long-way : (k i : ℕ) → Way G (long G k i) i
  unfolding long
  long-way zero i = tt
  long-way (suc k) i = go (largest-at (λ j. suc (long G k j)) G i) (long-way k)
    where
      go : (long G (suc k) i ≡ 0) ⊎ ((j : ℕ) × Edge G i j × (long G (suc k) i ≡ suc (long G k j))) → ((j : ℕ) → Way G (long G k j) j)
          → Way G (long G (suc k) i) i
      go (inl e) ih = subst (λ (m : ℕ). Way G m i) (sym e) tt
      go (inr r) ih = subst (λ (m : ℕ). Way G m i) (sym r.2) (r.0, r.1, ih r.0)

  -- and none is longer
  way_long : (k m i : ℕ) → m ≤ k → Way G m i → m ≤ long G k i
  unfolding long
  way_long k zero i l w = omega arith
  way_long zero (suc m) i l w = absurd (omega arith)
  way_long (suc k) (suc m) i l w = omega (arith, way_long k m w.0 (omega arith) w.2, largest-ge (λ j. suc (long G k j)) G i w.0 w.1)

  shorter : (m i : ℕ) → Way G (suc m) i → Way G m i
  shorter zero i w = tt
  shorter (suc m) i w = (w.0, w.1, shorter m w.0 w.2)

  -- a chain that returns goes on for ever
  loop-way : (m : ℕ) {x c : ℕ} → Chain G x c → Chain G c c → Way G m x
  loop-way zero a b = tt
  loop-way (suc m) {x} {c} (one e) b = (c, e, loop-way m b b)
  loop-way (suc m) (more {j = j} e a) b = (j, e, loop-way m a b)

  move : {x c : ℕ} → Chain G x c → Chain G c c → (y : ℕ) × Edge G x y × Chain G y c
  move {x} {c} (one e) b = (c, e, b)
  move (more {j = j} e a) b = (j, e, a)

  spot : (c : ℕ) → Chain G c c → (x : ℕ) → Chain G x c → ℕ → (y : ℕ) × Chain G y c
  spot c b x a zero = (x, a)
  spot c b x a (suc k) = let s = spot c b x a k in let r = move s.1 b in (r.0, r.2)

  pub loops-endless : (i : ℕ) → Loops G i → Endless G i
  unfolding spot
  loops-endless i (c, a, b) = record { at = λ k. (spot c b i a k).0; begins = refl; goes_on = λ k. (move (spot c b i a k).1 b).1 }

  endless-way : {i : ℕ} → Endless G i → (m : ℕ) → Way G m i
  endless-way {i} e m = subst (λ (x : ℕ). Way G m x) e.begins (go m 0)
    where
      go : (m k : ℕ) → Way G m (e.at k)
      go zero k = tt
      go (suc m) k = (e.at (suc k), e.goes_on k, go m (suc k))

  module _ (n : ℕ) (good : Good G n) where
    closed : (i j : ℕ) → Edge G i j → j < n
    closed i j e =
        subst (λ (x : ℕ). x < n) e.leads (good.below (G.to i e.place) (good.closed i e.place e.is_field (λ q. e.is-item (sym e.leads ∙ q))))

    -- a chain of as many edges as there are items not seen meets one twice; `p` holds what was seen on the way
    pigeon : (m x : ℕ) (p : ℕ → Bool) → x < n → free n p ≤ m → ((s : ℕ) → T (p s) → Chain G s x) → Way G m x → Loops G x
    pigeon zero x p l f r w = go (p x) refl
      where
        go : (b : Bool) → p x ≡ b → Loops G x
        go true e = let c = r x (subst T (sym e) tt) in (x, c, c)
        go false e = absurd (omega (arith, seen_one n x p l e))
    pigeon (suc m) x p l f r w = go (p x) refl (pigeon m w.0 (seen p x) (closed x w.0 w.1))
      where
        on : (s : ℕ) → Eq? s x → T (eqb s x || p s) → Chain G s w.0
        on s (same _ e) t = subst (λ (y : ℕ). Chain G y w.0) (sym e) (one w.1)
        on s (other e _) t = snoc (r s (subst (λ (b : Bool). T (b || p s)) e t)) w.1

        go : (b : Bool) → p x ≡ b → (free n (seen p x) ≤ m → ((s : ℕ) → T (seen p x s) → Chain G s w.0) → Way G m w.0 → Loops G w.0) → Loops G x
        go true e ih = let c = r x (subst T (sym e) tt) in (x, c, c)
        go false e ih = let u = ih (omega (arith, seen_one n x p l e)) (λ s. on s (eq? s x)) w.2 in (u.0, more w.1 u.1, u.2)

    all-free : (k : ℕ) → free k (λ x. false) ≡ k
    unfolding free
    all-free zero = refl
    all-free (suc k) = omega (arith, all-free k)

    way-loops : (i : ℕ) → i < n → Way G n i → Loops G i
    way-loops i l w = pigeon n i (λ x. false) l (omega (arith, all-free n)) (λ s t. absurd t) w

    pub endless-loops : (i : ℕ) → i < n → Endless G i → Loops G i
    endless-loops i l e = way-loops i l (endless-way e n)

    long-loops : (i : ℕ) → i < n → n ≤ long G n i → Loops G i
    long-loops i l h = let e : long G n i ≡ n = omega (arith, long-le n i) in way-loops i l (subst (λ (m : ℕ). Way G m i) e (long-way n i))

    loops-long : (i : ℕ) → Loops G i → n ≤ long G n i
    loops-long i (c, a, b) = way_long n n i (omega arith) (loop-way n a b)

    -- one step more changes nothing where no chain is as long as the count of items
    settled : (i : ℕ) → long G n i < n → long G (suc n) i ≡ long G n i
    unfolding long
    settled i h = go (dec_le (long G (suc n) i) n)
      where
        up_to : long G n i ≤ long G (suc n) i
        up_to = way_long (suc n) (long G n i) i (omega arith) (long-way n i)

        go : Dec (long G (suc n) i ≤ n) → long G (suc n) i ≡ long G n i
        go (yes k) = omega (arith, up_to, way_long n (long G (suc n) i) i k (long-way (suc n) i))
        go (no k) =
            let e : long G (suc n) i ≡ suc n = omega (arith, long-le (suc n) i) in
            absurd (omega (arith, way_long n n i (omega arith) (shorter n i (subst (λ (m : ℕ). Way G m i) e (long-way (suc n) i)))))

    -- T5: 255 where an endless chain starts
    pub tier-endless : (i : ℕ) → i < n → (tier G n i ≡ 255) ↔ Loops G i
    unfolding tier
    tier-endless i l = (λ e. to e (le? n (long G n i)), λ h. from h (le? n (long G n i)))
      where
        to : tier G n i ≡ 255 → Le? n (long G n i) → Loops G i
        to e (most _ h) = long-loops i l h
        to e (longer q h) = let z : long G n i ≡ 255 = rw q at e in absurd (omega (arith, good.few))

        from : Loops G i → Le? n (long G n i) → tier G n i ≡ 255
        from h (most q _) = rw q
        from h (longer q k) = absurd (omega (arith, loops-long i h))

    -- and else one more than the largest tier held
    pub tier-step : (i : ℕ) → i < n → tier G n i ≡ largest (λ j. up (tier G n j)) G i (G.fields i)
    unfolding tier long
    tier-step i l = go (le? n (long G n i))
      where
        all : ℕ
        all = largest (λ j. up (tier G n j)) G i (G.fields i)

        looping : Loops G i → all ≡ 255
        looping (c, a, b) =
            let r = move a b in
            let e : tier G n r.0 ≡ 255 = (tier-endless r.0 (closed i r.0 r.1)).1 (c, r.2, b) in
            let k : up (tier G n r.0) ≤ all = largest-ge (λ j. up (tier G n j)) G i r.0 r.1 in
            let k' : 255 ≤ all = rw e at k in
            omega (arith, largest-le (tier G n) G i (G.fields i))

        held : long G n i < n → (j : ℕ) → Edge G i j → Le? n (long G n j) → up (tier G n j) ≡ suc (long G n j)
        held h j e (most _ k) = let u = long-loops j (closed i j e) k in absurd (omega (arith, loops-long i (u.0, more e u.1, u.2)))
        held h j e (longer q k) = rw q (up_small (long G n j) (omega (arith, good.few, settled i h, largest-ge (λ j. suc (long G n j)) G i j e)))

        go : Le? n (long G n i) → tier G n i ≡ all
        go (most q h) = rw q (sym (looping (long-loops i l h)))
        go (longer q h) = rw q (sym (largest-same (λ j. up (tier G n j)) (λ j. suc (long G n j)) G i (λ j e. held h j e (le? n (long G n j))) ∙ settled i h))

cut : (G : Graph) (a b x : ℕ) → b ≤ a → Way G a x → Way G b x
cut G a zero x l w = tt
cut G zero (suc b) x l w = absurd (omega arith)
cut G (suc a) (suc b) x l w = (w.0, w.1, cut G a b w.0 (omega arith) w.2)

-- over how many items the tiers are counted makes no difference, as long as all struct items are among them
pub tier-wide : (G : Graph) (n m : ℕ) → Good G n → Good G m → n ≤ m → (x : ℕ) → x < n → tier G n x ≡ tier G m x
unfolding tier
tier-wide G n m gn gm le x l = go (le? n (long G n x)) (le? m (long G m x))
  where
    both : Loops G x → tier G n x ≡ tier G m x
    both h = (tier-endless G n gn x l).1 h ∙ sym ((tier-endless G m gm x (omega arith)).1 h)

    same-long : long G n x < n → long G m x < m → Dec (long G m x ≤ n) → long G n x ≡ long G m x
    same-long a b (yes k) = omega (arith, way_long G m (long G n x) x (omega arith) (long-way G n x), way_long G n (long G m x) x k (long-way G m x))
    same-long a b (no k) = absurd (omega (arith, loops-long G n gn x (way-loops G n gn x l (cut G (long G m x) n x (omega arith) (long-way G m x)))))

    go : Le? n (long G n x) → Le? m (long G m x) → tier G n x ≡ tier G m x
    go (most _ a) _ = both (long-loops G n gn x l a)
    go (longer _ a) (most _ b) = both (long-loops G m gm x (omega arith) b)
    go (longer p a) (longer q b) = rw (p, q) (same-long a b (dec_le (long G m x) n))
