-- A visit adds exactly the rows that its row reaches.
-- Assumes nothing.
use Prim.Native.Nat.{ℕ, zero, suc, ◌<◌}
use mathlib.Core.Path.{◌≡◌}
use mathlib.Core.Logic.{◌⊎◌, inl, inr}
use mathlib.Core.List.{List, [], ◌∷◌, foldl}
use native.Mathlib.Omega.{arith}
use Rattle.rules.specs.View.{rows, shown}
use Rattle.rules.specs.Collect.{enter, visit}
use Rattle.rules.specs.Reach.{In, Reaches, here, on}
use Rattle.laws.proofs.Base.Members.{in_head, in_tail, in-cons}
use Rattle.laws.proofs.Sheet.Collect.Skip.{enter-cases, visit-grows, fold-grows}

module _ (s : List ℕ) where
  -- a row of a list reaches x
  pub record From (l : List ℕ) (x : ℕ) : Type 0 where
    pub row : ℕ
    pub there : In row l
    pub reaches : Reaches s row x

  from_tail : (y : ℕ) (l : List ℕ) (x : ℕ) → From l x → From (y ∷ l) x
  from_tail y l x h = record { row = h.row; there = in_tail h.row y l h.there; reaches = h.reaches }

  pub fold-reached : (f : ℕ) → ((r : ℕ) (all : List ℕ) (x : ℕ) → In x (visit s f all r) → In x all ⊎ Reaches s r x)
      → (l all : List ℕ) (x : ℕ) → In x (foldl (visit s f) all l) → In x all ⊎ From l x
  fold-reached f v [] all x h = inl h
  fold-reached f v (y ∷ l) all x h = go (fold-reached f v l (visit s f all y) x h)
    where
      by : In x all ⊎ Reaches s y x → In x all ⊎ From (y ∷ l) x
      by (inl i) = inl i
      by (inr p) = inr (record { row = y; there = in_head y l; reaches = p })

      go : In x (visit s f all y) ⊎ From l x → In x all ⊎ From (y ∷ l) x
      go (inl i) = by (v y all x i)
      go (inr p) = inr (from_tail y l x p)

  -- nothing else enters
  pub visit-reached : (f r : ℕ) (all : List ℕ) (x : ℕ) → In x (visit s f all r) → In x all ⊎ Reaches s r x
  unfolding visit
  visit-reached zero r all x h = inl h
  visit-reached (suc f) r all x h = go (fold-reached f (visit-reached f) (shown s r) (enter s all r) x h)
    where
      by : In x all ⊎ (x ≡ r) → In x all ⊎ Reaches s r x
      by (inl i) = inl i
      by (inr e) = inr (rw e here)

      go : In x (enter s all r) ⊎ From (shown s r) x → In x all ⊎ Reaches s r x
      go (inl i) = by (enter-cases s all r x i)
      go (inr p) = inr (on p.there p.reaches)

  module _ (falls : (r : ℕ) → r < rows s → (x : ℕ) → In x (shown s r) → x < r) where
    fold-in : (f : ℕ) (l all : List ℕ) (q x : ℕ) → ((y : ℕ) → In y l → (y < f) × (y < rows s)) → In q l → ((a : List ℕ) → In x (visit s f a q))
        → In x (foldl (visit s f) all l)
    fold-in f [] all q x b i h = absurd (omega arith)
    fold-in f (y ∷ l) all q x b i h = go (in-cons q y l i) (fold-in f l (visit s f all y) q x (λ z k. b z (in_tail z y l k)))
      where
        go : (q ≡ y) ⊎ In q l → (In q l → ((a : List ℕ) → In x (visit s f a q)) → In x (foldl (visit s f) (visit s f all y) l))
            → In x (foldl (visit s f) (visit s f all y) l)
        go (inl e) ih =
            (fold-grows s (visit s f) l (visit s f all y) (λ a z k. let m = b z (in_tail z y l k) in visit-grows s falls f z a m.0 m.1)).0.kept x
            (rw e at (h all))
        go (inr k) ih = ih k h

    -- and all of it does
    pub visit-reaches : (f r : ℕ) (all : List ℕ) (x : ℕ) → r < f → r < rows s → Reaches s r x → In x (visit s f all r)
    unfolding visit
    visit-reaches zero r all x l t p = absurd (omega arith)
    visit-reaches (suc f) r all x l t here = (visit-grows s falls (suc f) r all l t).1
    visit-reaches (suc f) r all x l t (on {q = q} i p) =
        let below : (y : ℕ) → In y (shown s r) → (y < f) × (y < rows s) = λ y k. let d = falls r t y k in (omega arith, omega arith) in
        fold-in f (shown s r) (enter s all r) q x below i (λ a. visit-reaches f q a x (below q i).0 (below q i).1 p)

    pub fold-reaches : (f : ℕ) (l all : List ℕ) (x : ℕ) → ((y : ℕ) → In y l → (y < f) × (y < rows s)) → From l x → In x (foldl (visit s f) all l)
    fold-reaches f l all x b p =
        fold-in f l all p.row x b p.there (λ a. let m = b p.row p.there in visit-reaches f p.row a x m.0 m.1 p.reaches)
