-- A row that is met again need not be walked again: all that it shows has been collected, since rows refer to smaller rows only. Above the row, the fuel
-- of either walk is of no account.
-- Assumes nothing.
use Prim.Native.Nat.{ℕ, zero, suc, ◌≤◌, ◌<◌}
use mathlib.Core.Path.{◌≡◌, refl, ap}
use mathlib.Core.Logic.{◌⊎◌, inl, inr}
use mathlib.Core.Bool.{Bool, true, false}
use mathlib.Core.List.{List, [], ◌∷◌, ◌++◌, foldl}
use native.Mathlib.Omega.{arith}
use Rattle.rules.specs.Base.{if'◌then◌else◌}
use Rattle.rules.specs.Count.{count}
use Rattle.rules.specs.View.{rows, shown}
use Rattle.rules.specs.Collect.{enter, visit}
use Rattle.rules.specs.Reach.{In}
use Rattle.laws.specs.Skip.{seen, skip_visit}
use Rattle.laws.proofs.Base.Counts.{Eq?, same, other, eq?, count-snoc-same, count-snoc-other}
use Rattle.laws.proofs.Base.Members.{in-none, in_head, in_tail, in-cons, in_one, in_left, in_right, in-cases, Seen?, old, new, seen?}

-- ## Entering a row

module _ (s : List ℕ) where
  enter-as : (all : List ℕ) (r : ℕ) (b : Bool) → seen all r ≡ b → enter s all r ≡ (if' b then all else all ++ r ∷ [])
  unfolding enter seen
  enter-as all r b e = ap (λ (c : Bool). if' c then all else all ++ r ∷ []) e

  pub enter-old : (all : List ℕ) (r : ℕ) → seen all r ≡ true → enter s all r ≡ all
  unfolding if'◌then◌else◌
  enter-old all r e = enter-as all r true e

  pub enter-new : (all : List ℕ) (r : ℕ) → seen all r ≡ false → enter s all r ≡ all ++ r ∷ []
  unfolding if'◌then◌else◌
  enter-new all r e = enter-as all r false e

  pub enter-kept : (all : List ℕ) (r x : ℕ) → In x all → In x (enter s all r)
  enter-kept all r x h = go (seen? all r)
    where
      go : Seen? all r → In x (enter s all r)
      go (old e _) = rw (enter-old all r e) h
      go (new e _) = rw (enter-new all r e) (in_left x all (r ∷ []) h)

  pub enter-in : (all : List ℕ) (r : ℕ) → In r (enter s all r)
  enter-in all r = go (seen? all r)
    where
      go : Seen? all r → In r (enter s all r)
      go (old e i) = rw (enter-old all r e) i
      go (new e _) = rw (enter-new all r e) (in_right r all (r ∷ []) (in_head r []))

  pub enter-cases : (all : List ℕ) (r x : ℕ) → In x (enter s all r) → In x all ⊎ (x ≡ r)
  enter-cases all r x h = go (seen? all r)
    where
      by : In x all ⊎ In x (r ∷ []) → In x all ⊎ (x ≡ r)
      by (inl i) = inl i
      by (inr i) = inr (in_one x r i)

      go : Seen? all r → In x all ⊎ (x ≡ r)
      go (old e _) = inl (rw (enter-old all r e) at h)
      go (new e _) = by (in-cases x all (r ∷ []) (rw (enter-new all r e) at h))

  -- what stands at most once still does
  pub enter-once : (all : List ℕ) (r : ℕ) → ((x : ℕ) → count x all ≤ 1) → (x : ℕ) → count x (enter s all r) ≤ 1
  enter-once all r h x = go (seen? all r) (eq? x r)
    where
      go : Seen? all r → Eq? x r → count x (enter s all r) ≤ 1
      go (old e _) q = rw (enter-old all r e) (h x)
      go (new e z) (same _ q) = rw (enter-new all r e, q, count-snoc-same r all) (omega arith)
      go (new e z) (other q _) = rw (enter-new all r e, count-snoc-other x r all q) (h x)

-- ## One row after the other

module _ (v : List ℕ → ℕ → List ℕ) where
  pub fold-none : (l all : List ℕ) → ((x : ℕ) → In x l → v all x ≡ all) → foldl v all l ≡ all
  fold-none [] all h = refl
  fold-none (x ∷ l) all h = rw (h x (in_head x l)) (fold-none l all (λ y i. h y (in_tail y x l i)))

  -- what each step keeps
  pub fold-keeps : (P : List ℕ → Type 0) (l all : List ℕ) → P all → ((a : List ℕ) (x : ℕ) → In x l → P a → P (v a x)) → P (foldl v all l)
  fold-keeps P [] all p h = p
  fold-keeps P (x ∷ l) all p h = fold-keeps P l (v all x) (h all x (in_head x l) p) (λ a y i. h a y (in_tail y x l i))

-- two walks that do the same where P holds, which each step keeps
pub fold_same : (v w : List ℕ → ℕ → List ℕ) (P : List ℕ → Type 0) (l all : List ℕ) → P all
    → ((a : List ℕ) (x : ℕ) → In x l → P a → v a x ≡ w a x) → ((a : List ℕ) (x : ℕ) → In x l → P a → P (w a x)) → foldl v all l ≡ foldl w all l
fold_same v w P [] all p h g = refl
fold_same v w P (x ∷ l) all p h g =
    rw (h all x (in_head x l) p) (fold_same v w P l (w all x) (g all x (in_head x l) p) (λ a y i. h a y (in_tail y x l i)) (λ a y i. g a y (in_tail y x l i)))

-- ## A list that grows

module _ (s : List ℕ) where
  -- all that a row of the list below b shows is there with it
  abbrev pub ClosedBelow : (b : ℕ) → List ℕ → Type 0
  ClosedBelow b all = (x : ℕ) → x < b → In x all → (y : ℕ) → In y (shown s x) → In y all

  abbrev pub Closed : List ℕ → Type 0
  Closed all = (x : ℕ) → In x all → (y : ℕ) → In y (shown s x) → In y all

  -- each new row is there with all that it shows
  pub record Grows (all more : List ℕ) : Type 0 where
    pub kept : (x : ℕ) → In x all → In x more
    pub fresh : (x : ℕ) → In x more → In x all ⊎ ((y : ℕ) → In y (shown s x) → In y more)

  grows-refl : (all : List ℕ) → Grows all all
  grows-refl all = record { kept = λ x h. h; fresh = λ x h. inl h }

  grows-trans : (a b c : List ℕ) → Grows a b → Grows b c → Grows a c
  grows-trans a b c p q = record { kept = λ x h. q.kept x (p.kept x h); fresh = λ x h. by x (q.fresh x h) }
    where
      early : (x : ℕ) → In x a ⊎ ((y : ℕ) → In y (shown s x) → In y b) → In x a ⊎ ((y : ℕ) → In y (shown s x) → In y c)
      early x (inl i) = inl i
      early x (inr k) = inr (λ y h. q.kept y (k y h))

      by : (x : ℕ) → In x b ⊎ ((y : ℕ) → In y (shown s x) → In y c) → In x a ⊎ ((y : ℕ) → In y (shown s x) → In y c)
      by x (inl i) = early x (p.fresh x i)
      by x (inr k) = inr k

  pub closed-grows : (b : ℕ) (all more : List ℕ) → ClosedBelow b all → Grows all more → ClosedBelow b more
  closed-grows b all more c g x l h y k = by (g.fresh x h)
    where
      by : In x all ⊎ ((z : ℕ) → In z (shown s x) → In z more) → In y more
      by (inl i) = g.kept y (c x l i y k)
      by (inr f) = f y k

  -- what a walk of one row does: the list grows, and the row is there
  abbrev pub Walked : (List ℕ → ℕ → List ℕ) → List ℕ → ℕ → Type 0
  Walked v all x = Grows all (v all x) × In x (v all x)

  pub fold-grows : (v : List ℕ → ℕ → List ℕ) (l all : List ℕ) → ((a : List ℕ) (x : ℕ) → In x l → Walked v a x)
      → Grows all (foldl v all l) × ((x : ℕ) → In x l → In x (foldl v all l))
  fold-grows v [] all h = (grows-refl all, λ x i. in-none x i)
  fold-grows v (x ∷ l) all h =
      let a = h all x (in_head x l) in
      let b = fold-grows v l (v all x) (λ m y i. h m y (in_tail y x l i)) in
      (grows-trans all (v all x) (foldl v (v all x) l) a.0 b.0, λ y i. by y a.1 b (in-cons y x l i))
    where
      by : (y : ℕ) → In x (v all x) → Grows (v all x) (foldl v (v all x) l) × ((z : ℕ) → In z l → In z (foldl v (v all x) l))
          → (y ≡ x) ⊎ In y l → In y (foldl v (v all x) l)
      by y a b (inl e) = rw e (b.0.kept x a)
      by y a b (inr i) = b.1 y i

  -- ## The two walks, where rows show smaller rows

  module _ (falls : (r : ℕ) → r < rows s → (x : ℕ) → In x (shown s r) → x < r) where
    pub visit-grows : (f r : ℕ) (all : List ℕ) → r < f → r < rows s → Walked (visit s f) all r
    unfolding visit
    visit-grows zero r all l t = absurd (omega arith)
    visit-grows (suc f) r all l t =
        let g = fold-grows (visit s f) (shown s r) (enter s all r) (λ a x i. let d = falls r t x i in visit-grows f x a (omega arith) (omega arith)) in
        (record { kept = λ x i. g.0.kept x (enter-kept s all r x i); fresh = λ x i. by g x (g.0.fresh x i) }, g.0.kept r (enter-in s all r))
      where
        more : List ℕ
        more = foldl (visit s f) (enter s all r) (shown s r)

        early : ((x : ℕ) → In x (shown s r) → In x more) → (x : ℕ) → In x all ⊎ (x ≡ r) → In x all ⊎ ((y : ℕ) → In y (shown s x) → In y more)
        early k x (inl i) = inl i
        early k x (inr q) = inr (λ y i. k y (rw q at i))

        by : (Grows (enter s all r) more × ((x : ℕ) → In x (shown s r) → In x more)) → (x : ℕ) → In x (enter s all r) ⊎ ((y : ℕ) → In y (shown s x) → In y more)
            → In x all ⊎ ((y : ℕ) → In y (shown s x) → In y more)
        by g x (inl i) = early g.1 x (enter-cases s all r x i)
        by g x (inr k) = inr k

    -- a row that was seen adds nothing
    pub visit-old : (f r : ℕ) (all : List ℕ) → r < rows s → ClosedBelow (suc r) all → seen all r ≡ true → In r all → visit s f all r ≡ all
    unfolding visit
    visit-old zero r all t c e h = refl
    visit-old (suc f) r all t c e h =
        rw (enter-old s all r e) (fold-none (visit s f) (shown s r) all (λ x i. go x (falls r t x i) (c r (omega arith) h x i) (visit-old f x all)))
      where
        go : (x : ℕ) → x < r → In x all → (x < rows s → ClosedBelow (suc x) all → seen all x ≡ true → In x all → visit s f all x ≡ all) → visit s f all x ≡ all
        go x d i ih = by (seen? all x)
          where
            by : Seen? all x → visit s f all x ≡ all
            by (old e j) = ih (omega arith) (λ y m. c y (omega arith)) e j
            by (new e z) = absurd (omega arith)

    -- skipping what was seen gives the same rows
    pub visit-skip : (f r : ℕ) (all : List ℕ) → r < f → r < rows s → ClosedBelow (suc r) all → visit s f all r ≡ skip_visit s f all r
    unfolding visit skip_visit
    visit-skip zero r all l t c = absurd (omega arith)
    visit-skip (suc f) r all l t c = go (seen? all r) (λ x a. visit-skip f x a)
      where
        closed-new : ClosedBelow r (all ++ r ∷ [])
        closed-new x m h y k = by (in-cases x all (r ∷ []) h)
          where
            by : In x all ⊎ In x (r ∷ []) → In y (all ++ r ∷ [])
            by (inl i) = in_left y all (r ∷ []) (c x (omega arith) i y k)
            by (inr i) = absurd (let q = in_one x r i in omega arith)

        go : Seen? all r → ((x : ℕ) (a : List ℕ) → x < f → x < rows s → ClosedBelow (suc x) a → visit s f a x ≡ skip_visit s f a x)
            → visit s (suc f) all r ≡ skip_visit s (suc f) all r
        go (old e i) ih = rw (e, skip_visit) (visit-old (suc f) r all t c e i)
        go (new e z) ih =
            rw (e, skip_visit, enter-new s all r e)
            (fold_same (visit s f) (skip_visit s f) (ClosedBelow r) (shown s r) (all ++ r ∷ []) closed-new
            (λ a x i d. let m = falls r t x i in ih x a (omega arith) (omega arith) (λ y n. d y (omega arith)))
            (λ a x i d. let m = falls r t x i in rw (← (ih x a (omega arith) (omega arith) (λ y n. d y (omega arith))))
            (closed-grows r a (visit s f a x) d (visit-grows f x a (omega arith) (omega arith)).0)))

    -- ## Fuel

    pub visit-fuel : (f g r : ℕ) (all : List ℕ) → r < f → r < g → r < rows s → visit s f all r ≡ visit s g all r
    unfolding visit
    visit-fuel zero g r all l m t = absurd (omega arith)
    visit-fuel (suc f) zero r all l m t = absurd (omega arith)
    visit-fuel (suc f) (suc g) r all l m t =
        fold_same (visit s f) (visit s g) (λ _. Unit) (shown s r) (enter s all r) tt
        (λ a x i _. let d = falls r t x i in visit-fuel f g x a (omega arith) (omega arith) (omega arith)) (λ _ _ _ _. tt)

    pub skip-fuel : (f g r : ℕ) (all : List ℕ) → r < f → r < g → r < rows s → skip_visit s f all r ≡ skip_visit s g all r
    unfolding skip_visit
    skip-fuel zero g r all l m t = absurd (omega arith)
    skip-fuel (suc f) zero r all l m t = absurd (omega arith)
    skip-fuel (suc f) (suc g) r all l m t =
        ap (λ (more : List ℕ). elim (seen all r) as (λ _. List ℕ) [ true ↦ all | false ↦ more ])
        (fold_same (skip_visit s f) (skip_visit s g) (λ _. Unit) (shown s r) (all ++ r ∷ []) tt
        (λ a x i _. let d = falls r t x i in skip-fuel f g x a (omega arith) (omega arith) (omega arith)) (λ _ _ _ _. tt))

    -- ## What a visit keeps

    pub visit-closed : (f r : ℕ) (all : List ℕ) → r < f → r < rows s → Closed all → Closed (visit s f all r)
    visit-closed f r all l t c x = closed-grows (suc x) all (visit s f all r) (λ y _. c y) (visit-grows f r all l t).0 x (omega arith)

pub visit-once : (s : List ℕ) (f r : ℕ) (all : List ℕ) → ((x : ℕ) → count x all ≤ 1) → (x : ℕ) → count x (visit s f all r) ≤ 1
unfolding visit
visit-once s zero r all h = h
visit-once s (suc f) r all h =
    fold-keeps (visit s f) (λ a. (x : ℕ) → count x a ≤ 1) (shown s r) (enter s all r) (enter-once s all r h) (λ a y _ k. visit-once s f y a k)

pub visit-kept : (s : List ℕ) (f r : ℕ) (all : List ℕ) (x : ℕ) → In x all → In x (visit s f all r)
unfolding visit
visit-kept s zero r all x h = h
visit-kept s (suc f) r all x h = fold-keeps (visit s f) (λ a. In x a) (shown s r) (enter s all r) (enter-kept s all r x h) (λ a y _ k. visit-kept s f y a x k)
