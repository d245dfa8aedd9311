-- Collecting, on every accepted sheet: skipping a row that was seen gives the same list (`skip-to`), each collected row stands once, a row is collected exactly
-- where an item reaches it, all are rows of the sheet, so there are at most as many; and above the row the fuel of a visit is of no account.
-- Assumes nothing.
pub mod Shown
pub mod Skip
pub mod Reach
use Prim.Native.Nat.{ℕ, zero, suc, ◌≤◌, ◌<◌}
use mathlib.Core.Path.{◌≡◌, refl, ap, ◌∙◌}
use mathlib.Core.Logic.{◌⊎◌, inl, inr, ◌↔◌}
use mathlib.Core.List.{List, foldl}
use native.Mathlib.Omega.{arith}
use lib.ListN.{length, get_or}
use Rattle.rules.specs.Format.{Accepted}
use Rattle.rules.specs.Count.{count}
use Rattle.rules.specs.View.{rows, items, shown}
use Rattle.rules.specs.Collect.{visit, shown_by, collected_to}
use Rattle.rules.specs.Types.{types_of}
use Rattle.rules.specs.Reach.{In, Reaches, here, on, Reached}
use Rattle.laws.specs.Skip.{skip_visit, skip_to}
use Rattle.laws.proofs.Base.Counts.{Eq?, same, other, eq?, count-get}
use Rattle.laws.proofs.Base.Sums.{once-few}
use Rattle.laws.proofs.Base.Members.{in-none}
use Rattle.laws.proofs.Sheet.Accepted.Sheet.{sheet-of}
use Shown.{shown-falls, shown_by-below}
use Skip.{Closed, fold-keeps, fold_same, visit-skip, visit-fuel, visit-closed, visit-once, visit-kept}
use Reach.{From, fold-reached, visit-reached, fold-reaches}

module _ (s : List ℕ) (acc : Accepted s) where
  -- ## One visit

  abbrev falls : (r : ℕ) → r < rows s → (x : ℕ) → In x (shown s r) → x < r
  falls = shown-falls s acc

  pub skip-same : (f r : ℕ) (all : List ℕ) → r < f → r < rows s → Closed s all → visit s f all r ≡ skip_visit s f all r
  skip-same f r all l t c = visit-skip s falls f r all l t (λ x _. c x)

  pub keeps-closed : (f r : ℕ) (all : List ℕ) → r < f → r < rows s → Closed s all → Closed s (visit s f all r)
  keeps-closed f r all l t c = visit-closed s falls f r all l t c

  pub any_fuel : (f g r : ℕ) (all : List ℕ) → r < f → r < g → r < rows s → visit s f all r ≡ visit s g all r
  any_fuel f g r all l m t = visit-fuel s falls f g r all l m t

  -- ## The items

  pub collected-closed : (k : ℕ) → k ≤ items s → Closed s (collected_to s k)
  unfolding collected_to
  collected-closed zero l = λ x h. in-none x h
  collected-closed (suc k) l =
      fold-keeps (visit s (rows s)) (Closed s) (shown_by s k) (collected_to s k) (collected-closed k (omega arith))
      (λ a x i c. let b = shown_by-below s acc k (omega arith) x i in keeps-closed (rows s) x a b b c)

  pub skip-to : (k : ℕ) → k ≤ items s → collected_to s k ≡ skip_to s k
  unfolding collected_to skip_to
  skip-to zero l = refl
  skip-to (suc k) l =
      fold_same (visit s (rows s)) (skip_visit s (rows s)) (Closed s) (shown_by s k) (collected_to s k) (collected-closed k (omega arith))
      (λ a x i c. let b = shown_by-below s acc k (omega arith) x i in skip-same (rows s) x a b b c)
      (λ a x i c. let b = shown_by-below s acc k (omega arith) x i in rw (← (skip-same (rows s) x a b b c)) (keeps-closed (rows s) x a b b c))
      ∙ ap (λ (all : List ℕ). foldl (skip_visit s (rows s)) all (shown_by s k)) (skip-to k (omega arith))

  pub collected-once : (k x : ℕ) → count x (collected_to s k) ≤ 1
  unfolding collected_to
  collected-once zero = λ x. omega arith
  collected-once (suc k) =
      fold-keeps (visit s (rows s)) (λ a. (x : ℕ) → count x a ≤ 1) (shown_by s k) (collected_to s k) (collected-once k) (λ a r _ h. visit-once s (rows s) r a h)

  -- ## Exactly what the items reach

  wider : (k x : ℕ) → Reached s k x → Reached s (suc k) x
  wider k x h = let l : h.item < k = h.below in record { item = h.item; below = omega arith; row = h.row; shows = h.shows; reaches = h.reaches }

  pub collected-is : (k : ℕ) → k ≤ items s → (x : ℕ) → In x (collected_to s k) ↔ Reached s k x
  unfolding collected_to
  collected-is zero l x = (λ h. in-none x h, λ h. let z : h.item < 0 = h.below in absurd (omega arith))
  collected-is (suc k) l x = go (collected-is k (omega arith) x)
    where
      last : From s (shown_by s k) x → Reached s (suc k) x
      last p = record { item = k; below = omega arith; row = p.row; shows = p.there; reaches = p.reaches }

      to : (In x (collected_to s k) → Reached s k x) → In x (collected_to s k) ⊎ From s (shown_by s k) x → Reached s (suc k) x
      to ih (inl i) = wider k x (ih i)
      to ih (inr p) = last p

      from : (Reached s k x → In x (collected_to s k)) → (h : Reached s (suc k) x) → Eq? h.item k → In x (collected_to s (suc k))
      from ih h (same _ e) =
          fold-reaches s falls (rows s) (shown_by s k) (collected_to s k) x (λ y i. let b = shown_by-below s acc k (omega arith) y i in (b, b))
          (record { row = h.row; there = rw e at h.shows; reaches = h.reaches })
      from ih h (other _ e) =
          let m : h.item < suc k = h.below in
          fold-keeps (visit s (rows s)) (λ a. In x a) (shown_by s k) (collected_to s k)
          (ih (record { item = h.item; below = omega arith; row = h.row; shows = h.shows; reaches = h.reaches }))
          (λ a r _ i. visit-kept s (rows s) r a x i)

      go : In x (collected_to s k) ↔ Reached s k x → In x (collected_to s (suc k)) ↔ Reached s (suc k) x
      go ih = (λ h. to ih.0 (fold-reached s (rows s) (visit-reached s (rows s)) (shown_by s k) (collected_to s k) x h), λ h. from ih.1 h (eq? h.item k))

  -- ## All are rows of the sheet

  pub reaches-below : {r x : ℕ} → Reaches s r x → r < rows s → x ≤ r
  reaches-below here l = omega arith
  reaches-below {r} (on {q = q} i p) l = let d = falls r l q i in let h = reaches-below p (omega arith) in omega arith

  pub collected-below : (k : ℕ) → k ≤ items s → (x : ℕ) → In x (collected_to s k) → x < rows s
  collected-below k l x i =
      let h = (collected-is k l x).0 i in
      let b : h.item < k = h.below in
      let m = shown_by-below s acc h.item (omega arith) h.row h.shows in
      let n = reaches-below h.reaches m in
      omega arith

  pub collected-few : (k : ℕ) → k ≤ items s → length (collected_to s k) ≤ rows s
  collected-few k l = once-few (rows s) (collected_to s k) (collected-once k) (collected-below k l)

  -- ## The whole sheet

  pub all-few : length (types_of s).all ≤ 1024
  unfolding types_of
  all-few = omega (arith, collected-few (items s) (omega arith), (sheet-of s acc).few-rows)

  pub all-below : (p : ℕ) → p < length (types_of s).all → get_or (types_of s).all p 0 < rows s
  unfolding types_of
  all-below p l = collected-below (items s) (omega arith) (get_or (collected_to s (items s)) p 0) (count-get (collected_to s (items s)) p l)

  pub all_once : (x : ℕ) → count x (types_of s).all ≤ 1
  unfolding types_of
  all_once x = collected-once (items s) x

  pub all-is : (x : ℕ) → In x (types_of s).all ↔ Reached s (items s) x
  unfolding types_of
  all-is x = collected-is (items s) (omega arith) x

  pub all-skip : (types_of s).all ≡ skip_to s (items s)
  unfolding types_of
  all-skip = skip-to (items s) (omega arith)
