-- Of the finds of a name the last one stands. Finds in a row, one more find, none; a pass, which notes what a test finds: after it a name has its last find of
-- that pass, or what it had before; and the table of all names, which one more find sets at its name.
-- Assumes nothing.
use Prim.Native.Nat.{ℕ, zero, suc, ◌≤◌, ◌<◌}
use mathlib.Core.Path.{◌≡◌, refl, sym, ap, ◌∙◌, subst}
use mathlib.Core.Logic.{◌≢◌}
use mathlib.Core.Bool.{Bool, true, false}
use mathlib.Core.List.{List, [], ◌∷◌, ◌++◌}
use native.Mathlib.Omega.{arith}
use lib.ListN.{length, get_or, set, replicate, length-set, length-replicate, get_or-replicate}
use lib.Seq.{get_or-set_same, get_or-set_other, ext_get_or}
use lib.Dec.{eqb}
use borrow.Author.Tests.{eq-eqb, ne_eqb}
use Rattle.rules.specs.Numbers.{name_count}
use Rattle.rules.specs.declared.UnpinReason.{UnpinReason}
use Rattle.std.proofs.Common.{Option, Some, None}
use Rattle.rules.specs.Base.{if'◌then◌else◌, over}
use Rattle.rules.specs.Unpin.{Find, last_for, last_of_all}
use Rattle.laws.proofs.Base.Counts.{Eq?, same, other, eq?}
use Rattle.laws.proofs.Base.Tests.{never}
use Rattle.laws.proofs.Base.Lists.{over-length, over-get}

-- ## One name

module _ (n : ℕ) where
  pub last-append : (u : Option UnpinReason) (fs gs : List Find) → last_for n u (fs ++ gs) ≡ last_for n (last_for n u fs) gs
  unfolding last_for
  last-append u [] gs = refl
  last-append u (f ∷ fs) gs = last-append (if' eqb f.0 n then Some f.1 else u) fs gs

  -- one more, of that name or of another
  last-same : (m : ℕ) (u : UnpinReason) (v : Option UnpinReason) → m ≡ n → last_for n v ((m, u) ∷ []) ≡ Some u
  unfolding last_for if'◌then◌else◌
  last-same m u v e = rw (eq-eqb m n e)

  last-other : (m : ℕ) (u : UnpinReason) (v : Option UnpinReason) → m ≢ n → last_for n v ((m, u) ∷ []) ≡ v
  unfolding last_for if'◌then◌else◌
  last-other m u v e = rw (ne_eqb m n e)

-- ## A pass

module _ (p : ℕ → Bool) (name : ℕ → ℕ) (val : ℕ → UnpinReason) where
  abbrev find_of : Bool → ℕ → List Find
  find_of b j = if' b then (name j, val j) ∷ [] else []

  -- the finds of the first k
  abbrev finds_to : (k : ℕ) → List Find
  finds_to k = over k (λ j. find_of (p j) j)

  -- what the first k leave for a name that had `old`
  pub data Pass (k n : ℕ) (old : Option UnpinReason) : Option UnpinReason → Type 0 where
    kept : ((j : ℕ) → j < k → p j ≡ true → name j ≢ n) → Pass k n old old
    last : {j : ℕ} → j < k → p j ≡ true → name j ≡ n → ((m : ℕ) → m < k → p m ≡ true → name m ≡ n → m ≤ j) → Pass k n old (Some (val j))

  -- one more that is not a find of that name
  widen : (k n : ℕ) (old : Option UnpinReason) {u : Option UnpinReason} → (p k ≡ true → name k ≢ n) → Pass k n old u → Pass (suc k) n old u
  widen k n old h (kept f) = kept λ j l t. at j l t (eq? j k)
    where
      at : (j : ℕ) → j < suc k → p j ≡ true → Eq? j k → name j ≢ n
      at j l t (same _ e) = rw e (h (subst (λ (x : ℕ). p x ≡ true) e t))
      at j l t (other _ e) = f j (omega arith) t
  widen k n old h (last {j} l t e f) = last {j = j} (omega arith) t e λ m w u q. at m w u q (eq? m k)
    where
      at : (m : ℕ) → m < suc k → p m ≡ true → name m ≡ n → Eq? m k → m ≤ j
      at m w u q (same _ d) = absurd (h (subst (λ (x : ℕ). p x ≡ true) d u) (subst (λ (x : ℕ). name x ≡ n) d q))
      at m w u q (other _ d) = f m (omega arith) u q

  pub pass-is : (old : Option UnpinReason) (k n : ℕ) → Pass k n old (last_for n old (finds_to k))
  unfolding last_for over if'◌then◌else◌
  pass-is old zero n = kept λ j m _. absurd (omega arith)
  pass-is old (suc k) n =
      subst (Pass (suc k) n old) (sym (last-append n old (finds_to k) (find_of (p k) k))) (go (p k) refl (eq? (name k) n) (pass-is old k n))
    where
      u : Option UnpinReason
      u = last_for n old (finds_to k)

      go : (b : Bool) → p k ≡ b → Eq? (name k) n → Pass k n old u → Pass (suc k) n old (last_for n u (find_of b k))
      go true e (same _ q) ih = subst (Pass (suc k) n old) (sym (last-same n (name k) (val k) u q)) (last (omega arith) e q (λ m h _ _. omega arith))
      go true e (other _ q) ih = subst (Pass (suc k) n old) (sym (last-other n (name k) (val k) u q)) (widen k n old (λ _. q) ih)
      go false e q ih = widen k n old (λ h. never (sym e ∙ h)) ih

-- ## All names

pub all-length : (fs : List Find) → length (last_of_all fs) ≡ name_count
unfolding last_of_all
all-length fs = over-length (λ n. last_for n None fs) name_count

pub all-get : (fs : List Find) (n : ℕ) → n < name_count → get_or (last_of_all fs) n None ≡ last_for n None fs
unfolding last_of_all
all-get fs n l = over-get (λ n. last_for n None fs) None name_count n l

pub all_set : (fs : List Find) (n : ℕ) (u : UnpinReason) → n < name_count → set (last_of_all fs) n (Some u) ≡ last_of_all (fs ++ (n, u) ∷ [])
all_set fs n u l =
    ext_get_or None (set (last_of_all fs) n (Some u)) (last_of_all more) (long ∙ sym (all-length more))
    (λ m h. at m (omega (arith, long)) (eq? m n))
  where
    more : List Find
    more = fs ++ (n, u) ∷ []

    long : length (set (last_of_all fs) n (Some u)) ≡ name_count
    long = length-set (last_of_all fs) n (Some u) ∙ all-length fs

    at : (m : ℕ) → m < name_count → Eq? m n → get_or (set (last_of_all fs) n (Some u)) m None ≡ get_or (last_of_all more) m None
    at m k (same _ e) =
        ap (λ (x : ℕ). get_or (set (last_of_all fs) n (Some u)) x None) e
        ∙ get_or-set_same (last_of_all fs) n (Some u) None (omega (arith, all-length fs))
        ∙ sym (all-get more m k ∙ (last-append m None fs ((n, u) ∷ []) ∙ last-same m n u (last_for m None fs) (sym e)))
    at m k (other _ e) =
        get_or-set_other (last_of_all fs) n m (Some u) None e ∙ all-get fs m k
        ∙ sym (all-get more m k ∙ (last-append m None fs ((n, u) ∷ []) ∙ last-other m n u (last_for m None fs) (λ q. e (sym q))))

pub all-out : (fs : List Find) (n : ℕ) (u : UnpinReason) → name_count ≤ n → last_of_all fs ≡ last_of_all (fs ++ (n, u) ∷ [])
all-out fs n u l =
    ext_get_or None (last_of_all fs) (last_of_all more) (all-length fs ∙ sym (all-length more)) λ m h.
    let k : m < name_count = omega (arith, all-length fs) in
    all-get fs m k ∙ sym (all-get more m k ∙ (last-append m None fs ((n, u) ∷ []) ∙ last-other m n u (last_for m None fs) (λ e. omega arith)))
  where
    more : List Find
    more = fs ++ (n, u) ∷ []

pub all_none : last_of_all [] ≡ replicate name_count None
unfolding last_for
all_none =
    ext_get_or None (last_of_all []) (replicate name_count None) (all-length [] ∙ sym (length-replicate {A = Option UnpinReason} name_count None)) λ m h.
    let k : m < name_count = omega (arith, all-length []) in
    all-get [] m k ∙ sym (get_or-replicate name_count m None None k)
