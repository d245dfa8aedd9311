-- How long the lists are that the definitions make: a branch, a list under a test, one list for each number below n.
-- Assumes nothing.
use Prim.Native.Nat.{ℕ, zero, suc, ◌+◌, ◌*◌, ◌≤◌, ◌<◌, min}
use mathlib.Core.Path.{◌≡◌, refl, ap, ◌∙◌}
use mathlib.Core.Bool.{Bool, true, false}
use mathlib.Core.List.{List, [], ◌∷◌, ◌++◌}
use native.Mathlib.Omega.{arith}
use lib.ListN.{length, get_or, length-append}
use Rattle.rules.specs.declared.Diagnostic.{Diagnostic}
use Rattle.rules.specs.Base.{if'◌then◌else◌, over}
use Rattle.rules.specs.Diagnostics.{when, bit}
use Rattle.laws.proofs.Base.Sums.{sum_to, sum_first, sum-le, sum-const, weight}

pub when-few : (b : Bool) (ds : List Diagnostic) → length (when b ds) ≤ length ds
unfolding when
when-few true ds = omega arith
when-few false ds = omega arith

-- in a form that `omega` reads
pub length-when : (b : Bool) (d : Diagnostic) → length (when b (d ∷ [])) ≡ min 1 (bit b)
unfolding when
length-when true d = refl
length-when false d = refl

pub when-one : (b : Bool) (d : Diagnostic) → length (when b (d ∷ [])) ≤ 1
when-one b d = when-few b (d ∷ [])

-- for `search`, which compares no numerals
pub none≤1 : 0 ≤ 1
none≤1 = omega arith

pub one≤1 : 1 ≤ 1
one≤1 = omega arith

pub if-few : {A : Type 0} (n : ℕ) (b : Bool) (x y : List A) → length x ≤ n → length y ≤ n → length (if' b then x else y) ≤ n
unfolding if'◌then◌else◌
if-few n true x y h g = h
if-few n false x y h g = g

pub join-few : {A : Type 0} (n m : ℕ) (x y : List A) → length x ≤ n → length y ≤ m → length (x ++ y) ≤ n + m
join-few n m x y h g = omega (arith, length-append x y)

module _ {A : Type 0} (f : ℕ → List A) where
  pub over-sum : (n : ℕ) → length (over n f) ≡ sum_to n (λ j. length (f j))
  unfolding over sum_to
  over-sum zero = refl
  over-sum (suc n) = omega (arith, length-append (over n f) (f n), over-sum n)

  pub over-few : (n c : ℕ) → ((j : ℕ) → j < n → length (f j) ≤ c) → length (over n f) ≤ n * c
  over-few n c h = omega (arith, over-sum n, sum-le n (λ j. length (f j)) (λ _. c) h, sum-const n c)

-- over the entries of a list
pub entries-sum : (h : ℕ → ℕ) (l : List ℕ) → sum_to (length l) (λ k. h (get_or l k 0)) ≡ weight h l
unfolding sum_to weight
entries-sum h [] = refl
entries-sum h (x ∷ l) = sum_first (length l) (λ k. h (get_or (x ∷ l) k 0)) ∙ ap (λ n. h x + n) (entries-sum h l)
