-- Which rows were seen, and how many were not: what one row more changes (`seen-snoc`, `room-less`); and which bits of a byte are set after one more
-- (`bit-set`).
-- Assumes nothing.
use Prim.Native.Nat.{ℕ, ◌+◌, ◌/◌, ◌%◌, ◌^◌, ◌<◌}
use mathlib.Core.Path.{◌≡◌, refl, sym, ap, ◌∙◌}
use mathlib.Core.Bool.{Bool, true, false, ◌||◌}
use mathlib.Core.List.{List, [], ◌∷◌, ◌++◌}
use native.Mathlib.Omega.{arith}
use lib.Bits.{bit_or}
use lib.Dec.{eqb}
use borrow.Author.Tests.{eq-eqb, ne_eqb}
use Rattle.rules.specs.Base.{any_of}
use Rattle.rules.specs.Names.{bit_of, add, ◌∋◌}
use Rattle.laws.specs.Skip.{seen}
use Rattle.laws.specs.Left.{free}
use Rattle.laws.proofs.Base.Counts.{free_one}
use Rattle.laws.proofs.Names.NameSets.{has-add}
use Rattle.laws.proofs.Base.Tests.{both, or-true, or-false}

-- the law of sets of names, at the first word
pub bit-set : (v i j : ℕ) → i < 64 → j < 64 → eqb (bit_of (bit_or v (2 ^ i)) j) 1 ≡ (eqb j i || eqb (bit_of v j) 1)
unfolding add ◌∋◌
bit-set v i j a b =
    let p : i / 64 ≡ 0 = omega arith in
    let q : i % 64 ≡ i = omega arith in
    let x : j / 64 ≡ 0 = omega arith in
    let y : j % 64 ≡ j = omega arith in
    rw (p, q, x, y) at (has-add (v ∷ 0 ∷ 0 ∷ 0 ∷ []) i j refl (omega arith))

-- ## One row more

any_append : (p : ℕ → Bool) (xs ys : List ℕ) → any_of p (xs ++ ys) ≡ (any_of p xs || any_of p ys)
unfolding any_of
any_append p [] ys = refl
any_append p (x ∷ xs) ys = both (p x) (λ e. rw (e, any_of) refl) (λ e. rw (e, any_of) (any_append p xs ys))

any-one : (p : ℕ → Bool) (x : ℕ) → any_of p (x ∷ []) ≡ p x
unfolding any_of
any-one p x = both (p x) (λ e. rw (e, any_of) refl) (λ e. rw (e, any_of) refl)

pub seen-snoc : (all : List ℕ) (r x : ℕ) → seen (all ++ r ∷ []) x ≡ (seen all x || eqb r x)
unfolding seen
seen-snoc all r x = any_append (λ y. eqb y x) all (r ∷ []) ∙ ap (λ (t : Bool). any_of (λ y. eqb y x) all || t) (any-one (λ y. eqb y x) r)

seen_same : (all : List ℕ) (r : ℕ) → seen (all ++ r ∷ []) r ≡ true
seen_same all r = seen-snoc all r r ∙ rw (eq-eqb r r refl) (or-true (seen all r))

seen_other : (all : List ℕ) (r x : ℕ) → (x ≡ r → ⊥) → seen (all ++ r ∷ []) x ≡ seen all x
seen_other all r x h = seen-snoc all r x ∙ rw (ne_eqb r x (λ e. h (sym e))) (or-false (seen all x))

-- one row more leaves room for one fewer
pub room-less : (all : List ℕ) (r t : ℕ) → r < t → seen all r ≡ false → free t (seen (all ++ r ∷ [])) + 1 ≡ free t (seen all)
room-less all r t l h = let e = free_one t r (seen all) (seen (all ++ r ∷ [])) (seen_other all r) h (seen_same all r) l in omega arith
