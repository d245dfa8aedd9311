-- Fuel is enough: of an accepted sheet's row, any fuel above the row gives the same, so each definition with fuel is what its text says without. Each looks
-- from a row to smaller rows only (`unsized-up`, `look_up`, `mut-up`); the rest is the one law of RowTable.
-- Assumes nothing.
use Prim.Native.Nat.{ℕ, suc, ◌<◌}
use mathlib.Core.Path.{◌≡◌, refl, ap, ◌∙◌}
use mathlib.Core.Bool.{Bool, true, false, not, ◌||◌}
use mathlib.Core.List.{List, [], ◌∷◌}
use lib.Dec.{eqb}
use borrow.Author.Tests.{eqb-true}
use Rattle.rules.specs.Numbers.{Ident, Array}
use Rattle.rules.specs.Base.{if'◌then◌else◌, some, any_of}
use Rattle.rules.specs.Format.{Accepted}
use Rattle.rules.specs.View.{rows, kind, is, row_name, inner, shown}
use Rattle.rules.specs.Types.{Types}
use Rattle.rules.specs.Improper.{Look, look_row}
use Rattle.rules.specs.Check.{is_unsized_ident, is_unsized_within, is_unsized, is_lifetime_mut, find_lifetime_mut}
use Rattle.laws.specs.Kinds.{is_through}
use Rattle.rules.specs.Reach.{In}
use Rattle.laws.specs.RowSteps.{unsized_leaf, unsized_step, look_step, mut_step}
use Rattle.laws.proofs.Base.Tests.{implied, all_pass}
use Rattle.laws.proofs.Base.Members.{in_head, in_tail}
use Rattle.laws.proofs.Sheet.Accepted.Rows.{has_inner, row_of}
use Rattle.laws.proofs.Sheet.Collect.Shown.{shown-falls}
use Rattle.laws.proofs.Rows.RowTable.{Upward, any_fuel, by-step}

-- tests that agree on a list
pub any_same : (p q : ℕ → Bool) (l : List ℕ) → ((x : ℕ) → In x l → p x ≡ q x) → any_of p l ≡ any_of q l
unfolding any_of
any_same p q [] h = refl
any_same p q (x ∷ l) h =
    ap (λ (b : Bool). elim b as (λ _. Bool) [ true ↦ true | false ↦ any_of p l ]) (h x (in_head x l))
    ∙ ap (λ (c : Bool). elim (q x) as (λ _. Bool) [ true ↦ true | false ↦ c ]) (any_same p q l (λ y i. h y (in_tail y x l i)))

module _ (s : List ℕ) (acc : Accepted s) (t : Types) where
  -- ## `is_unsized`

  unsized-step : (b : Bool) (f r : ℕ) → is s Array r ≡ b → is_unsized_within s t (suc f) r ≡ unsized_step s t (is_unsized_within s t f) r
  unfolding is_unsized_within unsized_step unsized_leaf if'◌then◌else◌
  unsized-step true f r e = rw (e, is_unsized_within)
  unsized-step false f r e = rw (e, is_unsized_within)

  unsized-smaller : (b : Bool) (r : ℕ) → is s Array r ≡ b → (b ≡ true → inner s r < r) → (p q : ℕ → Bool) → ((y : ℕ) → y < r → p y ≡ q y)
      → unsized_step s t p r ≡ unsized_step s t q r
  unfolding unsized_step if'◌then◌else◌
  unsized-smaller true r e l p q h = rw (e, if'◌then◌else◌) (h (inner s r) (l refl))
  unsized-smaller false r e l p q h = rw (e, if'◌then◌else◌)

  array-falls : (r : ℕ) → r < rows s → is s Array r ≡ true → inner s r < r
  unfolding is
  array-falls r l e = (row_of s acc r l).inner-falls Array refl (eqb-true (kind s r) Array e)

  pub unsized-up : (r : ℕ) → r < rows s → Upward (is_unsized_within s t) (unsized_step s t) r
  unsized-up r l = record { step = λ f. unsized-step (is s Array r) f r refl; smaller = unsized-smaller (is s Array r) r refl (array-falls r l) }

  pub unsized-fuel : (f g r : ℕ) → r < f → r < g → r < rows s → is_unsized_within s t f r ≡ is_unsized_within s t g r
  unsized-fuel = any_fuel (is_unsized_within s t) (unsized_step s t) (rows s) unsized-up

  -- without fuel
  pub unsized-is : (r : ℕ) → r < rows s → is_unsized s t r ≡ unsized_step s t (is_unsized s t) r
  unfolding is_unsized
  unsized-is r l = by-step (is_unsized_within s t) (unsized_step s t) (rows s) unsized-up r l

  -- a plain name
  pub unsized-named : (r : ℕ) → r < rows s → kind s r ≡ Ident → is_unsized s t r ≡ is_unsized_ident s t (row_name s r)
  unfolding unsized_step unsized_leaf is if'◌then◌else◌
  unsized-named r l e = unsized-is r l ∙ rw e

  -- ## `determine_improper_ctype`

  through-smaller : (r : ℕ) → r < rows s → is_through (kind s r) ≡ true → inner s r < r
  unfolding some
  through-smaller r l h = (row_of s acc r l).inner-falls (kind s r) (of (kind s r) (row_of s acc r l).known h) refl
    where
      -- one computed test
      of : (k : ℕ) → k < 14 → is_through k ≡ true → has_inner k ≡ true
      of k m e = implied (is_through k) (has_inner k) (all_pass 14 (λ k. not (is_through k) || has_inner k) refl k m) e

  look-step : (a b : Bool) (f r : ℕ) → eqb (kind s r) Ident ≡ a → is_through (kind s r) ≡ b → look_row s t (suc f) r ≡ look_step s t (look_row s t f) r
  unfolding look_row look_step if'◌then◌else◌
  look-step true b f r d e = rw (d, look_row)
  look-step false true f r d e = rw (d, e, look_row)
  look-step false false f r d e = rw (d, e, look_row)

  look-smaller : (a b : Bool) (r : ℕ) → eqb (kind s r) Ident ≡ a → is_through (kind s r) ≡ b → (b ≡ true → inner s r < r)
      → (p q : ℕ → Look) → ((y : ℕ) → y < r → p y ≡ q y) → look_step s t p r ≡ look_step s t q r
  unfolding look_step if'◌then◌else◌
  look-smaller true b r d e l p q h = rw (d, if'◌then◌else◌)
  look-smaller false true r d e l p q h = rw (d, e, if'◌then◌else◌) (h (inner s r) (l refl))
  look-smaller false false r d e l p q h = rw (d, e, if'◌then◌else◌)

  pub look_up : (r : ℕ) → r < rows s → Upward (look_row s t) (look_step s t) r
  look_up r l =
      record {
        step = λ f. look-step (eqb (kind s r) Ident) (is_through (kind s r)) f r refl refl;
        smaller = look-smaller (eqb (kind s r) Ident) (is_through (kind s r)) r refl refl (through-smaller r l);
      }

  pub look-fuel : (f g r : ℕ) → r < f → r < g → r < rows s → look_row s t f r ≡ look_row s t g r
  look-fuel = any_fuel (look_row s t) (look_step s t) (rows s) look_up

  -- without fuel
  pub look_is : (r : ℕ) → r < rows s → look_row s t (rows s) r ≡ look_step s t (look_row s t (rows s)) r
  look_is = by-step (look_row s t) (look_step s t) (rows s) look_up

  -- ## `FindLifetimeMut`

  mut-step : (b : Bool) (f r : ℕ) → is_lifetime_mut s t r ≡ b → find_lifetime_mut s t (suc f) r ≡ mut_step s t (find_lifetime_mut s t f) r
  unfolding find_lifetime_mut mut_step if'◌then◌else◌
  mut-step true f r e = rw (e, find_lifetime_mut)
  mut-step false f r e = rw (e, find_lifetime_mut)

  pub mut-up : (r : ℕ) → r < rows s → Upward (find_lifetime_mut s t) (mut_step s t) r
  unfolding mut_step
  mut-up r l =
      record {
        step = λ f. mut-step (is_lifetime_mut s t r) f r refl;
        smaller = λ p q h. ap (λ (b : Bool). if' is_lifetime_mut s t r then true else b) (any_same p q (shown s r) (λ x i. h x (shown-falls s acc r l x i)));
      }

  pub mut-fuel : (f g r : ℕ) → r < f → r < g → r < rows s → find_lifetime_mut s t f r ≡ find_lifetime_mut s t g r
  mut-fuel = any_fuel (find_lifetime_mut s t) (mut_step s t) (rows s) mut-up

  -- without fuel
  pub mut_is : (r : ℕ) → r < rows s → find_lifetime_mut s t (rows s) r ≡ mut_step s t (find_lifetime_mut s t (rows s)) r
  mut_is = by-step (find_lifetime_mut s t) (mut_step s t) (rows s) mut-up
