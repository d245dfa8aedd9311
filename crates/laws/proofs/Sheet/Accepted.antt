-- What is true of a sheet that is accepted. Steps: the reader's steps, read backwards. Sheet: limits, and bodies at their offsets (`sheet-of`, `bodies_of`).
-- Rows: `row_of`. Items: `item-of`. Here: what rule 3 needs of it.
-- Assumes nothing.
pub mod Steps
pub mod Sheet
pub mod Rows
pub mod Items
use Prim.Native.Nat.{ℕ, ◌≤◌, ◌<◌}
use mathlib.Core.Path.{◌≡◌, refl}
use mathlib.Core.List.{List}
use mathlib.Core.Logic.{◌⊎◌, inl, inr}
use lib.Dec.{T, leb}
use Rattle.rules.specs.Numbers.{Ref, Ptr, Array, name_count, most_items, scratch_size}
use Rattle.std.specs.Prelude.{Ok}
use Rattle.rules.specs.declared.Fault.TheVariants.{ShortScratch}
use Rattle.rules.specs.Format.{check, read, Accepted}
use Rattle.rules.specs.View.{rows, kind, inner, is_type, items, item_name, field_count, field}
use Rattle.rules.specs.Answer.{read_with}
use Rattle.rules.specs.Rule3.{IsStruct}
use Steps.{after_is}
use Sheet.{sheet-of}
use Rows.{row_of}
use Items.{item-of}
use Rattle.laws.proofs.Base.Tests.{is_true}

module _ (s : List ℕ) (acc : Accepted s) where
  pub few-items : items s ≤ most_items
  few-items = (sheet-of s acc).few-items

  pub type-named : (i : ℕ) → i < items s → T (is_type s i) → item_name s i < name_count
  type-named i l t = ((item-of s acc i l).as-type (is_true (is_type s i) t)).named

  pub through-falls : (r : ℕ) → r < rows s → (kind s r ≡ Ref) ⊎ ((kind s r ≡ Ptr) ⊎ (kind s r ≡ Array)) → inner s r < r
  through-falls r l (inl e) = (row_of s acc r l).inner-falls Ref refl e
  through-falls r l (inr (inl e)) = (row_of s acc r l).inner-falls Ptr refl e
  through-falls r l (inr (inr e)) = (row_of s acc r l).inner-falls Array refl e

  pub field_row : (i j : ℕ) → IsStruct s i → j < field_count s i → field s i j < rows s
  field_row i j h l = ((item-of s acc i h.below).as_struct h.is_struct).field_below j l

pub accepted-is : (scratch : ℕ) (s : List ℕ) (e : ℕ) → read_with scratch s ≡ Ok e → Accepted s
unfolding read_with
accepted-is n s e h = record { ending = e; is = (after_is (check (leb scratch_size n) ShortScratch 0 0) (λ _. read s) h).2 }
