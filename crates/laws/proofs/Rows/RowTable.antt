-- A table over the rows that one pass upward fills, with entries that say anything: rows refer to smaller rows, so what a definition with fuel says of a row
-- is decided by what it says of smaller rows (`Upward`). Hence any fuel above the row gives the same (`any_fuel`); an entry that is made from entries that
-- are right is right too (`right-more`, from `right-start`; where it is stored, `right-next`); and when the rows are passed, the table is the definition's
-- (`right-all`), as code reads it (`read_is`). A definition without fuel is one that asks no smaller row (`alone`).
-- Assumes nothing.
use Prim.Native.Nat.{ℕ, zero, suc, ◌+◌, ◌≤◌, ◌<◌}
use mathlib.Core.Path.{◌≡◌, refl, sym, ap, ◌∙◌}
use mathlib.Core.List.{List}
use native.Mathlib.Omega.{arith}
use lib.ListN.{length, get_or, set}
use lib.Seq.{get_or-set_same, get_or-set_other}
use borrow.Author.Tests.{lt-ltb, le-ltb}
use Rattle.rules.specs.Numbers.{most_rows}
use Rattle.rules.specs.Base.{if'◌then◌else◌}
use Rattle.laws.specs.RowTable.{entry_or, TableOf}
use Rattle.laws.proofs.Base.Counts.{Eq?, same, other, eq?}

-- ## Definitions that look from a row to smaller rows

-- P is decided by smaller rows, through F
pub record Upward {A : Type 0} (P : (fuel r : ℕ) → A) (F : (ℕ → A) → ℕ → A) (k : ℕ) : Type 0 where
  pub step : (f : ℕ) → P (suc f) k ≡ F (P f) k
  pub smaller : (p q : ℕ → A) → ((y : ℕ) → y < k → p y ≡ q y) → F p k ≡ F q k

module _ {A : Type 0} where
  -- a definition that asks no other row
  pub alone : (f : ℕ → A) (k : ℕ) → Upward (λ _. f) (λ _. f) k
  alone f k = record { step = λ _. refl; smaller = λ p q h. refl }

  -- any fuel above the row gives the same
  pub any_fuel : (P : (fuel r : ℕ) → A) (F : (ℕ → A) → ℕ → A) (k : ℕ) → ((r : ℕ) → r < k → Upward P F r)
      → (f g r : ℕ) → r < f → r < g → r < k → P f r ≡ P g r
  any_fuel P F k up zero g r l m t = absurd (omega arith)
  any_fuel P F k up (suc f) zero r l m t = absurd (omega arith)
  any_fuel P F k up (suc f) (suc g) r l m t =
      (up r t).step f
      ∙ (up r t).smaller (P f) (P g) (λ x d. any_fuel P F k up f g x (omega arith) (omega arith) (omega arith))
      ∙ sym ((up r t).step g)

  -- without fuel: what it says of a row is one step from what it says of all rows
  pub by-step : (P : (fuel r : ℕ) → A) (F : (ℕ → A) → ℕ → A) (k : ℕ) → ((r : ℕ) → r < k → Upward P F r) → (r : ℕ) → r < k → P k r ≡ F (P k) r
  by-step P F k up r l = any_fuel P F k up k (suc k) r l (omega arith) l ∙ (up r l).step k

-- ## Entries

module _ {T : Type 0} (none : T) (u : List T) (k : ℕ) where
  pub read-in : k < most_rows → entry_or none u k ≡ get_or u k none
  unfolding entry_or if'◌then◌else◌
  read-in l = rw (lt-ltb k most_rows l)

  pub read_out : most_rows ≤ k → entry_or none u k ≡ none
  unfolding entry_or if'◌then◌else◌
  read_out l = rw (le-ltb k most_rows l)

-- ## Tables

-- an entry is of type T, and what it says is of type A
module _ {T A : Type 0} (says : T → A) where
  -- what is no entry says none
  module _ (none : T) where
    abbrev pub entry : List T → ℕ → A
    entry u y = says (entry_or none u y)

    -- row r, as the code reads it
    pub read_is : {n : ℕ} {f : ℕ → A} {u : List T} → TableOf says n f u → (r : ℕ) → r < n → entry u r ≡ f r
    read_is {u = u} table r l = let h = table.few in ap says (read-in none u r (omega arith)) ∙ table.entries none r l

  -- the table of another definition, where the two agree
  pub table_same : {n : ℕ} {f g : ℕ → A} {u : List T} → TableOf says n f u → ((r : ℕ) → r < n → f r ≡ g r) → TableOf says n g u
  table_same table h = record { few = table.few; entries = λ x r l. table.entries x r l ∙ h r l }

  -- the entries below k are right
  abbrev pub Right : (P : (fuel r : ℕ) → A) (table : List T) (k : ℕ) → Type 0
  Right P u k = (x : T) (y f : ℕ) → y < k → y < f → P f y ≡ says (get_or u y x)

  pub right-start : (P : (fuel r : ℕ) → A) (u : List T) → Right P u 0
  right-start P u x y f l m = absurd (omega arith)

  module _ (none : T) (P : (fuel r : ℕ) → A) (F : (ℕ → A) → ℕ → A) (u : List T) (k : ℕ) (up : Upward P F k) (few : k < most_rows) where
    -- where the next entry is one step from those before it
    pub right-more : Right P u k → ((x : T) → says (get_or u k x) ≡ F (entry none u) k) → Right P u (k + 1)
    right-more right e x y f l m = by f m (eq? y k)
      where
        here : (f : ℕ) → k < f → P f k ≡ says (get_or u k x)
        here zero m = absurd (omega arith)
        here (suc f) m =
            up.step f
            ∙ up.smaller (P f) (entry none u) (λ z g. right none z f g (omega arith) ∙ sym (ap says (read-in none u z (omega arith))))
            ∙ sym (e x)

        by : (f : ℕ) → y < f → Eq? y k → P f y ≡ says (get_or u y x)
        by f m (same _ q) = rw q (here f (rw q at m))
        by f m (other _ q) = right x y f (omega arith) m

  -- so it is where that entry is stored
  module _ (none : T) (P : (fuel r : ℕ) → A) (F : (ℕ → A) → ℕ → A) (u : List T) (k : ℕ) where
    pub right-next : Upward P F k → k < most_rows → k < length u → Right P u k → {v : T} → says v ≡ F (entry none u) k → Right P (set u k v) (k + 1)
    right-next up few long right {v} e =
        right-more none P F (set u k v) k up few (λ x y f l m. right x y f l m ∙ sym (ap says (kept x y l)))
        (λ x.
        ap says (get_or-set_same u k v x long) ∙ e ∙ up.smaller (entry none u) (entry none (set u k v)) (λ y l.
        ap says (read-in none u y (omega arith) ∙ sym (kept none y l) ∙ sym (read-in none (set u k v) y (omega arith)))))
      where
        kept : (x : T) (y : ℕ) → y < k → get_or (set u k v) y x ≡ get_or u y x
        kept x y l = get_or-set_other u k y v x (λ e. absurd (omega arith))

  pub right-all : (P : (fuel r : ℕ) → A) (u : List T) {k n : ℕ} → n ≤ most_rows → k ≡ n → Right P u k → TableOf says n (P n) u
  right-all P u {n = n} few e right = record { few = few; entries = λ x r l. sym (right x r n (rw e l) l) }
