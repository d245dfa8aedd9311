-- A table that is made upward: it is made so far, and a step makes one entry more (`made-next`). What such a table says of a row is what a definition says that
-- looks from a row to smaller rows, where each step says what the definition does by what it says of smaller rows (`made-says`).
-- Assumes nothing.
use Prim.Native.Nat.{ℕ, zero, suc, ◌+◌, ◌≤◌, ◌<◌}
use mathlib.Core.Path.{◌≡◌, refl, sym, ap, ◌∙◌, subst}
use mathlib.Core.List.{List}
use native.Mathlib.Omega.{arith}
use native.Mathlib.Numerals.{add-one}
use lib.ListN.{length, get_or, set, get_or-eq_default}
use lib.Seq.{get_or-set_same, get_or-set_other}
use native.Mathlib.Decide.{dec_lt}
use denote.Ref.{Bor}
use denote.Param.Members.{Shared}
use Rattle.rules.specs.Numbers.{most_rows}
use Rattle.laws.specs.RowTable.{entry_or, TableOf}
use Rattle.laws.proofs.Base.Counts.{Eq?, same, other, eq?}
use Rattle.laws.proofs.Rows.RowTable.{Upward, alone, read-in, read_out, entry, Right, right-start, right-more, right-all}
use Rattle.row_tables.specs.Upward.{EntryMade, MadeUpward}

module _ {T F : Type 0} (g : Shared F (Bor (List T) × (ℕ × Unit {0})) T) (f : F) (none : T) where
  pub made-start : (u : List T) → ((x : T) (r : ℕ) → r < most_rows → get_or u r x ≡ none) → MadeUpward g f 0 none u
  made-start u all = record { entries = λ r l. absurd (omega arith); others = λ x r _ l. all x r l }

  pub made-next : (k : ℕ) (b : Bor (List T)) (v : T) → k < length b.now → g.post f (b, (k, tt)) v → MadeUpward g f k none b.now
      → MadeUpward g f (k + 1) none (set b.now k v)
  made-next k b v long says made =
      record { entries = λ r l. by r l (eq? r k); others = λ x r l m. kept x r (λ e. absurd (omega arith)) ∙ made.others x r (omega arith) m }
    where
      u : List T
      u = b.now

      kept : (x : T) (y : ℕ) → (y ≡ k → ⊥) → get_or (set u k v) y x ≡ get_or u y x
      kept x y n = get_or-set_other u k y v x n

      below : {y : ℕ} → y < k → y ≡ k → ⊥
      below l e = absurd (omega arith)

      here : EntryMade g f k (set u k v)
      here =
          record {
            by = b;
            agrees = λ x y l. sym (kept x y (below l));
            says = λ x. record { met = subst (λ (z : T). g.post f (b, (k, tt)) z) (sym (get_or-set_same u k v x long)) says };
          }

      by : (r : ℕ) → r < k + 1 → Eq? r k → EntryMade g f r (set u k v)
      by r l (same _ q) = subst (λ (x : ℕ). EntryMade g f x (set u k v)) (sym q) here
      by r l (other _ q) =
          let old = made.entries r (omega arith) in
          record {
            by = old.by;
            agrees = λ x y m. old.agrees x y m ∙ sym (kept x y (below (omega arith)));
            says = λ x. record { met = subst (λ (z : T). g.post f (old.by, (r, tt)) z) (sym (kept x r q)) (old.says x).met };
          }

-- ## What such a table says

-- an array of 1,024 entries, as code reads it
pub entry-is : {T : Type 0} (none : T) (d : List T) (r : ℕ) → length d ≡ most_rows → get_or d r none ≡ entry_or none d r
entry-is none d r long = go (dec_lt r most_rows)
  where
    go : Dec (r < most_rows) → get_or d r none ≡ entry_or none d r
    go (yes l) = sym (read-in none d r l)
    go (no l) = get_or-eq_default d none (omega arith) ∙ sym (read_out none d r (omega arith))

module _ {T F A : Type 0} (g : Shared F (Bor (List T) × (ℕ × Unit {0})) T) (f : F) (says : T → A) (none : T) (n : ℕ) (few : n ≤ most_rows) (u : List T)
    (made : MadeUpward g f n none u) where
  pub made-says : (P : (fuel r : ℕ) → A) (S : (ℕ → A) → ℕ → A) → ((r : ℕ) → r < n → Upward P S r)
      → ((b : Bor (List T)) (r : ℕ) (v : T) → r < n → g.post f (b, (r, tt)) v → says v ≡ S (entry says none b.now) r) → TableOf says n (P n) u
  made-says P S up each = right-all says P u few refl (right n (omega arith))
    where
      -- the table that the step saw agrees with this one below the row
      seen : (k : ℕ) → k < n → (x : T) → says (get_or u k x) ≡ S (entry says none u) k
      seen k l x =
          let e = made.entries k l in
          each e.by k (get_or u k x) l (e.says x).met
          ∙ (up k l).smaller (entry says none e.by.now) (entry says none u) (λ y d.
          ap says (read-in none e.by.now y (omega arith) ∙ e.agrees none y d ∙ sym (read-in none u y (omega arith))))

      right : (k : ℕ) → k ≤ n → Right says P u k
      right zero l = right-start says P u
      right (suc k) l =
          rw add-one at (right-more says none P S u k (up k (omega arith)) (omega arith) (right k (omega arith)) (seen k (omega arith)))

  -- a definition that asks no other row
  pub made-alone : (p : ℕ → A) → ((b : Bor (List T)) (r : ℕ) (v : T) → r < n → g.post f (b, (r, tt)) v → says v ≡ p r) → TableOf says n p u
  made-alone p each = made-says (λ _. p) (λ _. p) (λ r l. alone p r) each
