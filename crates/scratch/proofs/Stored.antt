-- The scratch: what a stored row and a set mark change, and what they do not (`added`); what it holds, entry by entry (`holds_row`); and that a cleared one
-- holds no rows (`holds-none`).
-- Assumes nothing.
use Prim.Native.Nat.{ℕ, zero, suc, ◌+◌, ◌-◌, ◌*◌, ◌/◌, ◌%◌, ◌^◌, ◌<◌, ◌≤◌}
use mathlib.Core.Path.{◌≡◌, refl, sym, ap, ◌∙◌}
use mathlib.Core.Bool.{Bool, true, false, ◌||◌}
use mathlib.Core.List.{List, [], ◌∷◌, ◌++◌}
use native.Mathlib.Omega.{arith}
use native.Mathlib.Nat.{zero-div}
use native.Mathlib.Numerals.{add-one}
use lib.Bits.{bit_or}
use lib.Dec.{eqb}
use lib.ListN.{length, get_or, set, drop, length-set, length-drop, get_or-eq_default}
use lib.Seq.{get_or-set_same, get_or-set_other, get_or-drop, ext_get_or}
use borrow.Author.Tests.{eq-eqb, ne_eqb, eqb-true, eqb-false}
use Rattle.rules.specs.Numbers.{most_rows}
use Rattle.rules.specs.Base.{over, any_of}
use Rattle.rules.specs.Format.{pair_at}
use Rattle.rules.specs.Names.{bit_of}
use Rattle.rules.specs.Answer.{cleared}
use Rattle.laws.specs.Skip.{seen}
use Rattle.laws.proofs.Base.Counts.{free-le}
use Rattle.laws.proofs.Base.Lists.{over-length, over-get}
use Rattle.laws.proofs.Base.Tests.{both, or-false}
use Rattle.scratch.specs.Bytes.{marks_place, marks_end, rows_of, marked, with_row, with_mark, HoldsRows, Grown, Addable}
use Rattle.scratch.proofs.Zeroed.{cleared_at}
use Rattle.scratch.proofs.OneMore.{bit-set, seen-snoc, room-less}

-- ## The rows

pub past_end : (b : List ℕ) (k : ℕ) → length b ≤ k → 0 ≡ pair_at b (2 * k)
unfolding pair_at
past_end b k l = rw (get_or-eq_default b 0 {n = 2 * k} (omega arith), get_or-eq_default b 0 {n = 2 * k + 1} (omega arith)) refl

pub length-rows : (b : List ℕ) (n : ℕ) → length (rows_of b n) ≡ n
unfolding rows_of
length-rows b n = over-length (λ k. pair_at b (2 * k)) n

pub row-at : (b : List ℕ) (n k : ℕ) → k < n → get_or (rows_of b n) k 0 ≡ pair_at b (2 * k)
unfolding rows_of
row-at b n k l = over-get (λ j. pair_at b (2 * j)) 0 n k l

rows_same : (b d : List ℕ) (n : ℕ) → ((i : ℕ) → i < 2 * n → get_or d i 0 ≡ get_or b i 0) → rows_of d n ≡ rows_of b n
unfolding rows_of over pair_at
rows_same b d zero h = refl
rows_same b d (suc n) h =
    rw (rows_same b d n (λ i l. h i (omega arith)), h (2 * n) (omega arith), h (2 * n + 1) (omega arith))

-- ## A row is stored and marked

module _ (b : List ℕ) (n r : ℕ) (l : marks_end ≤ length b) (n< : n < most_rows) (r< : r < most_rows) where
  stored_other : (i : ℕ) → (i ≡ 2 * n → ⊥) → (i ≡ 2 * n + 1 → ⊥) → get_or (with_row b n r) i 0 ≡ get_or b i 0
  stored_other i p q = get_or-set_other (set b (2 * n) (r % 256)) (2 * n + 1) i (r / 256) 0 q ∙ get_or-set_other b (2 * n) i (r % 256) 0 p

  stored_low : get_or (with_row b n r) (2 * n) 0 ≡ r % 256
  stored_low =
      get_or-set_other (set b (2 * n) (r % 256)) (2 * n + 1) (2 * n) (r / 256) 0 (λ e. omega arith) ∙ get_or-set_same b (2 * n) (r % 256) 0 (omega arith)

  stored-high : get_or (with_row b n r) (2 * n + 1) 0 ≡ r / 256
  stored-high = get_or-set_same (set b (2 * n) (r % 256)) (2 * n + 1) (r / 256) 0 (simp length-set (omega arith))

  noted_other : (d : List ℕ) (i : ℕ) → (i ≡ marks_place + r / 8 → ⊥) → get_or (with_mark d r) i 0 ≡ get_or d i 0
  noted_other d i h = get_or-set_other d (marks_place + r / 8) i (bit_or (get_or d (marks_place + r / 8) 0) (2 ^ (r % 8))) 0 h

  noted-marks : (d : List ℕ) → length d ≡ length b → (q : ℕ) → q < most_rows → marked (with_mark d r) q ≡ (marked d q || eqb r q)
  unfolding marked
  noted-marks d e q g = both (eqb (q / 8) (r / 8)) (λ t. near (eqb-true (q / 8) (r / 8) t)) (λ t. far (eqb-false (q / 8) (r / 8) t))
    where
      or_comm : (x y : Bool) → (x || y) ≡ (y || x)
      or_comm true true = refl
      or_comm true false = refl
      or_comm false true = refl
      or_comm false false = refl

      same_bit : q / 8 ≡ r / 8 → eqb (q % 8) (r % 8) ≡ eqb r q
      same_bit p = both (eqb r q)
          (λ t. let z = eqb-true r q t in eq-eqb (q % 8) (r % 8) (omega arith) ∙ sym t)
          (λ t. let z = eqb-false r q t in ne_eqb (q % 8) (r % 8) (λ u. z (omega arith)) ∙ sym t)

      near : q / 8 ≡ r / 8
          → eqb (bit_of (get_or (with_mark d r) (marks_place + q / 8) 0) (q % 8)) 1 ≡ (eqb (bit_of (get_or d (marks_place + q / 8) 0) (q % 8)) 1 || eqb r q)
      near p =
          let v = get_or d (marks_place + r / 8) 0 in
          let a : get_or (with_mark d r) (marks_place + r / 8) 0 ≡ bit_or v (2 ^ (r % 8)) = get_or-set_same d (marks_place + r / 8) (bit_or v (2 ^ (r % 8))) 0
          (omega arith) in
          rw (p, a, ← (same_bit p)) (bit-set v (r % 8) (q % 8) (omega arith) (omega arith) ∙ or_comm (eqb (q % 8) (r % 8)) (eqb (bit_of v (q % 8)) 1))

      far : (q / 8 ≡ r / 8 → ⊥)
          → eqb (bit_of (get_or (with_mark d r) (marks_place + q / 8) 0) (q % 8)) 1 ≡ (eqb (bit_of (get_or d (marks_place + q / 8) 0) (q % 8)) 1 || eqb r q)
      far p =
          rw (noted_other d (marks_place + q / 8) (λ t. p (omega arith)), ne_eqb r q (λ t. p (ap (λ (x : ℕ). x / 8) (sym t))))
          (sym (or-false (eqb (bit_of (get_or d (marks_place + q / 8) 0) (q % 8)) 1)))

  stored-marks : (q : ℕ) → marked (with_row b n r) q ≡ marked b q
  unfolding marked
  stored-marks q = ap (λ (v : ℕ). eqb (bit_of v (q % 8)) 1) (stored_other (marks_place + q / 8) (λ e. omega arith) (λ e. omega arith))

  grown : marked b r ≡ false → HoldsRows b n (rows_of b n) → Grown b (with_mark (with_row b n r) r) (n + 1) (rows_of b n ++ r ∷ [])
  unfolding rows_of over pair_at
  grown f h =
      let d = with_row b n r in
      let e = with_mark d r in
      let all = rows_of b n in
      let room = room-less all r most_rows r< (sym (h.marks r r<) ∙ f) in
      let low : (i : ℕ) → i < 2 * n → get_or e i 0 ≡ get_or b i 0 = λ i g. noted_other d i (λ t. omega arith)
      ∙ stored_other i (λ t. omega arith) (λ t. omega arith) in
      let lo : get_or e (2 * n) 0 ≡ r % 256 = noted_other d (2 * n) (λ t. omega arith) ∙ stored_low in
      let hi : get_or e (2 * n + 1) 0 ≡ r / 256 = noted_other d (2 * n + 1) (λ t. omega arith) ∙ stored-high in
      let is : get_or e (2 * n) 0 + 256 * get_or e (2 * n + 1) 0 ≡ r = rw (lo, hi) (omega arith) in
      let last : rows_of e (suc n) ≡ rows_of b n ++ r ∷ [] = rw (rows_same b e n low, is) refl in
      let long : length d ≡ length b = simp length-set in
      let k = h.room in
      record {
        held = record {
          are = rw (add-one n) last;
          marks = λ q g. noted-marks d long q g ∙ ap (λ (t : Bool). t || eqb r q) (stored-marks q ∙ h.marks q g) ∙ sym (seen-snoc all r q);
          room = omega arith;
        };
        kept = λ i g. noted_other d i (λ t. omega arith) ∙ stored_other i (λ t. omega arith) (λ t. omega arith);
      }

-- ## What `Rows::push` does

module _ {b : List ℕ} {n r : ℕ} (h : Addable b n r) where
  pub add-room : n < most_rows
  add-room =
      let less = room-less (rows_of b n) r most_rows h.below (sym (h.held.marks r h.below) ∙ h.unseen) in
      let room = h.held.room in
      omega arith

  pub added : Grown b (with_mark (with_row b n r) r) (n + 1) (rows_of b n ++ r ∷ [])
  added = grown b n r h.long add-room h.below h.unseen h.held

-- ## What it means that b holds n rows

pub holds-length : {b : List ℕ} {n : ℕ} {all : List ℕ} → HoldsRows b n all → n ≡ length all
holds-length {b} {n} h = sym (length-rows b n) ∙ ap length h.are

pub holds_row : {b : List ℕ} {n : ℕ} {all : List ℕ} → HoldsRows b n all → (k : ℕ) → k < n → pair_at b (2 * k) ≡ get_or all k 0
holds_row {b} {n} h k l = sym (row-at b n k l) ∙ ap (λ (a : List ℕ). get_or a k 0) h.are

pub holds-few : {b : List ℕ} {n : ℕ} {all : List ℕ} → HoldsRows b n all → n ≤ most_rows
holds-few h = let l = h.room in omega arith

pub holds-self : {b : List ℕ} {n : ℕ} {all : List ℕ} → HoldsRows b n all → HoldsRows b n (rows_of b n)
holds-self h = rw h.are h

-- ## The start, and what is behind the marks

-- a cleared scratch holds no rows
pub holds-none : (b : List ℕ) → HoldsRows (cleared b) 0 []
unfolding rows_of over marked bit_of seen any_of
holds-none b =
    record {
      are = refl;
      marks = λ r l. rw (cleared_at b (marks_place + r / 8) (omega arith), zero-div) refl;
      room = (let l = free-le most_rows (seen []) in omega arith);
    }

pub rest-kept : {b d : List ℕ} {m : ℕ} {all : List ℕ} → Grown b d m all → length d ≡ length b → drop marks_end d ≡ drop marks_end b
rest-kept {b} {d} g e =
    ext_get_or 0 (drop marks_end d) (drop marks_end b) (length-drop marks_end d ∙ ap (λ n. n - marks_end) e ∙ sym (length-drop marks_end b))
    (λ i l. get_or-drop marks_end d i 0 ∙ g.kept (marks_end + i) (omega arith) ∙ sym (get_or-drop marks_end b i 0))
