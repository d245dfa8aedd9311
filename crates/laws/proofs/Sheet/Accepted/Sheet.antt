-- An accepted sheet as a whole: its limits, and its bodies, each at the offset that the contents give, without gaps.
-- Assumes nothing.
use Prim.Native.Nat.{ℕ, suc, ◌+◌, ◌-◌, ◌*◌, ◌≤◌, ◌<◌}
use mathlib.Core.Path.{◌≡◌, refl, sym, ap, ◌∙◌, subst}
use mathlib.Core.List.{List}
use mathlib.Core.Bool.{Bool, true, false}
use native.Mathlib.Omega.{arith}
use lib.ListN.{length}
use lib.Dec.{ltb, leb, eqb}
use borrow.Author.Tests.{ltb-true, ltb-false, leb-true, eqb-true}
use Rattle.std.specs.Prelude.{Ok}
use Rattle.rules.specs.declared.Fault.{Fault}
use Rattle.rules.specs.declared.Fault.TheVariants.{LongSheet, ShortSheet, TooMany, Misplaced, EqualRow}
use Rattle.rules.specs.Format.{Step, check, after, each, offset, row, fresh, row_at, item, item_at, read, Accepted}
use Rattle.rules.specs.View.{rows, items}
use Rattle.laws.proofs.Sheet.Accepted.Steps.{after_is, check-is, EachRead, each_read}

module _ (s : List ℕ) where
  pub record SheetOf : Type 0 where
    pub few-rows : rows s ≤ 1024
    pub few-items : items s ≤ 255
    pub short : length s ≤ 32768
    pub contents : 4 + 2 * (rows s + items s) ≤ length s

  -- body b, rows first, goes from `start b` to `start (suc b)`
  pub record Bodies : Type 0 where
    pub start : ℕ → ℕ
    pub first : start 0 ≡ 4 + 2 * (rows s + items s)
    pub last : start (rows s + items s) ≡ length s
    pub row-at : (r : ℕ) → r < rows s → offset s r ≡ start r
    pub row_read : (r : ℕ) → r < rows s → row s r (start r) ≡ Ok (start (suc r))
    pub row_fresh : (r : ℕ) → r < rows s → fresh s r r (start (suc r)) ≡ true
    pub item-at : (i : ℕ) → i < items s → offset s (rows s + i) ≡ start (rows s + i)
    pub item-read : (i : ℕ) → i < items s → item s (rows s) (start (rows s + i)) ≡ Ok (start (suc (rows s + i)))

  -- ## The steps of `read`

  record Parts : Type 0 where
    sheet : SheetOf
    middle : ℕ
    the-rows : EachRead (row_at s) (rows s) 0 (4 + 2 * (rows s + items s)) middle
    the_items : EachRead (item_at s (rows s)) (items s) 0 middle (length s)

  -- a test of the sheet holds, and goes on from where it stood
  tested : (m : Step) (b : Bool) (w : Fault) (p : ℕ) {q : ℕ} → after m (check b w p) ≡ Ok q → (m ≡ Ok q) × (b ≡ true)
  tested m b w p h =
      let a = after_is m (check b w p) h in
      let c = check-is b w p a.2 in
      (a.1 ∙ ap (λ (p : ℕ). Ok p) c.1, c.0)

  parts : Accepted s → Parts
  unfolding read
  parts acc =
      let T = rows s in
      let A = items s in
      let contents = 4 + 2 * (T + A) in
      let c1 = check (leb (length s) 32768) LongSheet 0 contents in
      let c2 = after c1 (check (leb 4 (length s)) ShortSheet 0) in
      let c3 = after c2 (check (leb T 1024) TooMany 0) in
      let c4 = after c3 (check (leb A 255) TooMany 2) in
      let c5 = after c4 (check (leb contents (length s)) Misplaced 0) in
      let c6 = after c5 (each (row_at s) T 0) in
      let c7 = after c6 (each (item_at s T) A 0) in
      let e7 = after_is c7 (λ at. check (eqb at (length s)) Misplaced at at) acc.is in
      let e6 = after_is c6 (each (item_at s T) A 0) e7.1 in
      let e5 = after_is c5 (each (row_at s) T 0) e6.1 in
      let e4 = tested c4 (leb contents (length s)) Misplaced 0 e5.1 in
      let e3 = tested c3 (leb A 255) TooMany 2 e4.0 in
      let e2 = tested c2 (leb T 1024) TooMany 0 e3.0 in
      let e1 = tested c1 (leb 4 (length s)) ShortSheet 0 e2.0 in
      let e0 = check-is (leb (length s) 32768) LongSheet 0 e1.0 in
      let ends : e7.0 ≡ length s = eqb-true e7.0 (length s) (check-is (eqb e7.0 (length s)) Misplaced e7.0 e7.2).0 in
      record {
        sheet =
            record {
              few-rows = leb-true T 1024 e2.1;
              few-items = leb-true A 255 e3.1;
              short = leb-true (length s) 32768 e0.0;
              contents = leb-true contents (length s) e4.1;
            };
        middle = e6.0;
        the-rows = each_read (row_at s) T 0 contents (subst (λ (x : ℕ). each (row_at s) T 0 x ≡ Ok e6.0) (sym e0.1) e5.2);
        the_items = each_read (item_at s T) A 0 e6.0 (subst (λ (x : ℕ). each (item_at s T) A 0 e6.0 ≡ Ok x) ends e6.2);
      }

  pub sheet-of : Accepted s → SheetOf
  sheet-of acc = (parts acc).sheet

  -- ## The bodies

  row_is : (r at : ℕ) {q : ℕ} → row_at s r at ≡ Ok q → (offset s r ≡ at) × (row s r at ≡ Ok q) × (fresh s r r q ≡ true)
  unfolding row_at
  row_is r at h =
      let rest : ℕ → Step = λ next. check (fresh s r r next) EqualRow at next in
      let a = after_is (check (eqb (offset s r) at) Misplaced (4 + 2 * r) at) (λ _. after (row s r at) rest) h in
      let b = after_is (row s r at) rest a.2 in
      let c = check-is (fresh s r r b.0) EqualRow at b.2 in
      (eqb-true (offset s r) at (check-is (eqb (offset s r) at) Misplaced (4 + 2 * r) a.1).0, b.1 ∙ ap (λ (p : ℕ). Ok p) c.1, rw c.1 at c.0)

  item-is : (i at : ℕ) {q : ℕ} → item_at s (rows s) i at ≡ Ok q → (offset s (rows s + i) ≡ at) × (item s (rows s) at ≡ Ok q)
  unfolding item_at
  item-is i at h =
      let b = rows s + i in
      let a = after_is (check (eqb (offset s b) at) Misplaced (4 + 2 * b) at) (λ _. item s (rows s) at) h in
      (eqb-true (offset s b) at (check-is (eqb (offset s b) at) Misplaced (4 + 2 * b) a.1).0, a.2)

  module _ (p : Parts) where
    start_at : Bool → ℕ → ℕ
    start_at true b = p.the-rows.start b
    start_at false b = p.the_items.start (b - rows s)

    start_of : ℕ → ℕ
    start_of b = start_at (ltb b (rows s)) b

    start-row : (r : ℕ) → r ≤ rows s → start_of r ≡ p.the-rows.start r
    unfolding start_of start_at
    start-row r l = go (ltb r (rows s)) refl
      where
        go : (b : Bool) → ltb r (rows s) ≡ b → start_at b r ≡ p.the-rows.start r
        go true e = refl
        go false e =
            let g = ltb-false r (rows s) e in
            let z : r - rows s ≡ 0 = omega arith in
            let q : r ≡ rows s = omega arith in
            ap p.the_items.start z ∙ p.the_items.first ∙ sym p.the-rows.last ∙ ap p.the-rows.start (sym q)

    start-item : (i : ℕ) → start_of (rows s + i) ≡ p.the_items.start i
    unfolding start_of start_at
    start-item i = go (ltb (rows s + i) (rows s)) refl
      where
        go : (b : Bool) → ltb (rows s + i) (rows s) ≡ b → start_at b (rows s + i) ≡ p.the_items.start i
        go true e = let g = ltb-true (rows s + i) (rows s) e in absurd (omega arith)
        go false e = let z : rows s + i - rows s ≡ i = omega arith in ap p.the_items.start z

    row-there : (r : ℕ) → r < rows s
        → (offset s r ≡ start_of r) × (row s r (start_of r) ≡ Ok (start_of (suc r))) × (fresh s r r (start_of (suc r)) ≡ true)
    row-there r l =
        let z : 0 + r ≡ r = omega arith in
        let a = row_is r (p.the-rows.start r) (rw z at (p.the-rows.body r l)) in
        rw (start-row r (omega arith), start-row (suc r) l) a

    item-there : (i : ℕ) → i < items s
        → (offset s (rows s + i) ≡ start_of (rows s + i)) × (item s (rows s) (start_of (rows s + i)) ≡ Ok (start_of (suc (rows s + i))))
    item-there i l =
        let z : 0 + i ≡ i = omega arith in
        let y : suc (rows s + i) ≡ rows s + suc i = omega arith in
        let a = item-is i (p.the_items.start i) (rw z at (p.the_items.body i l)) in
        rw (y, start-item i, start-item (suc i)) a

    bodies : Bodies
    bodies =
        record {
          start = start_of;
          first = start-row 0 (omega arith) ∙ p.the-rows.first;
          last = start-item (items s) ∙ p.the_items.last;
          row-at = λ r l. (row-there r l).0;
          row_read = λ r l. (row-there r l).1;
          row_fresh = λ r l. (row-there r l).2;
          item-at = λ i l. (item-there i l).0;
          item-read = λ i l. (item-there i l).1;
        }

  pub bodies_of : Accepted s → Bodies
  bodies_of acc = bodies (parts acc)
