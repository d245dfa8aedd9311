-- Two rows of an accepted sheet with the same bytes are one row (`bytes-differ`): the reader compared each with all before it. A row ends where the next body
-- begins, within the sheet, so its list of bytes is as long as the row, and has the sheet's bytes.
-- Assumes nothing.
use Prim.Native.Nat.{ℕ, zero, suc, ◌+◌, ◌-◌, ◌≤◌, ◌<◌}
use mathlib.Core.Path.{◌≡◌, refl, sym, ap, ◌∙◌}
use mathlib.Core.Bool.{Bool, true, false}
use mathlib.Core.List.{List}
use native.Mathlib.Numerals.{add-one}
use native.Mathlib.Omega.{arith}
use native.Mathlib.Decide.{dec_lt}
use lib.Dec.{eqb}
use lib.ListN.{length, get_or, take, drop, length-drop}
use lib.Seq.{get_or-take, get_or-drop, length-take-le}
use borrow.Author.Tests.{eq-eqb, lt-ltb, le-ltb}
use Rattle.rules.specs.Base.{if'◌then◌else◌}
use Rattle.rules.specs.declared.Fault.TheVariants.{BadValue}
use Rattle.rules.specs.Format.{pair_at, offset, limited, body_of, row, same_bytes, equal_rows, fresh, item_of, item, Accepted}
use Rattle.rules.specs.View.{rows, items}
use Rattle.laws.specs.RowTrees.{begins, row_bytes}
use Rattle.laws.proofs.Base.Counts.{Eq?, same, other, eq?}
use Rattle.laws.proofs.Base.Tests.{never}
use Rattle.laws.proofs.Sheet.Accepted.Steps.{after_is, limited-within}
use Rattle.laws.proofs.Sheet.Accepted.Sheet.{bodies_of}

-- ## What the reader compared

module _ (s : List ℕ) where
  bytes_same : (n a b : ℕ) → ((j : ℕ) → j < n → get_or s (a + j) 0 ≡ get_or s (b + j) 0) → same_bytes s n a b ≡ true
  unfolding same_bytes
  bytes_same zero a b h = refl
  bytes_same (suc n) a b h =
      let x : a + 0 ≡ a = omega arith in
      let y : b + 0 ≡ b = omega arith in
      let first : get_or s a 0 ≡ get_or s b 0 = rw (x, y) at (h 0 (omega arith)) in
      rw (eq-eqb (get_or s a 0) (get_or s b 0) first, same_bytes) (bytes_same n (a + 1) (b + 1) (λ j l. at j (h (suc j) (omega arith))))
    where
      at : (j : ℕ) → get_or s (a + suc j) 0 ≡ get_or s (b + suc j) 0 → get_or s (a + 1 + j) 0 ≡ get_or s (b + 1 + j) 0
      at j e =
          let x : a + suc j ≡ a + 1 + j = omega arith in
          let y : b + suc j ≡ b + 1 + j = omega arith in
          rw (x, y) at e

  fresh-all : (i r next : ℕ) → fresh s i r next ≡ true → (q : ℕ) → q < i → equal_rows s q r next ≡ false
  unfolding fresh
  fresh-all zero r next h q l = absurd (omega arith)
  fresh-all (suc i) r next h q l = go (equal_rows s i r next) refl h (fresh-all i r next)
    where
      go : (b : Bool) → equal_rows s i r next ≡ b → elim b as (λ _. Bool) [ true ↦ false | false ↦ fresh s i r next ] ≡ true
          → (fresh s i r next ≡ true → (q : ℕ) → q < i → equal_rows s q r next ≡ false)
          → equal_rows s q r next ≡ false
      go true e z ih = never z
      go false e z ih = by (eq? q i)
        where
          by : Eq? q i → equal_rows s q r next ≡ false
          by (same _ p) = rw p e
          by (other _ p) = ih z q (omega arith)

-- ## Bytes

module _ (s : List ℕ) (acc : Accepted s) where
  abbrev pub start : ℕ → ℕ
  start = (bodies_of s acc).start

  -- the body behind the rows before b: a row, the first item, or none
  data Next? (b : ℕ) : Type 0 where
    a-row : b < rows s → Next? b
    an_item : b ≡ rows s + 0 → 0 < items s → Next? b
    the_end : b ≡ rows s + items s → Next? b

  next? : (b : ℕ) → b ≤ rows s → Next? b
  next? b l = go (eq? b (rows s)) (eq? (items s) 0)
    where
      go : Eq? b (rows s) → Eq? (items s) 0 → Next? b
      go (other _ e) i = a-row (omega arith)
      go (same _ e) (same _ i) = the_end (omega arith)
      go (same _ e) (other _ i) = an_item (omega arith) (omega arith)

  row_within : (r : ℕ) → r < rows s → start r + 2 ≤ length s
  unfolding row
  row_within r l = limited-within s BadValue 14 (start r) (after_is (limited s BadValue 14 (start r)) (body_of s r (pair_at s (start r)))
      ((bodies_of s acc).row_read r l)).1

  item-within : (i : ℕ) → i < items s → start (rows s + i) + 2 ≤ length s
  unfolding item
  item-within i l =
      let at = start (rows s + i) in
      limited-within s BadValue 9 at (after_is (limited s BadValue 9 at) (item_of s (rows s) (pair_at s at)) ((bodies_of s acc).item-read i l)).1

  within : (b : ℕ) → b ≤ rows s → start b ≤ length s
  within b l = go (next? b l)
    where
      go : Next? b → start b ≤ length s
      go (a-row h) = omega (arith, row_within b h)
      go (an_item e h) = rw e (omega (arith, item-within 0 h))
      go (the_end e) = rw e (omega (arith, (bodies_of s acc).last))

  begins-is : (b : ℕ) → b ≤ rows s → begins s b ≡ start b
  unfolding begins if'◌then◌else◌
  begins-is b l = go (next? b l)
    where
      go : Next? b → begins s b ≡ start b
      go (a-row h) = rw (lt-ltb b (rows s + items s) (omega arith)) ((bodies_of s acc).row-at b h)
      go (an_item e h) = rw (e, lt-ltb (rows s + 0) (rows s + items s) (omega arith)) ((bodies_of s acc).item-at 0 h)
      go (the_end e) = rw (e, le-ltb (rows s + items s) (rows s + items s) (omega arith)) (sym (bodies_of s acc).last)

  -- how many bytes row r has
  abbrev pub long : ℕ → ℕ
  long r = start (suc r) - start r

  module _ (r : ℕ) (l : r < rows s) where
    bytes-are : row_bytes s r ≡ take (long r) (drop (start r) s)
    unfolding row_bytes
    bytes-are = rw (add-one r, begins-is (suc r) l, begins-is r (omega arith))

    pub size : length (row_bytes s r) ≡ long r
    size = ap length bytes-are ∙ length-take-le (long r) (drop (start r) s) (omega (arith, length-drop (start r) s, within (suc r) l))

    pub byte : (j : ℕ) → j < long r → get_or (row_bytes s r) j 0 ≡ get_or s (start r + j) 0
    byte j h = ap (λ (m : List ℕ). get_or m j 0) bytes-are ∙ get_or-take (long r) (drop (start r) s) j 0 h ∙ get_or-drop (start r) s j 0

  -- a row with the bytes of one before it would have been refused
  not-before : (r q : ℕ) → r < rows s → q < r → row_bytes s r ≡ row_bytes s q → ⊥
  unfolding equal_rows
  not-before r q l k e = never (sym (fresh-all s r r (start (suc r)) ((bodies_of s acc).row_fresh r l) q k) ∙ equal)
    where
      m : q < rows s
      m = omega arith

      longs : long q ≡ long r
      longs = sym (size q m) ∙ ap length (sym e) ∙ size r l

      here : (j : ℕ) → j < long q → get_or s (start q + j) 0 ≡ get_or s (start r + j) 0
      here j h = sym (byte q m j h) ∙ ap (λ (x : List ℕ). get_or x j 0) (sym e) ∙ byte r l j (omega (arith, longs))

      by : (n k a b : ℕ) → n ≡ k → same_bytes s n a b ≡ true → elim (eqb n k) as (λ _. Bool) [ true ↦ same_bytes s n a b | false ↦ false ] ≡ true
      by n k a b e h = rw (eq-eqb n k e) h

      next-at : offset s (q + 1) ≡ start (suc q)
      next-at = rw (add-one q) ((bodies_of s acc).row-at (suc q) (omega arith))

      equal : equal_rows s q r (start (suc r)) ≡ true
      equal =
          by (offset s (q + 1) - offset s q) (start (suc r) - offset s r) (offset s q) (offset s r)
          (rw (next-at, (bodies_of s acc).row-at q m, (bodies_of s acc).row-at r l) longs)
          (rw (next-at, (bodies_of s acc).row-at q m, (bodies_of s acc).row-at r l) (bytes_same s (long q) (start q) (start r) here))

  pub bytes-differ : (r q : ℕ) → r < rows s → q < rows s → row_bytes s r ≡ row_bytes s q → r ≡ q
  bytes-differ r q l m e = go (dec_lt r q) (dec_lt q r)
    where
      go : Dec (r < q) → Dec (q < r) → r ≡ q
      go (yes k) _ = absurd (not-before q r m k (sym e))
      go (no k) (yes h) = absurd (not-before r q l h e)
      go (no k) (no h) = omega arith
