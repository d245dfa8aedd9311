-- A column of items, whichever it is. Where it has for each name the last of the first i items that pass a test, its set is the set of their names
-- (`names-are`), and its items are the rules' table of last items (`lasts_are`). It is so with no items (`column-start`), and with one item more where that
-- item is entered as its number plus 1 (`column-here`), or does not pass (`column-skip`); and a store in another column changes nothing (`column-there`).
-- Assumes nothing.
use Prim.Native.Nat.{ℕ, ◌+◌, ◌*◌, ◌≤◌, ◌<◌}
use mathlib.Core.Path.{◌≡◌, refl, sym, ap, ◌∙◌, subst}
use mathlib.Core.Logic.{◌≢◌}
use mathlib.Core.Bool.{Bool, true, false}
use mathlib.Core.List.{List}
use native.Mathlib.Omega.{arith}
use native.Mathlib.Numerals.{add-one}
use lib.Dec.{T, ltb, eqb}
use lib.ListN.{length, get_or, set, replicate, get_or-replicate}
use lib.Seq.{get_or-set_same, get_or-set_other, ext_get_or}
use borrow.Author.Tests.{lt-ltb, ne_eqb}
use Rattle.rules.specs.Numbers.{no_item, name_count, most_items}
use Rattle.rules.specs.Base.{if'◌then◌else◌}
use Rattle.rules.specs.Names.{◌∋◌}
use Rattle.rules.specs.View.{item_name}
use Rattle.rules.specs.Collect.{names_to, last_to}
use Rattle.laws.proofs.Base.Counts.{Eq?, same, other, eq?}
use Rattle.laws.proofs.Base.Tests.{is_true, is_false}
use Rattle.laws.proofs.Base.Lists.{over-length, zeros-get}
use Rattle.laws.proofs.Names.Sets.{set_same, names-set, below_set}
use Rattle.laws.proofs.Names.SetMembers.{member_is}
use Rattle.laws.proofs.Names.LastItems.{Last, no_one, last, length_last, last-is}
use Rattle.names.specs.Known.{column_count, table_size, entry_at, item_in, entry_of, names_in, last_in, LastColumn, entered}
use Rattle.names.proofs.Columns.{entry_in, has-is, last-is as item-is, entered-not, entered_here, entered-there, entered-other}

-- ## An item and its entry

entry-item : (i : ℕ) → item_in (entry_of i) ≡ i
unfolding if'◌then◌else◌
entry-item i = go (eq? i no_item)
  where
    go : Eq? i no_item → item_in (if' eqb i no_item then 0 else i + 1) ≡ i
    go (same e q) = rw e (sym q)
    go (other e q) = rw (e, add-one i) refl

entry-none : ltb 0 (entry_of no_item) ≡ false
unfolding if'◌then◌else◌
entry-none = refl

pub entry-some : (i : ℕ) → i < most_items → entry_of i ≡ i + 1
unfolding if'◌then◌else◌
entry-some i l = rw (ne_eqb i no_item (λ e. omega arith)) refl

-- ## What a column of last items is

module _ (s : List ℕ) (p : ℕ → Bool) (i : ℕ) (few : i ≤ most_items) (named : (j : ℕ) → j < i → T (p j) → item_name s j < name_count) where
  -- a name has an entry where an item that passes bears it
  entry_has : (n : ℕ) → n < name_count → ltb 0 (entry_of (get_or (last_to s p i) n no_item)) ≡ (names_to s p i ∋ n)
  entry_has n l = go (last-is s p i n l)
    where
      go : {r : ℕ} → Last s p i n r → ltb 0 (entry_of r) ≡ (names_to s p i ∋ n)
      go (no_one f) =
          entry-none ∙ sym (is_false (names_to s p i ∋ n) (λ t. let m = (member_is s p i named n).0 t in f m.item m.below m.passes m.bears))
      go {r} (last k t e f) =
          ap (ltb 0) (entry-some r (omega arith)) ∙ lt-ltb 0 (r + 1) (omega arith)
          ∙ sym (is_true (names_to s p i ∋ n) ((member_is s p i named n).1 (record { item = r; below = k; passes = t; bears = e })))

  pub names-are : {w : List ℕ} {k : ℕ} → LastColumn s p i w k → names_in w k ≡ names_to s p i
  unfolding names_in
  names-are {w} {k} h =
      set_same (names_in w k) (names_to s p i) (below_set (λ n. ltb 0 (entry_at w k n)) name_count) (names-set s p i)
      (λ n l. has-is w k n ∙ ap (ltb 0) (h.at n l) ∙ entry_has n l)

pub lasts_are : {s w : List ℕ} {p : ℕ → Bool} {i k : ℕ} → LastColumn s p i w k → last_in w k ≡ last_to s p i
unfolding last_in
lasts_are {s} {w} {p} {i} {k} h =
    ext_get_or no_item (last_in w k) (last_to s p i) (size ∙ sym (length_last s p i))
    (λ n l. item-is w k n ∙ ap item_in (h.at n (omega (arith, size))) ∙ entry-item (get_or (last_to s p i) n no_item))
  where
    size : length (last_in w k) ≡ name_count
    size = over-length (λ n. item_in (entry_at w k n)) name_count

-- ## From no items to one more

pub column-start : (s : List ℕ) (p : ℕ → Bool) (m k : ℕ) → k < column_count → LastColumn s p 0 (replicate m 0) k
unfolding last_to if'◌then◌else◌
column-start s p m k h =
    record {
      at = λ n l. entry_in (replicate m 0) k n h l ∙ zeros-get m (name_count * k + n) ∙ sym (ap entry_of (get_or-replicate name_count n no_item no_item l));
    }

module _ (s : List ℕ) (p : ℕ → Bool) (i : ℕ) where
  last-same : p i ≡ false → last_to s p (i + 1) ≡ last_to s p i
  unfolding last_to
  last-same e = rw (add-one i, last_to, e) refl

  last_more : p i ≡ true → last_to s p (i + 1) ≡ set (last_to s p i) (item_name s i) i
  unfolding last_to
  last_more e = rw (add-one i, last_to, e) refl

  pub column-skip : {w : List ℕ} {k : ℕ} → p i ≡ false → LastColumn s p i w k → LastColumn s p (i + 1) w k
  column-skip e h = record { at = λ n l. h.at n l ∙ sym (ap (λ (t : List ℕ). entry_of (get_or t n no_item)) (last-same e)) }

module _ (w : List ℕ) (long : length w ≡ table_size) (k : ℕ) (is-column : k < column_count) where
  module _ (s : List ℕ) (p : ℕ → Bool) (i : ℕ) where
    pub column-there : (so : Bool) (n x j : ℕ) → j ≢ k → j < column_count → LastColumn s p i w j → LastColumn s p i (entered w k so n x) j
    column-there so n x j ne h c = record { at = λ m l. entered-other w k n x so j m ne h l ∙ c.at m l }

    pub column-here : (so : Bool) → so ≡ p i → (n : ℕ) → n ≡ item_name s i → (so ≡ true → n < name_count) → i < most_items → LastColumn s p i w k
        → LastColumn s p (i + 1) (entered w k so n (i + 1)) k
    column-here false e n q named few c = subst (λ (v : List ℕ). LastColumn s p (i + 1) v k) (entered-not w k n (i + 1) refl) (column-skip s p i (sym e) c)
    column-here true e n q named few c = record { at = λ m l. go m l (eq? m n) }
      where
        small : n < name_count
        small = named refl

        t : List ℕ
        t = last_to s p i

        after : last_to s p (i + 1) ≡ set t n i
        after = last_more s p i (sym e) ∙ ap (λ (x : ℕ). set t x i) (sym q)

        go : (m : ℕ) → m < name_count → Eq? m n → entry_at (entered w k true n (i + 1)) k m ≡ entry_of (get_or (last_to s p (i + 1)) m no_item)
        go m l (same _ d) =
            ap (entry_at (entered w k true n (i + 1)) k) d ∙ entered_here w k n (i + 1) is-column small (omega arith) ∙ sym (entry-some i few)
            ∙ sym (ap entry_of (ap (λ (u : List ℕ). get_or u m no_item) after ∙ ap (λ (x : ℕ). get_or (set t n i) x no_item) d
            ∙ get_or-set_same t n i no_item (omega (arith, length_last s p i))))
        go m l (other _ d) =
            entered-there w k n (i + 1) is-column small true k m is-column l (λ _. d) ∙ c.at m l
            ∙ sym (ap entry_of (ap (λ (u : List ℕ). get_or u m no_item) after ∙ get_or-set_other t n m i no_item d))
