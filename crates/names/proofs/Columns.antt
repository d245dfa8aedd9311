-- The table of what is known of the names, by its entries: a name is in a column's set where its entry is above 0 (`has-is`); the columns of items and of
-- counts, entry by entry (`last-is`, `count-is`); and a store changes one entry (`entered_here`, `entered-there`, `entered-other`).
-- Assumes nothing.
use Prim.Native.Nat.{ℕ, ◌+◌, ◌*◌, ◌≤◌, ◌<◌}
use mathlib.Core.Path.{◌≡◌, refl, sym, ap, ◌∙◌}
use mathlib.Core.Logic.{◌≢◌}
use mathlib.Core.Bool.{Bool, true, false, ◌&&◌}
use mathlib.Core.List.{List, [], ◌∷◌}
use native.Mathlib.Omega.{arith}
use native.Mathlib.Decide.{dec_lt}
use native.Mathlib.Numerals.{add-one}
use lib.ListN.{length, get_or, set, length-set, get_or-eq_default}
use lib.Seq.{get_or-set_same, get_or-set_other}
use lib.Dec.{ltb}
use borrow.Author.Tests.{lt-ltb, le-ltb}
use Rattle.rules.specs.Numbers.{no_item, name_count}
use Rattle.rules.specs.Base.{if'◌then◌else◌, over}
use Rattle.rules.specs.Names.{Words, empty, ◌∋◌, add, names_below}
use Rattle.laws.proofs.Base.Tests.{and-false}
use Rattle.laws.proofs.Base.Lists.{over-length, over-get}
use Rattle.laws.proofs.Names.Sets.{below-is, below_set, set_same}
use Rattle.names.specs.Known.{column_count, entry_at, item_in, names_in, last_in, counts_in, entered}

-- ## One entry

module _ (w : List ℕ) (k n : ℕ) where
  pub entry_in : k < column_count → n < name_count → entry_at w k n ≡ get_or w (name_count * k + n) 0
  unfolding entry_at if'◌then◌else◌
  entry_in h l = rw (lt-ltb k column_count h, lt-ltb n name_count l) refl

  pub entry_past : column_count ≤ k → entry_at w k n ≡ 0
  unfolding entry_at if'◌then◌else◌
  entry_past h = rw (le-ltb k column_count h) refl

  pub entry-out : name_count ≤ n → entry_at w k n ≡ 0
  unfolding entry_at if'◌then◌else◌
  entry-out l = rw (le-ltb n name_count l, and-false (ltb k column_count)) refl

  -- ## Columns

  pub has-is : names_in w k ∋ n ≡ ltb 0 (entry_at w k n)
  unfolding names_in
  has-is = below-is (λ x. ltb 0 (entry_at w k x)) name_count n (omega arith) ∙ go (dec_lt n name_count)
    where
      go : Dec (n < name_count) → (ltb n name_count && ltb 0 (entry_at w k n)) ≡ ltb 0 (entry_at w k n)
      go (yes l) = rw (lt-ltb n name_count l) refl
      go (no l) = rw (le-ltb n name_count (omega arith), entry-out (omega arith)) refl

  pub last-is : get_or (last_in w k) n no_item ≡ item_in (entry_at w k n)
  unfolding last_in
  last-is = go (dec_lt n name_count)
    where
      column : List ℕ
      column = over name_count (λ x. item_in (entry_at w k x) ∷ [])

      go : Dec (n < name_count) → get_or column n no_item ≡ item_in (entry_at w k n)
      go (yes l) = over-get (λ x. item_in (entry_at w k x)) no_item name_count n l
      go (no l) =
          get_or-eq_default column no_item (omega (arith, over-length (λ x. item_in (entry_at w k x)) name_count)) ∙ ap item_in (sym (entry-out (omega arith)))

  pub count-is : get_or (counts_in w k) n 0 ≡ entry_at w k n
  unfolding counts_in
  count-is = go (dec_lt n name_count)
    where
      column : List ℕ
      column = over name_count (λ x. entry_at w k x ∷ [])

      go : Dec (n < name_count) → get_or column n 0 ≡ entry_at w k n
      go (yes l) = over-get (λ x. entry_at w k x) 0 name_count n l
      go (no l) = get_or-eq_default column 0 (omega (arith, over-length (λ x. entry_at w k x) name_count)) ∙ sym (entry-out (omega arith))

-- ## A set, name by name

module _ (w : List ℕ) (k : ℕ) where
  -- the names below n that have an entry
  abbrev pub names_to : (n : ℕ) → Words
  names_to n = names_below (λ x. ltb 0 (entry_at w k x)) n

  pub to_start : {v : Words} → v ≡ empty → v ≡ names_to 0
  unfolding names_below
  to_start e = e

  pub to_end : (n : ℕ) → n ≡ name_count → names_to n ≡ names_in w k
  unfolding names_in
  to_end n e = ap names_to e

  pub to-more : (n : ℕ) {x : ℕ} {v u : Words} → v ≡ names_to n → x ≡ entry_at w k n → 0 < x → u ≡ add v n → u ≡ names_to (n + 1)
  unfolding names_below
  to-more n {x} {v} {u} is e h g =
      rw (add-one n) (g ∙ ap (λ (y : Words). add y n) is ∙ sym (ap (λ b. elim b as (λ _. Words) [ true ↦ add (names_to n) n | false ↦ names_to n ]) some))
    where
      some : ltb 0 (entry_at w k n) ≡ true
      some = ap (ltb 0) (sym e) ∙ lt-ltb 0 x h

  pub to_same : (n : ℕ) {x : ℕ} {v : Words} → v ≡ names_to n → x ≡ entry_at w k n → x ≤ 0 → v ≡ names_to (n + 1)
  unfolding names_below
  to_same n {x} {v} is e h =
      rw (add-one n) (is ∙ sym (ap (λ b. elim b as (λ _. Words) [ true ↦ add (names_to n) n | false ↦ names_to n ]) no_one))
    where
      no_one : ltb 0 (entry_at w k n) ≡ false
      no_one = ap (ltb 0) (sym e) ∙ le-ltb 0 x h

-- ## A store

module _ (w : List ℕ) (k n x : ℕ) where
  pub entered-not : {so : Bool} → so ≡ false → w ≡ entered w k so n x
  unfolding entered if'◌then◌else◌
  entered-not e = rw e refl

  pub entered-past : {so : Bool} → so ≡ true → column_count ≤ k → w ≡ entered w k so n x
  unfolding entered if'◌then◌else◌
  entered-past e h = rw (e, le-ltb k column_count h) refl

  pub entered-out : {so : Bool} → so ≡ true → name_count ≤ n → w ≡ entered w k so n x
  unfolding entered if'◌then◌else◌
  entered-out e l = rw (e, le-ltb n name_count l, and-false (ltb k column_count)) refl

  pub entered-in : {so : Bool} → so ≡ true → k < column_count → n < name_count → set w (name_count * k + n) x ≡ entered w k so n x
  unfolding entered if'◌then◌else◌
  entered-in e h l = rw (e, lt-ltb k column_count h, lt-ltb n name_count l) refl

  pub entered-long : (so : Bool) → length (entered w k so n x) ≡ length w
  unfolding entered if'◌then◌else◌
  entered-long so = go (so && ltb k column_count && ltb n name_count)
    where
      go : (b : Bool) → length (if' b then set w (name_count * k + n) x else w) ≡ length w
      go true = length-set w (name_count * k + n) x
      go false = refl

  -- the entry of name m in column j after the store
  module _ (is-column : k < column_count) (is_name : n < name_count) where
    pub entered_here : name_count * column_count ≤ length w → entry_at (entered w k true n x) k n ≡ x
    entered_here long =
        ap (λ (v : List ℕ). entry_at v k n) (sym (entered-in refl is-column is_name))
        ∙ entry_in (set w (name_count * k + n) x) k n is-column is_name
        ∙ get_or-set_same w (name_count * k + n) x 0 (omega arith)

    pub entered-there : (so : Bool) (j m : ℕ) → j < column_count → m < name_count → (j ≡ k → m ≢ n) → entry_at (entered w k so n x) j m ≡ entry_at w j m
    entered-there false j m h l ne = ap (λ (v : List ℕ). entry_at v j m) (sym (entered-not refl))
    entered-there true j m h l ne =
        ap (λ (v : List ℕ). entry_at v j m) (sym (entered-in refl is-column is_name))
        ∙ entry_in (set w (name_count * k + n) x) j m h l
        ∙ get_or-set_other w (name_count * k + n) (name_count * j + m) x 0 apart
        ∙ sym (entry_in w j m h l)
      where
        apart : name_count * j + m ≢ name_count * k + n
        apart e = let a : j ≡ k = omega arith in ne a (omega arith)

  -- another column stays as it was
  pub entered-other : (so : Bool) (j m : ℕ) → j ≢ k → j < column_count → m < name_count → entry_at (entered w k so n x) j m ≡ entry_at w j m
  entered-other false j m ne h l = ap (λ (v : List ℕ). entry_at v j m) (sym (entered-not refl))
  entered-other true j m ne h l = go (dec_lt k column_count) (dec_lt n name_count)
    where
      go : Dec (k < column_count) → Dec (n < name_count) → entry_at (entered w k true n x) j m ≡ entry_at w j m
      go (yes c) (yes d) = entered-there c d true j m h l (λ e. absurd (ne e))
      go (yes c) (no d) = ap (λ (v : List ℕ). entry_at v j m) (sym (entered-out refl (omega arith)))
      go (no c) d = ap (λ (v : List ℕ). entry_at v j m) (sym (entered-past refl (omega arith)))

-- ## Two tables

-- where a column has the same entries, it has the same names
pub column-same : (v w : List ℕ) (k : ℕ) → ((n : ℕ) → n < name_count → entry_at v k n ≡ entry_at w k n) → names_in v k ≡ names_in w k
unfolding names_in
column-same v w k h =
    set_same (names_in v k) (names_in w k) (below_set (λ n. ltb 0 (entry_at v k n)) name_count) (below_set (λ n. ltb 0 (entry_at w k n)) name_count)
    (λ n l. has-is v k n ∙ ap (ltb 0) (h n l) ∙ sym (has-is w k n))
