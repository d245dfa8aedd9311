-- What the test for an equal row finds out: bytes compared one by one, rows compared one by one, and that equal rows have equal keys, so that a row whose
-- key no earlier row has is fresh. Then what is kept of the rows, and what `fresh` finds out.
-- Assumes nothing.
use Prim.Native.Nat.{ℕ, zero, suc, ◌+◌, ◌-◌, ◌*◌, ◌≤◌, ◌<◌, ◌/◌, ◌%◌}
use mathlib.Core.Path.{◌≡◌, refl, sym, ap, ◌∙◌}
use mathlib.Core.List.{List}
use mathlib.Core.Bool.{Bool, true, false, not, ◌&&◌}
use native.Mathlib.Omega.{arith}
use native.Mathlib.Decide.{ℕ_discrete}
use lib.ListN.{length, get_or, set}
use lib.Seq.{get_or-set_same, get_or-set_other}
use lib.Bits.{bit_or}
use lib.Dec.{eqb}
use borrow.Author.Tests.{eqb-true, eq-eqb, ne_eqb}
use Rattle.std.proofs.lemmas.List.FromFn.{length-range_with_len, get_or-range_with_len}
use Rattle.std.proofs.lemmas.Nat.{or_comm, or_shifted}
use Rattle.rules.specs.declared.Refusal.{Refusal}
use Rattle.rules.specs.declared.Fault.TheVariants.{Misplaced, EqualRow}
use Rattle.std.specs.Prelude.{Ok, Err}
use Rattle.rules.specs.Format.{Step, refusal, check, after, pair_at, offset, same_bytes, equal_rows, fresh, row_at, row}
use Rattle.std.specs.Bool.{MatchBool}
use Rattle.std.specs.List.{list_all, range_with_len, HoldsAt, AllWithin}
use Rattle.sheet.specs.declared.fresh_rows.TheConstants.{SEEN}
use Rattle.sheet.specs.declared.fresh_rows.Keys.{Keys}
use Rattle.sheet.specs.declared.fresh_rows.KeptKeys.{KeptKeys}
use Rattle.sheet.specs.Keys.{mix, key, row_key, TwoKeys, KeyHeld, Kept, placed}

-- bytes compared place by place
module _ (s : List ℕ) (a b : ℕ) where
  abbrev pub alike : ℕ → Bool
  alike k = eqb (get_or s (a + k) 0) (get_or s (b + k) 0)

  alike-from : (n j : ℕ) → list_all alike (range_with_len j n) ≡ same_bytes s n (a + j) (b + j)
  unfolding same_bytes
  alike-from zero j = refl
  alike-from (suc n) j = go (alike j) refl (alike-from n (j + 1))
    where
      go : (t : Bool) → alike j ≡ t → list_all alike (range_with_len (j + 1) n) ≡ same_bytes s n (a + (j + 1)) (b + (j + 1))
          → (alike j && list_all alike (range_with_len (j + 1) n)) ≡ same_bytes s (suc n) (a + j) (b + j)
      go false q ih = rw (q, same_bytes) refl
      go true q ih =
          let ea : a + j + 1 ≡ a + (j + 1) = omega arith in
          let eb : b + j + 1 ≡ b + (j + 1) = omega arith in
          rw (q, same_bytes, ea, eb) ih

  pub alike-all : (n : ℕ) → list_all alike (range_with_len 0 n) ≡ same_bytes s n a b
  alike-all n =
      let ea : a + 0 ≡ a = omega arith in
      let eb : b + 0 ≡ b = omega arith in
      rw (ea, eb) at (alike-from n 0)

module _
    (s : List ℕ) (i r next : ℕ) {a b e n m : ℕ} (ea : a ≡ offset s i) (eb : b ≡ offset s r) (ee : e ≡ offset s (i + 1))
    (en : n ≡ e - a) (em : m ≡ next - b)
  where
    lengths : n ≡ offset s (i + 1) - offset s i
    lengths = rw (← ea, ← ee) en

    pub rows_alike : {x : Bool} → n ≡ m → x ≡ same_bytes s n a b → x ≡ equal_rows s i r next
    unfolding equal_rows
    rows_alike q h = rw (eq-eqb (offset s (i + 1) - offset s i) (next - offset s r) (sym lengths ∙ q ∙ rw (← eb) em), equal_rows) (rw (← lengths, ← ea, ← eb) h)

    pub rows-unlike : (n ≡ m → ⊥) → eqb n m ≡ equal_rows s i r next
    unfolding equal_rows
    rows-unlike q = ne_eqb n m q ∙ rw (ne_eqb (offset s (i + 1) - offset s i) (next - offset s r) (λ z. q (lengths ∙ z ∙ sym (rw (← eb) em))), equal_rows)

-- rows compared one by one: none of the first j equals row r, or one does
module _ (s : List ℕ) (r next : ℕ) where
  pub fresh-none : (j : ℕ) → ((i : ℕ) → i < j → equal_rows s i r next ≡ false) → true ≡ fresh s j r next
  unfolding fresh
  fresh-none zero h = refl
  fresh-none (suc j) h = rw (h j (omega arith), fresh) (fresh-none j (λ i l. h i (omega arith)))

  pub fresh-found : (j i : ℕ) → i < j → equal_rows s i r next ≡ true → false ≡ fresh s j r next
  unfolding fresh
  fresh-found zero i l e = absurd (omega arith)
  fresh-found (suc j) i l e = go (equal_rows s j r next) refl (λ k. fresh-found j i k e)
    where
      apart : equal_rows s j r next ≡ false → i ≡ j → ⊥
      apart q d = let z : true ≡ false = sym e ∙ ap (λ (k : ℕ). equal_rows s k r next) d ∙ q in cc

      go : (t : Bool) → equal_rows s j r next ≡ t → (i < j → false ≡ fresh s j r next) → false ≡ fresh s (suc j) r next
      go true q ih = rw (q, fresh) refl
      go false q ih = let ne : (i ≡ j → ⊥) = apart q in rw (q, fresh) (ih (omega arith))

-- what a search of the first n rows finds
pub fresh_any :
    (s : List ℕ) (r next n : ℕ) (found : Bool)
    → MatchBool found
    ((k : ℕ) × (k < length (range_with_len 0 n)) × HoldsAt (λ i. equal_rows s i r next ≡ true) (range_with_len 0 n) k)
    (AllWithin (λ i. i < n → equal_rows s i r next ≡ false) (range_with_len 0 n) 0 (length (range_with_len 0 n)))
    → not found ≡ fresh s n r next
fresh_any s r next n true h =
    let l : h.0 < n = omega (arith, h.1, length-range_with_len 0 n) in
    let at : get_or (range_with_len 0 n) h.0 0 ≡ h.0 = omega (arith, get_or-range_with_len 0 n h.0 0 l) in
    fresh-found s r next n h.0 l (rw at at (h.2 0))
fresh_any s r next n false h = fresh-none s r next n here
  where
    here : (i : ℕ) → i < n → equal_rows s i r next ≡ false
    here i l =
        let at : get_or (range_with_len 0 n) i 0 ≡ i = omega (arith, get_or-range_with_len 0 n i 0 l) in
        rw at at (h i 0 (omega arith) (omega (arith, length-range_with_len 0 n))) l

-- a test that holds, and what it leads to
tested : (b : Bool) (x : Bool) → elim b as (λ _. Bool) [ true ↦ x | false ↦ false ] ≡ true → (b ≡ true) × (x ≡ true)
tested true x h = (refl, h)
tested false x h = absurd (let z : ◌≡◌ {A = ℕ} 0 1 = cc in omega arith)

module _ (s : List ℕ) where
  first-same : (n a b : ℕ) → same_bytes s (suc n) a b ≡ true → (get_or s a 0 ≡ get_or s b 0) × (same_bytes s n (a + 1) (b + 1) ≡ true)
  unfolding same_bytes
  first-same n a b h = let t = tested (eqb (get_or s a 0) (get_or s b 0)) (same_bytes s n (a + 1) (b + 1)) h in (eqb-true _ _ t.0, t.1)

  same_key : (n a b k : ℕ) → same_bytes s n a b ≡ true → key s n a k ≡ key s n b k
  unfolding key pair_at
  same_key zero a b k h = refl
  same_key (suc zero) a b k h = refl
  same_key (suc (suc n)) a b k h =
      let low = first-same (suc n) a b h in
      let high = first-same n (a + 1) (b + 1) low.1 in
      let ea : a + 1 + 1 ≡ a + 2 = omega arith in
      let eb : b + 1 + 1 ≡ b + 2 = omega arith in
      let rest : same_bytes s n (a + 2) (b + 2) ≡ true = rw (← ea, ← eb) high.1 in
      let p : pair_at s a ≡ pair_at s b = rw (low.0, high.0) in
      rw p (same_key n (a + 2) (b + 2) (mix k (pair_at s b)) rest)

  module _ (r next seed : ℕ) where
    pub equal-key : (i : ℕ) → equal_rows s i r next ≡ true → row_key s seed i ≡ key s (next - offset s r) (offset s r) seed
    unfolding equal_rows row_key
    equal-key i h =
        let n = offset s (i + 1) - offset s i in
        let t = tested (eqb n (next - offset s r)) (same_bytes s n (offset s i) (offset s r)) h in
        let e : n ≡ next - offset s r = eqb-true _ _ t.0 in
        same_key n (offset s i) (offset s r) seed t.1 ∙ ap (λ (m : ℕ). key s m (offset s r) seed) e

    -- a row with another key is no equal row
    pub other_key : (i : ℕ) {k : ℕ} → k ≡ key s (next - offset s r) (offset s r) seed → (row_key s seed i ≡ k → ⊥) → equal_rows s i r next ≡ false
    other_key i {k} e h = by (equal_rows s i r next) refl
      where
        by : (b : Bool) → equal_rows s i r next ≡ b → b ≡ false
        by true q = absurd (h (equal-key i q ∙ sym e))
        by false q = refl

    pub fresh-keys : (j : ℕ) {k : ℕ} → k ≡ key s (next - offset s r) (offset s r) seed → ((i : ℕ) → i < j → row_key s seed i ≡ k → ⊥) → true ≡ fresh s j r next
    fresh-keys j e h = fresh-none s r next j (λ i l. other_key i e (h i l))

-- the key, a pair a turn: after j pairs of n bytes from a
module _ (s : List ℕ) (n a : ℕ) where
  abbrev pub key-from : (j k : ℕ) → ℕ
  key-from j k = key s (n - 2 * j) (a + 2 * j) k

  key-pair : (left i k : ℕ) → 2 ≤ left → key s left i k ≡ key s (left - 2) (i + 2) (mix k (pair_at s i))
  unfolding key
  key-pair zero i k l = absurd (omega arith)
  key-pair (suc zero) i k l = absurd (omega arith)
  key-pair (suc (suc m)) i k l = let q : suc (suc m) - 2 ≡ m = omega arith in rw (q, key)

  pub key-more : (j k : ℕ) {whole p m : ℕ} → whole ≡ key-from j k → j < n / 2 → p ≡ pair_at s (a + 2 * j) → m ≡ mix k p → whole ≡ key-from (j + 1) m
  key-more j k {whole} {p} {m} h l e f =
      let en : n - 2 * j - 2 ≡ n - 2 * (j + 1) = omega arith in
      let ea : a + 2 * j + 2 ≡ a + 2 * (j + 1) = omega arith in
      h ∙ key-pair (n - 2 * j) (a + 2 * j) k (omega arith) ∙ rw (en, ea, f, e)

  key-last : (left i k : ℕ) → left < 2 → key s left i k ≡ k
  unfolding key
  key-last zero i k l = refl
  key-last (suc zero) i k l = refl
  key-last (suc (suc m)) i k l = absurd (omega arith)

  pub key-end : (j k : ℕ) {whole : ℕ} → whole ≡ key-from j k → n / 2 ≤ j → k ≡ whole
  key-end j k h l = sym (h ∙ key-last (n - 2 * j) (a + 2 * j) k (omega arith))

-- one row more is kept
module _ (s : List ℕ) (r : ℕ) where
  held_more : (keys : List ℕ) (seed : ℕ) {k : ℕ} → KeyHeld s seed keys r → row_key s seed r ≡ k → r < length keys → KeyHeld s seed (set keys r k) (r + 1)
  held_more keys seed {k} h e lk i l = by (ℕ_discrete i r)
    where
      by : Dec (i ≡ r) → get_or (set keys r k) i 0 ≡ row_key s seed i
      by (yes q) = rw q (get_or-set_same keys r k 0 lk ∙ sym e)
      by (no q) = get_or-set_other keys r i k 0 q ∙ h i (omega arith)

  marked_more :
      (seen : List Bool) {k : ℕ} → ((i : ℕ) → i < r → get_or seen (row_key s 0 i % SEEN) false ≡ true) → row_key s 0 r ≡ k → k % SEEN < length seen
      → (i : ℕ) → i < r + 1 → get_or (set seen (k % SEEN) true) (row_key s 0 i % SEEN) false ≡ true
  marked_more seen {k} h e ls i l = by (ℕ_discrete (row_key s 0 i % SEEN) (k % SEEN))
    where
      by : Dec (row_key s 0 i % SEEN ≡ k % SEEN) → get_or (set seen (k % SEEN) true) (row_key s 0 i % SEEN) false ≡ true
      by (yes q) = rw q (get_or-set_same seen (k % SEEN) true false ls)
      by (no q) =
          let z : (i ≡ r → ⊥) = λ (w : i ≡ r). q (rw w (ap (λ (m : ℕ). m % SEEN) e)) in
          get_or-set_other seen (k % SEEN) (row_key s 0 i % SEEN) true false q ∙ h i (omega arith)

  pub kept_more :
      (keys : KeptKeys) (two : Keys) → r < length keys.first → r < length keys.second → length keys.seen ≡ SEEN → r < 1024 → Kept s keys r
      → TwoKeys s (offset s r) (offset s (r + 1)) two
      → Kept s (record { first = set keys.first r two.first; second = set keys.second r two.second; seen = set keys.seen (two.first % SEEN) true }) (r + 1)
  unfolding row_key
  kept_more keys two lf ls lm l kept own = record {
    few = omega arith;
    held = held_more keys.first 0 kept.held (sym own.low) lf;
    held2 = held_more keys.second 11400714819323198485 kept.held2 (sym own.high) ls;
    marked = marked_more keys.seen kept.marked (sym own.low) (omega arith);
  }

-- `mix` does not wrap
pub low_half : (k : ℕ) → k % 4294967296 < 4294967296
low_half k = omega arith

pub high_half : (k : ℕ) → k < 18446744073709551616 → k / 4294967296 < 4294967296
high_half k h = omega arith

pub product-fits : (u h p : ℕ) → u < 4294967296 → h < 4294967296 → p < 65536 → 2654435769 * (u + p) + h < 18446744073709551616
product-fits u h p hu hh hp = omega arith

-- a turn by 18 bits: the low bits become the high ones
pub turned-is : (z : ℕ) → z < 18446744073709551616
    → bit_or (z / 262144) (z * 70368744177664 % 18446744073709551616) ≡ z % 262144 * 70368744177664 + z / 262144
turned-is z h =
    let high : z * 70368744177664 % 18446744073709551616 ≡ z % 262144 * 70368744177664 = omega arith in
    ap (bit_or (z / 262144)) high ∙ or_comm (z / 262144) (z % 262144 * 70368744177664) ∙ or_shifted (z % 262144) 46 (z / 262144) (omega arith)

module _ (s : List ℕ) (r at : ℕ) {o : ℕ} (eo : o ≡ offset s r) where
  pub placed_off : (o ≡ at → ⊥) → refusal Misplaced (4 + 2 * r) ≡ placed s r at
  unfolding placed
  placed_off d = simp (ne_eqb (offset s r) at (λ q. d (eo ∙ q)))

  pub placed_on : {x : Step} → o ≡ at → x ≡ row s r at → x ≡ placed s r at
  unfolding placed
  placed_on q e = simp (eq-eqb (offset s r) at (sym eo ∙ q)) e

-- `row_at` by what `placed` answers
module _ (s : List ℕ) (r at : ℕ) {x : Step} (e : x ≡ placed s r at) where
  pub placed-here : {p : ℕ} → x ≡ Ok p → offset s r ≡ at
  unfolding placed
  placed-here {p} q = by (eqb (offset s r) at) refl
    where
      by : (b : Bool) → eqb (offset s r) at ≡ b → offset s r ≡ at
      by true t = eqb-true _ _ t
      by false t = absurd (let w : Ok p ≡ refusal Misplaced (4 + 2 * r) = sym q ∙ e ∙ simp t in let z : ◌≡◌ {A = ℕ} 0 1 = cc in omega arith)

  all_of : row_at s r at ≡ after x (λ next. check (fresh s r r next) EqualRow at next)
  unfolding placed row_at
  all_of = by (eqb (offset s r) at) refl
    where
      by : (b : Bool) → eqb (offset s r) at ≡ b → row_at s r at ≡ after x (λ next. check (fresh s r r next) EqualRow at next)
      by true t = rw (e, placed) (simp t)
      by false t = rw (e, placed) (simp t)

  pub row-refused : {e : Refusal} → x ≡ Err e → x ≡ row_at s r at
  row-refused q = q ∙ sym (rw q at all_of)

  module _ {next : ℕ} (q : x ≡ Ok next) {f : Bool} (ef : f ≡ fresh s r r next) where
    pub row_new : f ≡ true → x ≡ row_at s r at
    row_new t = q ∙ sym (rw (q, sym ef ∙ t) at all_of)

    pub row_seen : f ≡ false → refusal EqualRow at ≡ row_at s r at
    row_seen t = sym (rw (q, sym ef ∙ t) at all_of)

-- what `fresh` finds out
module _ (s : List ℕ) (keys : KeptKeys) (r : ℕ) (two : Keys) (next : ℕ) (kept : Kept s keys r) (own : TwoKeys s (offset s r) next two) where
  pub fresh_unmarked : get_or keys.seen (two.first % SEEN) false ≡ false → true ≡ fresh s r r next
  fresh_unmarked z = fresh-keys s r next 0 r own.low
      (λ i l q. let m : get_or keys.seen (two.first % SEEN) false ≡ true = rw q at (kept.marked i l) in let w : true ≡ false = sym m ∙ z in cc)

  pub fresh-unheld : {n : ℕ} → (n ≡ 0 → (i : ℕ) → i < r → get_or keys.first i 0 ≡ two.first → ⊥) → n ≡ 0 → true ≡ fresh s r r next
  fresh-unheld h z = fresh-keys s r next 0 r own.low (λ i l q. h z i l (kept.held i l ∙ q))

-- the keys of a row, by other names of its ends
pub own_keys : (s : List ℕ) (a end : ℕ) (two : Keys) {a' end' : ℕ} → TwoKeys s a end two → a' ≡ a → end' ≡ end → TwoKeys s a' end' two
own_keys s a end two own ea ee = record { low = rw (ea, ee) own.low; high = rw (ea, ee) own.high }

pub ruleset comparing = (rows_alike, rows-unlike)

pub ruleset placing = (placed_off, placed_on)
