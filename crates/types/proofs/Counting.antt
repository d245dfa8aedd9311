-- Reasons are counted one list after another, and no count changes what the table says of extern C++ types (`extern-same`); a list of reasons by the tests
-- that the code makes; and where a sheet's reasons are few enough, the counts that stop are the rules' own (`tally-counts`).
-- Assumes nothing.
use Prim.Native.Nat.{ℕ, ◌+◌, ◌*◌, ◌≤◌, ◌<◌, min}
use mathlib.Core.Path.{◌≡◌, refl, sym, ap, ap₂, ◌∙◌}
use mathlib.Core.Logic.{◌≢◌}
use mathlib.Core.Bool.{Bool, true, false, not, ◌||◌}
use mathlib.Core.List.{List, [], ◌∷◌, ◌++◌}
use native.Mathlib.Omega.{arith}
use native.Mathlib.Numerals.{add-one}
use native.Mathlib.Decide.{dec_lt}
use lib.ListN.{length}
use lib.Dec.{ltb, eqb}
use borrow.Author.Tests.{lt-ltb, le-ltb, eq-eqb, ne_eqb}
use Rattle.rules.specs.Numbers.{RustBox, RustVec, SliceRef, Struct, no_row, name_count, struct_set, enum_set, cxx_set, required_trivial_set}
use Rattle.rules.specs.Base.{if'◌then◌else◌, over}
use Rattle.rules.specs.Kinds.{some_unless}
use Rattle.rules.specs.Count.{count}
use Rattle.rules.specs.Format.{pair_at}
use Rattle.rules.specs.Names.{Words}
use Rattle.rules.specs.View.{function_kind, kind, is, inner, items, item_kind}
use Rattle.rules.specs.View.{item_is, is_function, rest, field_count, field, return_place, has_return, return, arg_count, arg}
use Rattle.rules.specs.Trivial.{extern_in, insist, reasons_of_item, reasons_of_row}
use Rattle.rules.specs.Types.{is_extern}
use Rattle.laws.proofs.Base.Counts.{Eq?, same, other, eq?}
use Rattle.laws.proofs.Base.Lists.{over_nothing}
use Rattle.names.specs.Known.{column_count, table_size, entry_at, names_in, tabled, entered}
use Rattle.names.proofs.Columns.{entry-out, entered-out, entered-long, entered_here, entered-there, entered-other, column-same}
use Rattle.std.specs.Prelude.{Option, Some, None}
use Rattle.types.specs.declared.reasons.Reasons.{Reasons}
use Rattle.types.specs.Reasons.{Counted, most_reasons, one_more, counted, tally, Tallied, Wants, of_plain, of_list, of_return, of_item, of_row, of_all}
use Rattle.types.proofs.Folding.{fold-none, fold-then}

-- ## One list after another

abbrev reasons : ℕ
reasons = required_trivial_set

-- what a table came to, where a reference ends
pub tally-as : {w ns u v : List ℕ} → Tallied w ns u → v ≡ u → Tallied w ns v
tally-as p e = record { is = e ∙ p.is }

-- every other column stays as it was
pub tally-other : (ns w : List ℕ) (j n : ℕ) → j ≢ required_trivial_set → j < column_count → n < name_count → entry_at (tally w ns) j n ≡ entry_at w j n
tally-other [] w j n ne h l = refl
tally-other (m ∷ ns) w j n ne h l = tally-other ns (counted w m) j n ne h l ∙ entered-other w reasons m (one_more (entry_at w reasons m)) true j n ne h l

-- and with it what is an extern C++ type
pub extern-same : (s : List ℕ) {w ns u : List ℕ} → Tallied w ns u → is_extern (tabled s u) ≡ is_extern (tabled s w)
unfolding is_extern tabled
extern-same s {w} {ns} {u} p =
    rw p.is
    (ap (λ (x : Words). extern_in x (names_in (tally w ns) enum_set) (names_in (tally w ns) cxx_set)) (kept struct_set (λ e. omega arith) (omega arith))
    ∙ ap (λ (x : Words). extern_in (names_in w struct_set) x (names_in (tally w ns) cxx_set)) (kept enum_set (λ e. omega arith) (omega arith))
    ∙ ap (λ (x : Words). extern_in (names_in w struct_set) (names_in w enum_set) x) (kept cxx_set (λ e. omega arith) (omega arith)))
  where
    kept : (k : ℕ) → k ≢ required_trivial_set → k < column_count → names_in (tally w ns) k ≡ names_in w k
    kept k ne h = column-same (tally w ns) w k (λ n l. tally-other ns w k n ne h l)

-- a list by the names as the table so far has them, and as the first one has them
pub tally-by : (s : List ℕ) {w ns u v : List ℕ} (f : (ℕ → Bool) → List ℕ) → Tallied w ns u → Tallied u (f (is_extern (tabled s u))) v
    → Tallied u (f (is_extern (tabled s w))) v
tally-by s f p q = rw (← (extern-same s p)) q

-- and the table of the names that rows want
pub wants-same : {t u : Reasons} {ns : List ℕ} → Counted t ns u → Wants t → Wants u
wants-same {t} p h = rw (p.sheet, p.wants, extern-same t.s.now p.names) h

-- a list counted after another, by the sheet and the names as they were before both
pub counted-then : {t u v : Reasons} {ns : List ℕ} (f : (s : List ℕ) → (ℕ → Bool) → List ℕ) → Counted t ns u
    → Counted u (f u.s.now (is_extern (tabled u.s.now u.names.now))) v
    → Counted t (ns ++ f t.s.now (is_extern (tabled t.s.now t.names.now))) v
counted-then {t} {u} {v} {ns} f p q = record {
  names = fold-then p.names (tally-by t.s.now (f t.s.now) p.names (rw p.sheet at q.names));
  sheet = q.sheet ∙ p.sheet;
  wants = q.wants ∙ p.wants;
  same = q.same ∙ p.same;
}

-- one that is counted in the table alone
pub counted-names : {t u : Reasons} {ns : List ℕ} → u.s ≡ t.s → u.wants ≡ t.wants → u.names.ghost_name ≡ t.names.ghost_name
    → Tallied t.names.now ns u.names.now
    → Counted t ns u
counted-names e f g p = record { names = p; sheet = e; wants = f; same = g }

pub counted_none : {t : Reasons} → Counted t [] t
counted_none = record { names = fold-none; sheet = refl; wants = refl; same = refl }

module _ (f : (s : List ℕ) → (ℕ → Bool) → ℕ → List ℕ) {t : Reasons} where
  pub over_none : Counted t (over 0 (f t.s.now (is_extern (tabled t.s.now t.names.now)))) t
  unfolding over
  over_none = counted_none

  pub over-more : (j : ℕ) {u v : Reasons} → Counted t (over j (f t.s.now (is_extern (tabled t.s.now t.names.now)))) u
      → Counted u (f u.s.now (is_extern (tabled u.s.now u.names.now)) j) v
      → Counted t (over (j + 1) (f t.s.now (is_extern (tabled t.s.now t.names.now)))) v
  unfolding over
  over-more j p q = rw (add-one j) (counted-then (λ s g. f s g j) p q)

-- ## A row

-- as the code counts one more
pub counted-once : {x y : ℕ} → x < 65536 → y ≡ min (x + 1) most_reasons → y ≡ one_more x
unfolding one_more if'◌then◌else◌
counted-once {x} {y} h e = go (dec_lt x most_reasons)
  where
    go : Dec (x < most_reasons) → y ≡ (if' ltb x most_reasons then x + 1 else x)
    go (yes l) = rw (lt-ltb x most_reasons l) (omega arith)
    go (no l) = rw (le-ltb x most_reasons (omega arith)) (omega arith)

-- one reason for a name
pub name-counted : (w : List ℕ) (n : ℕ) {x y : ℕ} {u : List ℕ} → x ≡ entry_at w required_trivial_set n → y ≡ one_more x
    → u ≡ entered w required_trivial_set true n y
    → Tallied w (n ∷ []) u
name-counted w n had more is = record { is = is ∙ ap (entered w reasons true n) (more ∙ ap one_more had) }

module _ (s w : List ℕ) (r : ℕ) where
  -- a return row, or none, by its number
  return-is : of_return s w (some_unless no_row r) ≡ (if' not (eqb r no_row) then of_plain s w r else [])
  unfolding some_unless if'◌then◌else◌
  return-is = go (eqb r no_row)
    where
      go : (b : Bool) → of_return s w (if' b then None else Some r) ≡ if' not b then of_plain s w r else []
      go true = refl
      go false = refl

module _ (t : Reasons) (r : ℕ) where
  -- a collected row
  module _ {k : ℕ} {b : Bool} (is_kind : k ≡ kind t.s.now r) (test : b ≡ (eqb k RustBox || eqb k RustVec || eqb k SliceRef)) where
    holder-is : b ≡ (is t.s.now RustBox r || is t.s.now RustVec r || is t.s.now SliceRef r)
    unfolding is
    holder-is = rw is_kind at test

    pub row-none : b ≡ false → Counted t (of_row t.s.now t.names.now r) t
    unfolding reasons_of_row if'◌then◌else◌
    row-none h = rw (sym holder-is ∙ h) counted_none

    pub row-some : b ≡ true → {x : ℕ} {u : Reasons} → x ≡ inner t.s.now r → Counted t (of_plain t.s.now t.names.now x) u
        → Counted t (of_row t.s.now t.names.now r) u
    unfolding reasons_of_row if'◌then◌else◌
    row-some h e p = rw (sym holder-is ∙ h, ← e) p

-- ## An item

module _ (t : Reasons) (i : ℕ) {k : ℕ} (is_kind : k ≡ item_kind t.s.now i) where
  pub item-fields : k ≡ Struct → {at : ℕ} {u : Reasons} → at ≡ rest t.s.now i → Counted t (of_list t.s.now t.names.now at) u
      → Counted t (of_item t.s.now t.names.now i) u
  unfolding reasons_of_item item_is field_count field if'◌then◌else◌
  item-fields h e p = rw (eq-eqb (item_kind t.s.now i) Struct (sym is_kind ∙ h), ← e) p

  module _ (other : k ≡ Struct → ⊥) {function : Bool} (test : function ≡ function_kind k) where
    no_struct : eqb (item_kind t.s.now i) Struct ≡ false
    no_struct = ne_eqb (item_kind t.s.now i) Struct (λ q. other (is_kind ∙ q))

    is_function_lem : function ≡ is_function t.s.now i
    unfolding is_function
    is_function_lem = rw is_kind at test

    pub item-none : function ≡ false → Counted t (of_item t.s.now t.names.now i) t
    unfolding reasons_of_item item_is if'◌then◌else◌
    item-none h = rw (no_struct, sym is_function_lem ∙ h) counted_none

    pub item-function : function ≡ true → {at : ℕ} {row : Option ℕ} {u v : Reasons} → at ≡ return_place t.s.now i + 2
        → row ≡ some_unless no_row (return t.s.now i)
        → Counted t (of_list t.s.now t.names.now at) u
        → Counted u (of_return u.s.now u.names.now row) v
        → Counted t (of_item t.s.now t.names.now i) v
    unfolding reasons_of_item item_is arg_count arg has_return return if'◌then◌else◌
    item-function h {at = at} {u = u} e q p o =
        let x = return t.s.now i in
        let both = counted-then (λ s f. if' not (eqb x no_row) then insist s f x else []) p (rw (q, return-is u.s.now u.names.now x) at o) in
        rw (no_struct, sym is_function_lem ∙ h, ← e) both

-- ## No reasons at all

either-nothing : (b : Bool) (x y : List ℕ) → x ≡ [] → y ≡ [] → (if' b then x else y) ≡ []
unfolding if'◌then◌else◌
either-nothing true x y p q = p
either-nothing false x y p q = q

module _ (s w : List ℕ) (none : (r : ℕ) → of_plain s w r ≡ []) where
  item-nothing : (i : ℕ) → of_item s w i ≡ []
  unfolding reasons_of_item
  item-nothing i =
      either-nothing (item_is s Struct i) _ _ (over_nothing (field_count s i) _ (λ j. none (field s i j)))
      (either-nothing (is_function s i) _ _
      (ap₂ (λ (x y : List ℕ). x ++ y) (over_nothing (arg_count s i) _ (λ j. none (arg s i j))) (either-nothing (has_return s i) _ _ (none (return s i)) refl))
      refl)

  row-nothing : (r : ℕ) → of_row s w r ≡ []
  unfolding reasons_of_row
  row-nothing r = either-nothing (is s RustBox r || is s RustVec r || is s SliceRef r) _ _ (none (inner s r)) refl

  pub all_nothing : (scratch : List ℕ) (n : ℕ) → Tallied w (of_all s w scratch n) w
  all_nothing scratch n =
      let rows = over_nothing n (λ k. of_row s w (pair_at scratch (2 * k))) (λ k. row-nothing (pair_at scratch (2 * k))) in
      rw (over_nothing (items s) (of_item s w) item-nothing, rows) fold-none

-- ## The counts are the rules'

pub tally-long : (ns w : List ℕ) → length (tally w ns) ≡ length w
tally-long [] w = refl
tally-long (n ∷ ns) w = tally-long ns (counted w n) ∙ entered-long w reasons n (one_more (entry_at w reasons n)) true

one_more_lem : (x : ℕ) → x < most_reasons → one_more x ≡ x + 1
unfolding one_more if'◌then◌else◌
one_more_lem x l = rw (lt-ltb x most_reasons l) refl

-- a count grows by as often as its name stands in the list, where the reasons are few enough
tally-is : (ns w : List ℕ) → length w ≡ table_size → ((n : ℕ) → entry_at w reasons n + length ns ≤ most_reasons) → (n : ℕ) → n < name_count
    → entry_at (tally w ns) reasons n ≡ entry_at w reasons n + count n ns
tally-is [] w long h n l = omega arith
tally-is (m ∷ ns) w long h n l = tally-is ns (counted w m) (entered-long w reasons m (one_more (entry_at w reasons m)) true ∙ long) fewer n l ∙ here (eq? n m)
  where
    more : one_more (entry_at w reasons m) ≡ entry_at w reasons m + 1
    more = one_more_lem (entry_at w reasons m) (omega (arith, h m))

    at_name : m < name_count → entry_at (counted w m) reasons m ≡ entry_at w reasons m + 1
    at_name k = entered_here w reasons m (one_more (entry_at w reasons m)) (omega arith) k (omega arith) ∙ more

    off-name : (x : ℕ) → x ≢ m → entry_at (counted w m) reasons x ≡ entry_at w reasons x
    off-name x ne = go (dec_lt m name_count) (dec_lt x name_count)
      where
        go : Dec (m < name_count) → Dec (x < name_count) → entry_at (counted w m) reasons x ≡ entry_at w reasons x
        go (yes k) (yes g) = entered-there w reasons m (one_more (entry_at w reasons m)) (omega arith) k true reasons x (omega arith) g (λ _. ne)
        go (no k) g = ap (λ (v : List ℕ). entry_at v reasons x) (sym (entered-out w reasons m (one_more (entry_at w reasons m)) refl (omega arith)))
        go (yes k) (no g) = entry-out (counted w m) reasons x (omega arith) ∙ sym (entry-out w reasons x (omega arith))

    fewer : (x : ℕ) → entry_at (counted w m) reasons x + length ns ≤ most_reasons
    fewer x = go (eq? x m) (dec_lt m name_count)
      where
        go : Eq? x m → Dec (m < name_count) → entry_at (counted w m) reasons x + length ns ≤ most_reasons
        go (same _ e) (yes k) = rw (e, at_name k) (omega (arith, h m))
        go (same _ e) (no k) = rw (e, entry-out (counted w m) reasons m (omega arith)) (omega (arith, h m))
        go (other _ e) k = rw (off-name x e) (omega (arith, h x))

    here : Eq? n m → entry_at (counted w m) reasons n + count n ns ≡ entry_at w reasons n + count n (m ∷ ns)
    here (same e q) =
        let k : m < name_count = rw (← q) l in
        let z : entry_at (counted w m) reasons n ≡ entry_at w reasons n + 1 = rw q (at_name k) in
        rw e (omega arith)
    here (other e q) = let z = off-name n q in rw e (omega arith)

-- from a column of zeros on
pub tally-counts : (ns w : List ℕ) → length w ≡ table_size → ((n : ℕ) → entry_at w required_trivial_set n ≡ 0) → length ns ≤ most_reasons
    → (n : ℕ) → n < name_count → entry_at (tally w ns) required_trivial_set n ≡ count n ns
tally-counts ns w long none few n l = tally-is ns w long (λ m. omega (arith, none m)) n l ∙ omega (arith, none n)
