-- The whole of `collect`: the cleared scratch and the table of zeros to begin with, and that what the parts leave is what the rules say of the sheet.
-- Assumes nothing.
use Prim.Native.Nat.{ℕ, ◌*◌, ◌<◌}
use mathlib.Core.Path.{◌≡◌, refl, sym, ap, ◌∙◌}
use mathlib.Core.Bool.{Bool, false, ◌&&◌}
use mathlib.Core.List.{List, ◌++◌}
use native.Mathlib.Omega.{arith}
use native.Mathlib.Decide.{dec_lt}
use native.Mathlib.Nat.{le_refl}
use lib.ListN.{length, get_or, drop}
use lib.Seq.{ext_get_or}
use lib.Dec.{ltb}
use borrow.Author.Tests.{lt-ltb}
use Rattle.rules.specs.Numbers.{name_count, struct_set, enum_set, cxx_set, rust_set, alias_set, untrusted_set, required_trivial_set}
use Rattle.rules.specs.Base.{if'◌then◌else◌, over}
use Rattle.rules.specs.Format.{pair_at, Accepted}
use Rattle.rules.specs.View.{items}
use Rattle.rules.specs.Collect.{names_to, last_to}
use Rattle.rules.specs.Trivial.{extern_in, reasons_of_item, reasons_of_row, reason_names, required_of}
use Rattle.rules.specs.Types.{Types, types_of, is_extern}
use Rattle.rules.specs.Unpin.{is_mut_slice, is_mut_ref, find_row, find_rows, finds, last_of_all, unpin_of}
use Rattle.rules.specs.Answer.{cleared}
use Rattle.laws.proofs.Sheet.Collect.{all-few}
use Rattle.laws.proofs.Report.Bounds.Reasons.{names-few, reasons-length, reasons-are}
use Rattle.laws.proofs.Names.LastItems.{Last, no_one, last, last-is}
use Rattle.laws.proofs.Base.Lists.{over-length, over-same}
use Rattle.laws.proofs.Names.Sets.{set_same, below_set, below-is}
use Rattle.names.specs.Known.{type_column, column_count, table_size, entry_at, entry_of, LastColumn, names_in, last_in, counts_in, tabled}
use Rattle.names.proofs.Columns.{entry-out, has-is, count-is, column-same}
use Rattle.names.proofs.LastColumns.{lasts_are}
use Rattle.scratch.specs.Bytes.{marks_end, rows_of, Grown}
use Rattle.scratch.proofs.Zeroed.{cleared-length}
use Rattle.scratch.proofs.Stored.{holds-none, holds-length, holds_row, rest-kept}
use Rattle.errors.specs.declared.Errors.{Errors}
use Rattle.types.specs.Walk.{Held}
use Rattle.types.specs.Named.{enters_column, Named, Nameable, Declared}
use Rattle.types.specs.Reasons.{tally, Tallied, of_all}
use Rattle.types.specs.Found.{all_found}
use Rattle.types.specs.declared.Gathered.{Gathered}
use Rattle.types.specs.Post.{Collectable, Collects}
use Rattle.types.proofs.Naming.{named_none, set_is}
use Rattle.types.proofs.Counting.{tally-other, tally-counts}

-- ## The start

pub held_none : {s b w d : List ℕ} → Collectable s b w → d ≡ cleared b → Held s d 0
unfolding rows_of over
held_none {s} {b} h e = rw e (record { accepted = h.accepted; long = (let l = h.long in omega (arith, cleared-length b l)); held = holds-none b })

pub named_start : {s b w : List ℕ} → Collectable s b w → Nameable s w
named_start {s} h = record { accepted = h.accepted; names = rw h.zeros (named_none s table_size refl) }

-- ## The reasons

-- a column with the counts of a table has the names with a count
required-is : (w t : List ℕ) (k : ℕ) → ((n : ℕ) → n < name_count → entry_at w k n ≡ get_or t n 0) → names_in w k ≡ required_of t
unfolding names_in required_of
required-is w t k h =
    set_same (names_in w k) (required_of t) (below_set (λ n. ltb 0 (entry_at w k n)) name_count) (below_set test name_count)
    (λ n l. has-is w k n ∙ ap (ltb 0) (h n l) ∙ sym (below-is test name_count n (le_refl name_count) ∙ ap (λ b. b && test n) (lt-ltb n name_count l)))
  where
    test : ℕ → Bool
    test n = ltb 0 (get_or t n 0)

-- and its counts are the table
counts-are : (w t : List ℕ) (k : ℕ) → length t ≡ name_count → ((n : ℕ) → n < name_count → entry_at w k n ≡ get_or t n 0) → counts_in w k ≡ t
unfolding counts_in
counts-are w t k e h = ext_get_or 0 (counts_in w k) t (size ∙ sym e) (λ n l. count-is w k n ∙ h n (omega (arith, size)))
  where
    size : length (counts_in w k) ≡ name_count
    size = over-length (λ n. entry_at w k n) name_count

-- no item enters the column of the reasons
none_yet : {s : List ℕ} {i : ℕ} {w : List ℕ} → Named s i w → (n : ℕ) → entry_at w required_trivial_set n ≡ 0
unfolding if'◌then◌else◌
none_yet {s} {i} {w} h n = go (dec_lt n name_count)
  where
    none : {r : ℕ} → Last s (λ _. false) i n r → entry_of r ≡ 0
    none (no_one f) = refl
    none (last l t e f) = absurd t

    go : Dec (n < name_count) → entry_at w required_trivial_set n ≡ 0
    go (yes l) = (h.column required_trivial_set (omega arith)).at n l ∙ none (last-is s (λ _. false) i n l)
    go (no l) = entry-out w required_trivial_set n (omega arith)

module _ {s b d : List ℕ} {m : ℕ} (acc : Accepted s) (grown : Grown b d m (types_of s).all) {w : List ℕ} (named : Named s (items s) w) where
  names-by : (f : ℕ → Bool) → over (items s) (reasons_of_item s f) ++ over m (λ k. reasons_of_row s f (pair_at d (2 * k))) ≡ reason_names s f (types_of s).all
  unfolding reason_names
  names-by f =
      let e : m ≡ length (types_of s).all = holds-length grown.held in
      rw (← e)
      (ap (λ (l : List ℕ). over (items s) (reasons_of_item s f) ++ l)
      (over-same m (λ k. reasons_of_row s f (pair_at d (2 * k))) (λ k. reasons_of_row s f (get_or (types_of s).all k 0))
      (λ k l. ap (reasons_of_row s f) (holds_row grown.held k l))))

  set-of : (k : ℕ) → k < column_count → names_in w k ≡ names_to s (enters_column s k) (items s)
  set-of k c = set_is acc (le_refl (items s)) named k c

  extern-is : is_extern (tabled s w) ≡ extern_in (types_of s).structs (types_of s).enums (types_of s).cxx
  unfolding is_extern tabled types_of
  extern-is = rw (set-of struct_set (omega arith), set-of enum_set (omega arith), set-of cxx_set (omega arith)) refl

  -- after the tally each name has its count
  counted : {u : List ℕ} → Tallied w (of_all s w d m) u → (n : ℕ) → n < name_count → entry_at u required_trivial_set n ≡ get_or (types_of s).reasons n 0
  unfolding types_of
  counted {u} h n l =
      let f = extern_in (types_of s).structs (types_of s).enums (types_of s).cxx in
      let ns = reason_names s f (types_of s).all in
      let few = names-few s f acc (types_of s).all (all-few s acc) in
      let is : u ≡ tally w ns = h.is ∙ ap (tally w) (names-by (is_extern (tabled s w)) ∙ ap (λ (g : ℕ → Bool). reason_names s g (types_of s).all) extern-is) in
      rw is (tally-counts ns w named.long (none_yet named) (omega arith) n l ∙ sym (reasons-are ns n l))

  -- and the other columns are as they were
  module _ {u : List ℕ} (h : Tallied w (of_all s w d m) u) (k : ℕ) (ne : k ≡ required_trivial_set → ⊥) (c : k < column_count) where
    entries : (n : ℕ) → n < name_count → entry_at u k n ≡ entry_at w k n
    entries n l = ap (λ (v : List ℕ). entry_at v k n) h.is ∙ tally-other (of_all s w d m) w k n ne c l

    pub column-of : LastColumn s (enters_column s k) (items s) u k
    column-of = record { at = λ n l. entries n l ∙ (named.column k c).at n l }

  -- and all is known
  pub known : {u : List ℕ} → Tallied w (of_all s w d m) u → tabled s u ≡ types_of s
  unfolding tabled types_of
  known {u} h =
      rw (
        kept struct_set (λ e. omega arith) (omega arith) ∙ set-of struct_set (omega arith),
        kept enum_set (λ e. omega arith) (omega arith) ∙ set-of enum_set (omega arith),
        kept cxx_set (λ e. omega arith) (omega arith) ∙ set-of cxx_set (omega arith),
        kept rust_set (λ e. omega arith) (omega arith) ∙ set-of rust_set (omega arith),
        kept alias_set (λ e. omega arith) (omega arith) ∙ set-of alias_set (omega arith),
        kept untrusted_set (λ e. omega arith) (omega arith) ∙ set-of untrusted_set (omega arith),
        counts-are u (types_of s).reasons required_trivial_set (reasons-length _) (counted h),
        required-is u (types_of s).reasons required_trivial_set (counted h),
        last_of struct_set (λ e. omega arith) (omega arith),
        last_of untrusted_set (λ e. omega arith) (omega arith),
        last_of type_column (λ e. omega arith) (omega arith),
      ) refl
    where
      kept : (k : ℕ) → (k ≡ required_trivial_set → ⊥) → k < column_count → names_in u k ≡ names_in w k
      kept k ne c = column-same u w k (entries h k ne c)

      last_of : (k : ℕ) → (k ≡ required_trivial_set → ⊥) → k < column_count → last_in u k ≡ last_to s (enters_column s k) (items s)
      last_of k ne c = lasts_are (column-of h k ne c)

-- ## The reasons to be Unpin

module _ (s : List ℕ) {b d : List ℕ} {m : ℕ} (grown : Grown b d m (types_of s).all) where
  -- the rows that the scratch holds are the collected ones
  rows-by : (p : ℕ → Bool) → over m (λ k. find_row s p (pair_at d (2 * k))) ≡ find_rows s (types_of s) p
  unfolding find_rows
  rows-by p =
      let e : m ≡ length (types_of s).all = holds-length grown.held in
      rw (← e)
      (over-same m (λ k. find_row s p (pair_at d (2 * k))) (λ k. find_row s p (get_or (types_of s).all k 0))
      (λ k l. ap (find_row s p) (holds_row grown.held k l)))

  unpin-is : {t : Types} → t ≡ types_of s → last_of_all (all_found s t d m) ≡ unpin_of s (types_of s)
  unfolding unpin_of finds if'◌then◌else◌
  unpin-is own =
      ap (λ (t : Types). last_of_all (all_found s t d m)) own
      ∙ ap last_of_all (rw (rows-by (is_mut_slice s (types_of s)), rows-by (is_mut_ref s (types_of s))))

-- ## All together

pub whole : {s b w e d : List ℕ} {cx cx' : Errors} {v u : List ℕ} {r : Gathered} → Collectable s b w → e ≡ cleared b → Grown e d r.count (types_of s).all
    → length d ≡ length e
    → Declared s v cx cx'
    → Tallied v (of_all s v d r.count) u
    → r.unpin ≡ last_of_all (all_found s (tabled s u) d r.count)
    → Collects s b d u cx cx' r
whole {s} {b} {r = r} h c g l n t o =
    let few : r.count ≡ length (types_of s).all = holds-length g.held in
    record {
      known = known h.accepted g n.names t;
      columns = column-of h.accepted g n.names t;
      unpin = o ∙ unpin-is s g (known h.accepted g n.names t);
      count = few;
      pairs = λ k p. holds_row g.held k (omega arith);
      marks = g.held.marks;
      same = l ∙ ap length c ∙ cleared-length b h.long;
      rest = rest-kept g l ∙ ap (drop marks_end) c;
      errors = n.reported;
    }
