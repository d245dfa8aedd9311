-- The walk over rows: it stands still at none, goes on with one list after another, and at one row does nothing, or adds it and goes on with what it shows.
-- Assumes nothing.
use Prim.Native.Nat.{ℕ, zero, suc, ◌+◌, ◌<◌, ◌≤◌}
use mathlib.Core.Path.{◌≡◌, refl, sym, ◌∙◌}
use mathlib.Core.Bool.{true, false}
use mathlib.Core.List.{List, [], ◌∷◌, ◌++◌, foldl, foldl-append}
use native.Mathlib.Omega.{arith}
use native.Mathlib.Nat.{le_refl}
use native.Mathlib.Numerals.{add-one}
use lib.Dec.{eqb}
use borrow.Author.Tests.{ne_eqb, eqb-false}
use mathlib.Core.Logic.{inl, inr}
use Rattle.rules.specs.Numbers.{Fn, most_rows, no_row}
use Rattle.rules.specs.Base.{over}
use Rattle.rules.specs.Kinds.{some_unless}
use Rattle.rules.proofs.KindLaws.{of_some}
use Rattle.rules.specs.Format.{pair_at, offset, Accepted}
use Rattle.rules.specs.View.{rows, kind, inner, fn_args, fn_arg_count, fn_arg, shown, entry, entries, or_nothing}
use Rattle.std.specs.Prelude.{Option, Some}
use Rattle.row_tables.specs.Tables.{one_of}
use Rattle.row_tables.proofs.AnyOf.{one_or_nothing}
use Rattle.laws.specs.Skip.{skip_visit}
use Rattle.laws.proofs.Sheet.Accepted.Sheet.{sheet-of}
use Rattle.laws.specs.Kinds.{leaf, RowOrNone}
use Rattle.laws.proofs.Sheet.Accepted.Rows.{row_of}
use Rattle.laws.proofs.Base.Members.{in_head}
use Rattle.laws.proofs.Sheet.Collect.Shown.{shown-inner, shown-falls}
use Rattle.scratch.specs.declared.Rows.{Rows}
use Rattle.scratch.specs.Bytes.{marked, HoldsRows}
use Rattle.scratch.specs.Collecting.{collected, Grows}
use Rattle.types.specs.Walk.{Held, Walkable, WalkableFn, Walks}
use Rattle.scratch.proofs.Stored.{holds-self}

-- ## Steps

pub few : {s : List ℕ} {b : Rows} {row : ℕ} → Walkable s b row → row < most_rows
few {s} h = let a = (sheet-of s h.walk.accepted).few-rows in let l = h.below in omega arith

module _ {b d : Rows} {all : List ℕ} (g : Grows b all d) where
  also : {e : Rows} {more : List ℕ} → Grows d more e → Grows b more e
  also h =
      record {
        grown = record { held = h.grown.held; kept = λ i p. h.grown.kept i p ∙ g.grown.kept i p };
        long = h.long ∙ g.long;
        same = h.same ∙ g.same;
      }

  pub held_next : {s : List ℕ} → Held s b.scratch.now b.count → Held s d.scratch.now d.count
  held_next h = record { accepted = h.accepted; long = (let k = h.long in let e = g.long in omega arith); held = holds-self g.grown.held }

standing : {b : Rows} {all : List ℕ} → HoldsRows b.scratch.now b.count all → Grows b (collected b) b
standing h = record { grown = record { held = holds-self h; kept = λ i _. refl }; long = refl; same = refl }

module _ {s : List ℕ} {b : Rows} where
  pub still : {bound : ℕ} → Held s b.scratch.now b.count → Walks s b bound [] b
  still h = record { grown = λ f l. standing h.held }

  pub wider : {d : Rows} {l : List ℕ} {k bound : ℕ} → Walks s b k l d → k ≤ bound → Walks s b bound l d
  wider w h = record { grown = λ f l. w.grown f (omega arith) }

  pub further : {d e : Rows} {l l' : List ℕ} {bound : ℕ} → Walks s b bound l d → Walks s d bound l' e → Walks s b bound (l ++ l') e
  further {d} {e} {l} {l'} w v = record { grown = λ f h. by f (w.grown f h) (v.grown f h) }
    where
      by : (f : ℕ) → Grows b (foldl (skip_visit s f) (collected b) l) d → Grows d (foldl (skip_visit s f) (collected d) l') e
          → Grows b (foldl (skip_visit s f) (collected b) (l ++ l')) e
      by f g h =
          let k : Grows d (foldl (skip_visit s f) (foldl (skip_visit s f) (collected b) l) l') e = rw g.grown.held.are at h in
          rw (foldl-append (skip_visit s f) (collected b) l l') (also g k)

  -- what the walk leaves can be walked from
  pub held_after : {d : Rows} {l : List ℕ} {bound : ℕ} → Held s b.scratch.now b.count → Walks s b bound l d → Held s d.scratch.now d.count
  held_after {bound = bound} h w = held_next (w.grown bound (le_refl bound)) h

  -- ## One row

  pub old : {row : ℕ} → Walkable s b row → marked b.scratch.now row ≡ true → Walks s b (suc row) (row ∷ []) b
  unfolding skip_visit
  old {row} h e = record { grown = by }
    where
      by : (f : ℕ) → suc row ≤ f → Grows b (skip_visit s f (collected b) row) b
      by zero l = absurd (omega arith)
      by (suc f) l = rw (sym (h.walk.held.marks row (few h)) ∙ e, skip_visit) (standing h.walk.held)

  pub new : {d e : Rows} {l : List ℕ} {row : ℕ} → Walkable s b row → marked b.scratch.now row ≡ false → Grows b (collected b ++ row ∷ []) d
      → shown s row ≡ l
      → Walks s d row l e
      → Walks s b (suc row) (row ∷ []) e
  unfolding skip_visit
  new {d} {e} {l} {row} h o g q w = record { grown = by }
    where
      by : (f : ℕ) → suc row ≤ f → Grows b (skip_visit s f (collected b) row) e
      by zero p = absurd (omega arith)
      by (suc f) p =
          let k = w.grown f (omega arith) in
          rw (sym (h.walk.held.marks row (few h)) ∙ o, skip_visit, q, ← g.grown.held.are) (also g k)

-- ## A row or none, and a list of rows

-- a return row that was read, by its number: what it shows, and that it is a row
pub read_shown : (r : ℕ) {o : Option ℕ} → o ≡ some_unless no_row r → one_of o ≡ or_nothing r
read_shown r e = rw e (one_or_nothing r)

pub read-below : {limit r : ℕ} {o : Option ℕ} → o ≡ some_unless no_row r → RowOrNone limit r → (x : ℕ) → o ≡ Some x → x < limit
read-below {limit} {r} e below x q = by below (of_some no_row r (sym q ∙ e))
  where
    by : RowOrNone limit r → (r ≡ x) × (eqb r no_row ≡ false) → x < limit
    by (inl none) h = absurd (eqb-false r no_row h.1 none)
    by (inr l) h = rw h.0 at l

-- the first j rows of a list
abbrev pub first_rows : (s : List ℕ) (at j : ℕ) → List ℕ
first_rows s at j = over j (λ k. entry s at k ∷ [])

module _ {s : List ℕ} {b : Rows} (at : ℕ) where
  pub to_none : {bound : ℕ} → Held s b.scratch.now b.count → Walks s b bound (first_rows s at 0) b
  unfolding over
  to_none h = still h

  pub to-more : {d e : Rows} {bound x : ℕ} (j : ℕ) → Walks s b bound (first_rows s at j) d → x ≡ entry s at j → x < bound → Walks s d (suc x) (x ∷ []) e
      → Walks s b bound (first_rows s at (j + 1)) e
  unfolding over
  to-more j w q l v = rw (add-one j, ← q) (further w (wider v (omega arith)))

  pub to_end : {d : Rows} {bound : ℕ} (j : ℕ) → Walks s b bound (first_rows s at j) d → j ≡ pair_at s at → Walks s b bound (entries s at) d
  unfolding entries
  to_end j w q = rw (← q) w

-- ## A row that is no leaf and no Fn shows the row inside

module _ (s : List ℕ) where
  pub shown-one : (row : ℕ) {k : ℕ} → k ≡ kind s row → leaf k ≡ false → (k ≡ Fn → ⊥) → shown s row ≡ inner s row ∷ []
  shown-one row {k} e h g = shown-inner s row k h (ne_eqb k Fn g) (sym e)

  pub inner-less : Accepted s → (row : ℕ) → row < rows s → {k : ℕ} → k ≡ kind s row → leaf k ≡ false → (k ≡ Fn → ⊥) → inner s row < row
  inner-less acc row l e h g = shown-falls s acc row l (inner s row) (rw (shown-one row e h g) (in_head (inner s row) []))

  -- ## The arguments of an Fn stand in a list behind its return

  -- each is less than the row, and can be walked from what was collected before it
  module _ {b : Rows} {row at n : ℕ} (h : WalkableFn s b row) (e : at ≡ offset s row + 6) (q : n ≡ pair_at s at) where
    pub arg-less : {j x : ℕ} → j < n → x ≡ entry s at j → x < row
    unfolding fn_arg_count fn_arg
    arg-less {j} l p =
        let r = row_of s h.ready.walk.accepted row h.ready.below in
        let a : (i : ℕ) → i < pair_at s at → entry s at i < row = rw e (r.arg-falls h.is_fn) in
        rw p (a j (omega arith))

    pub arg-next : {c d : Rows} {before : List ℕ} {j x : ℕ} → Walks s b row before c → Walks s c row (first_rows s at j) d → j < n → x ≡ entry s at j
        → Walkable s d x
    arg-next w v l p =
        let x< = arg-less l p in
        let row< = h.ready.below in
        record { walk = held_after (held_after h.ready.walk w) v; below = omega arith }

  pub args_are : (row : ℕ) {at : ℕ} → at ≡ offset s row + 6 → entries s at ≡ fn_args s row
  unfolding fn_args
  args_are row e = rw e
