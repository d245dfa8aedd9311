-- The fields of a struct that have a fault, one after the other. A field without one has no message: so the messages of the fields before the next one with a
-- fault are those that there were, and behind the last one no message follows.
-- Assumes nothing.
use Prim.Native.Nat.{ℕ, ◌+◌, ◌-◌, ◌*◌, ◌^◌, ◌≤◌, ◌<◌}
use mathlib.Core.Path.{◌≡◌, refl, sym, ap, ◌∙◌}
use mathlib.Core.List.{List, []}
use mathlib.Core.Bool.{false}
use native.Mathlib.Omega.{arith}
use lib.ListN.{get_or}
use Rattle.std.specs.Prelude.{Option, Some, None, is_some}
use Rattle.rules.specs.declared.Diagnostic.{Diagnostic}
use Rattle.rules.specs.Base.{over}
use Rattle.rules.specs.Format.{pair_at}
use Rattle.rules.specs.View.{rest, field_count, field, entry}
use Rattle.laws.specs.RowTable.{entry_or}
use Rattle.laws.specs.Word.{word_of}
use Rattle.laws.proofs.Base.Lists.{over_skip}
use Rattle.laws.proofs.Base.Tests.{never}
use Rattle.laws.proofs.Base.Words.{NextOf, next_of, none_left}
use Rattle.laws.proofs.Rows.RowTable.{read-in}
use Rattle.row_tables.specs.Listed.{ListIn, LowestOut, told_at}
use Rattle.row_tables.specs.declared.faults.Misfit.{Misfit}
use Rattle.errors.specs.declared.Errors.{Errors}
use Rattle.errors.specs.Sink.{Reported, meant}
use Rattle.typecheck.specs.Tests.{by_fault, struct_field, struct_fields}

-- what has no bit is none
untold : (x : Option Misfit) → is_some x ≡ false → x ≡ None
untold None e = refl
untold (Some x) e = never (sym e)

-- the messages of field j of struct i
abbrev pub field_says : (s : List ℕ) (faults : List (Option Misfit)) (i j : ℕ) → List Diagnostic
field_says s u i j = struct_field i j (entry_or None u (field s i j))

-- the n fields of struct i stand at a place of the sheet, and `left` has the bits of the faults from field k on
pub record FaultsLeft (s : List ℕ) (u : List (Option Misfit)) (i at n k left : ℕ) : Type 0 where
  pub place : at ≡ rest s i
  pub count : n ≡ field_count s i
  pub list : ListIn s at n
  pub within : k ≤ n
  pub word : left ≡ 2 ^ k * word_of (told_at s u at) k (n - k)

-- field j is the next that has a fault
abbrev pub Next : (s : List ℕ) (u : List (Option Misfit)) (at n k rest j : ℕ) → Type 0
Next s u at n k rest j = NextOf (told_at s u at) k n rest j

module _ (s : List ℕ) (i : ℕ) {at n : ℕ} (h : ListIn s (rest s i) (field_count s i)) (a : at ≡ rest s i) (q : n ≡ pair_at s at) where
  pub fields_in : ListIn s at n
  unfolding field_count
  fields_in = rw (q, a) h

  pub all_left : (u : List (Option Misfit)) {left : ℕ} → left ≡ word_of (told_at s u at) 0 n → FaultsLeft s u i at n 0 left
  unfolding field_count
  all_left u e =
      let all : n - 0 ≡ n = omega arith in
      record { place = a; count = rw a at q; list = fields_in; within = omega arith; word = rw all (omega (arith, e)) }

module _ {s : List ℕ} {u : List (Option Misfit)} {i at n k left : ℕ} (f : FaultsLeft s u i at n k left) where
  pub fault-is : (j : ℕ) → j < n → get_or u (entry s at j) None ≡ entry_or None u (field s i j)
  unfolding field
  fault-is j l = rw (← f.place) (sym (read-in None u (entry s at j) (f.list.entries j l).row))

  no-fault : (j : ℕ) → j < n → told_at s u at j ≡ false → field_says s u i j ≡ []
  unfolding by_fault
  no-fault j l h = rw (sym (fault-is j l) ∙ untold _ h)

  pub next-fault : {rest j : ℕ} → LowestOut left rest j → Next s u at n k rest j
  next-fault o = next_of (told_at s u at) k n left _ _ f.list.few f.within f.word o.some o.lowest o.others

  -- its row has a fault
  pub not_untold : {rest j : ℕ} → Next s u at n k rest j → get_or u (entry s at j) None ≡ None → ⊥
  not_untold next none = never (sym (ap is_some none) ∙ next.passes)

  pub less-left : {rest j : ℕ} → Next s u at n k rest j → FaultsLeft s u i at n (j + 1) rest
  less-left next = record { place = f.place; count = f.count; list = f.list; within = omega (arith, next.within); word = next.behind }

  module _ {cx cx' : Errors} (so_far : Reported cx (over k (field_says s u i)) cx') where
    pub to-next : {rest j : ℕ} → Next s u at n k rest j → Reported cx (over j (field_says s u i)) cx'
    to-next {j = j} next =
        let l = next.within in
        let here : k + (j - k) ≡ j = omega (arith, next.from) in
        let before =
        over_skip (field_says s u i) k (j - k) (λ d m. no-fault (k + d) (omega arith) (next.before (k + d) (omega arith) (omega arith))) in
        meant so_far (rw here at before)

    pub to_end : left ≡ 0 → Reported cx (struct_fields s u i) cx'
    unfolding struct_fields
    to_end e =
        let none = none_left (told_at s u at) k (n - k) (sym f.word ∙ e) in
        let all : k + (n - k) ≡ field_count s i = omega (arith, f.within, f.count) in
        let skip = over_skip (field_says s u i) k (n - k) (λ j l. no-fault (k + j) (omega arith) (none j l)) in
        meant so_far (rw all at skip)
