-- What is promised of the reasons to be Unpin, in the words of the sheet: a reason shown exists in it, and a name that is asked for and has none has no such
-- slice, receiver or reference. Nothing here is computed by a pass or a table, but for the order in which rows are collected.
-- Assumes nothing: these are definitions.
use Rattle.std.specs.Prelude.{ℕ, ◌≤◌, ◌<◌, ◌≡◌, ◌⊎◌, true, false, List, Option, Some, None, Ok}
use Rattle.rules.specs.Numbers.{Ident, Ref, SliceRef, Struct, Enum, CxxType, TypeAlias, name_count}
use Rattle.rules.specs.declared.UnpinReason.{UnpinReason}
use Rattle.rules.specs.declared.UnpinReason.TheVariants.{Row, Item}
use Rattle.rules.specs.declared.Diagnostic.{Diagnostic}
use Rattle.rules.specs.Count.{place}
use Rattle.rules.specs.View.{flag1, flag2, kind, row_name, row_flags, inner, items, is_function, form, self_type, receiver_mutable, receiver_pinned}
use Rattle.rules.specs.Collect.{collected_to}
use Rattle.rules.specs.Unpin.{reason_for, NumbersBack}
use Rattle.rules.specs.Answer.{call}
use Rattle.rules.specs.Rule3.{Borne}
use Rattle.rules.specs.Reach.{Reached}

-- no row, or no item, is such a one
abbrev pub No : (ℕ → Type 0) → Type 0
No P = (x : ℕ) → P x → ⊥

-- where a row stands among the collected ones
abbrev pub standing : (s : List ℕ) (r : ℕ) → ℕ
standing s r = place (collected_to s (items s)) r

module _ (s : List ℕ) (n : ℕ) where
  -- ## Words

  -- the name is in cxx, by CxxType or alias, and neither struct nor enum
  pub record Asked : Type 0 where
    pub cxx : Borne s CxxType n ⊎ Borne s TypeAlias n
    pub no_struct : Borne s Struct n → ⊥
    pub no_enum : Borne s Enum n → ⊥

  -- a collected row of that kind over the plain name: an item reaches it
  pub record Over (k r : ℕ) : Type 0 where
    pub collected : Reached s (items s) r
    pub is_kind : kind s r ≡ k
    pub plain : kind s (inner s r) ≡ Ident
    pub bears : row_name s (inner s r) ≡ n

  -- a mutable slice of it
  pub record MutSlice (r : ℕ) : Type 0 where
    pub slice : Over SliceRef r
    pub mutable : flag1 (row_flags s r) ≡ true

  -- a mutable, unpinned reference to it
  pub record MutRef (r : ℕ) : Type 0 where
    pub reference : Over Ref r
    pub mutable : flag1 (row_flags s r) ≡ true
    pub unpinned : flag2 (row_flags s r) ≡ false

  -- a method of either language, its receiver of that name, mutable and not pinned
  pub record MutMethod (i : ℕ) : Type 0 where
    pub below : i < items s
    pub is_function : is_function s i ≡ true
    pub method : form s i ≡ 2
    pub mutable : receiver_mutable s i ≡ true
    pub unpinned : receiver_pinned s i ≡ false
    pub bears : self_type s i ≡ n

  -- ## The reason that stood last, or none

  pub data Stands : Option UnpinReason → Type 0 where
    by_ref : {r : ℕ} → Asked → MutRef r → ((q : ℕ) → MutRef q → standing s q ≤ standing s r) → Stands (Some (Row r))
    by_method : {i : ℕ} → Asked → MutMethod i → ((j : ℕ) → MutMethod j → j ≤ i) → No MutRef → Stands (Some (Item i))
    by_slice : {r : ℕ} → Asked → MutSlice r → ((q : ℕ) → MutSlice q → standing s q ≤ standing s r) → No MutMethod → No MutRef → Stands (Some (Row r))
    without : Asked → No MutSlice → No MutMethod → No MutRef → Stands None
    not_asked : (Asked → ⊥) → Stands None

-- of the reasons of all names
pub record UnpinRule (s : List ℕ) (reasons : List (Option UnpinReason)) : Type 0 where
  pub stands : (n : ℕ) → n < name_count → Stands s n (reason_for reasons n)
  -- a reason shown exists in the sheet
  pub shown_row : (n r : ℕ) → n < name_count → reason_for reasons n ≡ Some (Row r) → Asked s n × (MutSlice s n r ⊎ MutRef s n r)
  pub shown_item : (n i : ℕ) → n < name_count → reason_for reasons n ≡ Some (Item i) → Asked s n × MutMethod s n i
  -- such a name without one has no such slice, receiver or reference
  pub silent : (n : ℕ) → n < name_count → Asked s n → reason_for reasons n ≡ None → No (MutSlice s n) × No (MutMethod s n) × No (MutRef s n)
  -- other names have none
  pub others : (n : ℕ) → n < name_count → (Asked s n → ⊥) → reason_for reasons n ≡ None

-- what holds of each call that is answered accepted: laws/proofs/Unpin/Due.antt
abbrev pub UnpinDue : Type 0
UnpinDue =
    (s scratch : List ℕ) (list : List Diagnostic) → (call s scratch list).answer.verdict ≡ Ok tt
    → UnpinRule s (call s scratch list).answer.unpin × NumbersBack (call s scratch list).answer.unpin
