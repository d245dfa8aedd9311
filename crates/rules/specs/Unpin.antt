-- Which C++ names must be Unpin, and why: `required_unpin_reasons` of unpin.rs. The source asks for names that an alias bears; here every extern C++ type is
-- asked for, whether a CxxType or an alias declares it: by the source's rule a name without a reason could have such a slice, receiver or reference.
-- Assumes nothing: these are definitions.
use Rattle.std.specs.Prelude.{ℕ, ◌+◌, ◌-◌, ◌%◌, ◌<◌, ◌≡◌, List, [], ◌∷◌, ◌++◌, Bool, not, ◌&&◌, length, get_or, ltb, eqb, Option, Some, None}
use Rattle.rules.specs.Numbers.{Ident, Ref, SliceRef, name_count, item_reasons}
use Rattle.rules.specs.declared.UnpinReason.{UnpinReason}
use Rattle.rules.specs.declared.UnpinReason.TheVariants.{Row, Item}
use Rattle.rules.specs.Base.{if'◌then◌else◌, over}
use Rattle.rules.specs.View.{flag1, flag2, is, row_name, row_flags, inner, items, is_function, is_method, self_type, receiver_mutable, receiver_pinned}
use Rattle.rules.specs.Types.{Types, is_extern}

-- ## What is found, in the order of the source

-- a reason, and the name that it is for
abbrev pub Find : Type 0
Find = ℕ × UnpinReason

-- at row r, where a test says so
unfoldable pub find_row : (s : List ℕ) (test : ℕ → Bool) (r : ℕ) → List Find
find_row s p r = if' p r then (row_name s (inner s r), Row r) ∷ [] else []

module _ (s : List ℕ) (t : Types) where
  -- a row of that kind over the plain name of an extern C++ type
  unfoldable pub over_extern : (k r : ℕ) → Bool
  over_extern k r = is s k r && is s Ident (inner s r) && is_extern t (row_name s (inner s r))

  unfoldable pub is_mut_slice : (r : ℕ) → Bool
  is_mut_slice r = over_extern SliceRef r && flag1 (row_flags s r)

  -- mutable, and not pinned
  unfoldable pub is_mut_ref : (r : ℕ) → Bool
  is_mut_ref r = over_extern Ref r && flag1 (row_flags s r) && not (flag2 (row_flags s r))

  -- a method, of either language, whose receiver is mutable and not pinned
  unfoldable pub is_mut_method : (i : ℕ) → Bool
  is_mut_method i = is_function s i && is_method s i && receiver_mutable s i && not (receiver_pinned s i) && is_extern t (self_type s i)

  unfoldable pub find_item : (i : ℕ) → List Find
  find_item i = if' is_mut_method i then (self_type s i, Item i) ∷ [] else []

  -- over the collected rows
  unfoldable pub find_rows : (test : ℕ → Bool) → List Find
  find_rows p = over (length t.all) (λ k. find_row s p (get_or t.all k 0))

  unfoldable pub find_items : List Find
  find_items = over (items s) find_item

  -- slices first, then receivers, then references
  unfoldable pub finds : List Find
  finds = find_rows is_mut_slice ++ find_items ++ find_rows is_mut_ref

-- ## Of each name the last one stands

-- for a name that had a reason, or none, before
unfoldable pub last_for : (n : ℕ) → Option UnpinReason → List Find → Option UnpinReason
last_for n u [] = u
last_for n u (f ∷ fs) = last_for n (if' eqb f.0 n then Some f.1 else u) fs

-- what the table of all names has of a name
abbrev pub reason_for : List (Option UnpinReason) → (n : ℕ) → Option UnpinReason
reason_for us n = get_or us n None

unfoldable pub last_of_all : List Find → List (Option UnpinReason)
last_of_all fs = over name_count (λ n. last_for n None fs ∷ [])

unfoldable pub unpin_of : (s : List ℕ) → Types → List (Option UnpinReason)
unpin_of s t = last_of_all (finds s t)

-- ## A reason as a number of two bytes: 0 for none, a row's number plus 1, and items from here on

abbrev pub reason_number : Option UnpinReason → ℕ
reason_number None = 0
reason_number (Some (Row r)) = r + 1
reason_number (Some (Item i)) = item_reasons + i

-- and back; an item is below 256
unfoldable pub reason_of : ℕ → Option UnpinReason
reason_of x = if' eqb x 0 then None else if' ltb x item_reasons then Some (Row (x - 1)) else Some (Item (x % 256))

-- the number of each reason fits two bytes, and gives it back
abbrev pub NumbersBack : List (Option UnpinReason) → Type 0
NumbersBack reasons =
    (n : ℕ) → n < name_count
    → (reason_number (reason_for reasons n) < 65536) × (reason_of (reason_number (reason_for reasons n)) ≡ reason_for reasons n)
