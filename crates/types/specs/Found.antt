-- Reasons to be Unpin as the code finds them: over the rows that a scratch holds; each takes the place of the one before.
-- Assumes nothing: these are definitions.
use Rattle.std.specs.Prelude.{ℕ, ◌*◌, ◌<◌, ◌≡◌, Bool, List, ◌++◌, set, Option, Some}
use Rattle.rules.specs.declared.UnpinReason.{UnpinReason}
use Rattle.rules.specs.Base.{over}
use Rattle.rules.specs.Format.{pair_at}
use Rattle.rules.specs.Types.{Types}
use Rattle.rules.specs.Unpin.{Find, is_mut_slice, is_mut_ref, find_row, find_items}
use Rattle.types.specs.Folded.{Folded}

-- for every row, what the call may answer is the test's answer
abbrev pub Tells : ((r : ℕ) → Bool → Type 0) → (test : ℕ → Bool) → Type 0
Tells Answers test = (r : ℕ) (b : Bool) → r < 65536 → Answers r b → b ≡ test r

-- of row k of those that a scratch holds, where a test says so, and of the first n
abbrev pub row_found : (s : List ℕ) (test : ℕ → Bool) (scratch : List ℕ) (k : ℕ) → List Find
row_found s test scratch k = find_row s test (pair_at scratch (2 * k))

abbrev pub rows_found : (s : List ℕ) (test : ℕ → Bool) (scratch : List ℕ) (n : ℕ) → List Find
rows_found s test scratch n = over n (row_found s test scratch)

-- slices, methods, references, by what is known of the names
abbrev pub all_found : (s : List ℕ) (t : Types) (scratch : List ℕ) (n : ℕ) → List Find
all_found s t scratch n = rows_found s (is_mut_slice s t) scratch n ++ find_items s t ++ rows_found s (is_mut_ref s t) scratch n

-- the reasons with one more
abbrev pub stood : List (Option UnpinReason) → Find → List (Option UnpinReason)
stood u f = set u f.0 (Some f.1)

-- v is u with the reasons of a list
abbrev pub Noted : List (Option UnpinReason) → List Find → List (Option UnpinReason) → Type 0
Noted u fs v = Folded stood u fs v
