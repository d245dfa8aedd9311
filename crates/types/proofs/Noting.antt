-- Reasons to be Unpin, in the cases that the code tells apart: what a turn of a loop notes; that what was noted, one after another, is of each name the last
-- (`noted-all`); and that without a name in cxx nothing is found (`none_found`).
-- Assumes nothing.
use Prim.Native.Nat.{ℕ, ◌*◌, ◌<◌}
use mathlib.Core.Path.{◌≡◌, refl, sym, ap, ◌∙◌}
use mathlib.Core.Bool.{Bool, true, false}
use mathlib.Core.List.{List, [], ◌∷◌, ◌++◌, foldl, append_assoc, append-nil}
use native.Mathlib.Omega.{arith}
use native.Mathlib.Decide.{dec_lt}
use lib.ListN.{replicate}
use lib.Seq.{set_out}
use Rattle.rules.specs.Numbers.{Ref, SliceRef, name_count}
use Rattle.rules.specs.declared.UnpinReason.{UnpinReason}
use Rattle.std.proofs.Common.{Option, Some, None}
use Rattle.rules.specs.declared.UnpinReason.TheVariants.{Row, Item}
use Rattle.rules.specs.Base.{if'◌then◌else◌}
use Rattle.rules.specs.Format.{pair_at}
use Rattle.rules.specs.View.{row_name, inner, items, self_type}
use Rattle.rules.specs.Trivial.{extern_in}
use Rattle.rules.specs.Types.{Types, is_cxx, is_extern}
use Rattle.rules.specs.Unpin.{Find, over_extern, is_mut_slice, is_mut_ref, is_mut_method, find_row, find_item, find_items, last_of_all}
use Rattle.laws.proofs.Unpin.LastFinds.{all-length, all_set, all-out, all_none}
use Rattle.laws.proofs.Base.Tests.{and-false}
use Rattle.types.specs.Found.{row_found, rows_found, all_found, stood, Noted}
use Rattle.laws.proofs.Base.Lists.{over_nothing}
use Rattle.types.proofs.Folding.{fold-none}

-- ## Turns

-- one more, of a name that is one of the 256 or of none
noted_one : (u : List (Option UnpinReason)) (f : Find) → Noted u (f ∷ []) (stood u f)
noted_one u f = record { is = refl }

module _ (s : List ℕ) (test : ℕ → Bool) (p : ℕ) {r : ℕ} {yes : Bool} (is_row : r ≡ p) (is_test : yes ≡ test r) {u : List (Option UnpinReason)} where
  pub row-not : yes ≡ false → Noted u (find_row s test p) u
  unfolding find_row if'◌then◌else◌
  row-not f = rw (← is_row, sym is_test ∙ f) fold-none

  pub row-noted : yes ≡ true → {q n : ℕ} → q ≡ inner s r → n ≡ row_name s q → Noted u (find_row s test p) (stood u (n, Row r))
  unfolding find_row if'◌then◌else◌
  row-noted f {q} {n} is-inner is_name = rw (← is_row, sym is_test ∙ f, ← is-inner, ← is_name) (noted_one u (n, Row r))

module _ (s : List ℕ) (t : Types) (i : ℕ) {yes : Bool} (test : yes ≡ is_mut_method s t i) {u : List (Option UnpinReason)} where
  pub item-not : yes ≡ false → Noted u (find_item s t i) u
  unfolding find_item if'◌then◌else◌
  item-not f = rw (sym test ∙ f) fold-none

  pub item-noted : yes ≡ true → {n : ℕ} → n ≡ self_type s i → Noted u (find_item s t i) (stood u (n, Item i))
  unfolding find_item if'◌then◌else◌
  item-noted f {n} is_name = rw (sym test ∙ f, ← is_name) (noted_one u (n, Item i))

-- ## None at all

-- no name is extern that is not in cxx
not-extern : (t : Types) (n : ℕ) → is_cxx t n ≡ false → is_extern t n ≡ false
unfolding is_extern extern_in is_cxx
not-extern t n e = rw e

module _ (s : List ℕ) (t : Types) (none : (n : ℕ) → is_cxx t n ≡ false) where
  no_row : (k r : ℕ) → over_extern s t k r ≡ false
  unfolding over_extern
  no_row k r = rw (not-extern t (row_name s (inner s r)) (none (row_name s (inner s r))), and-false)

  no_slice : (r : ℕ) → is_mut_slice s t r ≡ false
  unfolding is_mut_slice
  no_slice r = rw (no_row SliceRef r)

  no_ref : (r : ℕ) → is_mut_ref s t r ≡ false
  unfolding is_mut_ref
  no_ref r = rw (no_row Ref r)

  no-method : (i : ℕ) → is_mut_method s t i ≡ false
  unfolding is_mut_method
  no-method i = rw (not-extern t (self_type s i) (none (self_type s i)), and-false)

  rows-nothing : (test : ℕ → Bool) → ((r : ℕ) → test r ≡ false) → (scratch : List ℕ) (n : ℕ) → rows_found s test scratch n ≡ []
  unfolding find_row if'◌then◌else◌
  rows-nothing test fails scratch n = over_nothing n (row_found s test scratch) (λ k. rw (fails (pair_at scratch (2 * k))))

  items-nothing : find_items s t ≡ []
  unfolding find_items find_item if'◌then◌else◌
  items-nothing = over_nothing (items s) (find_item s t) (λ i. rw (no-method i))

  pub none_found : (scratch : List ℕ) (n : ℕ) → replicate name_count None ≡ last_of_all (all_found s t scratch n)
  none_found scratch n =
      rw (rows-nothing (is_mut_slice s t) no_slice scratch n, items-nothing, rows-nothing (is_mut_ref s t) no_ref scratch n)
      (sym all_none)

-- ## All of them

-- one more reason of the names
one_more : (fs : List Find) (f : Find) → stood (last_of_all fs) f ≡ last_of_all (fs ++ f ∷ [])
one_more fs f = go (dec_lt f.0 name_count)
  where
    go : Dec (f.0 < name_count) → stood (last_of_all fs) f ≡ last_of_all (fs ++ f ∷ [])
    go (yes l) = all_set fs f.0 f.1 l
    go (no l) = set_out (last_of_all fs) f.0 (Some f.1) (omega (arith, all-length fs)) ∙ all-out fs f.0 f.1 (omega arith)

more-and-more : (fs gs : List Find) → foldl stood (last_of_all fs) gs ≡ last_of_all (fs ++ gs)
more-and-more fs [] = ap last_of_all (sym (append-nil fs))
more-and-more fs (g ∷ gs) =
    ap (λ (u : List (Option UnpinReason)). foldl stood u gs) (one_more fs g) ∙ more-and-more (fs ++ g ∷ []) gs ∙ ap last_of_all (append_assoc fs (g ∷ []) gs)

pub noted-all : {fs : List Find} {u : List (Option UnpinReason)} → Noted (replicate name_count None) fs u → u ≡ last_of_all fs
noted-all {fs} p = p.is ∙ ap (λ (v : List (Option UnpinReason)). foldl stood v fs) (sym all_none) ∙ more-and-more [] fs
