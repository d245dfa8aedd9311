-- The name to which a row gives a reason, in the cases that the code tells apart; and without a name in cxx there is none (`nothing-wanted`).
-- Assumes nothing.
use Prim.Native.Nat.{ℕ, ◌<◌}
use mathlib.Core.Path.{◌≡◌, sym, ◌∙◌}
use mathlib.Core.Bool.{Bool, true, false, not}
use mathlib.Core.List.{List, []}
use native.Mathlib.Omega.{arith}
use native.Mathlib.Decide.{dec_lt}
use lib.ListN.{length, get_or}
use Rattle.std.specs.Prelude.{Some, None}
use Rattle.std.specs.Bool.{MatchBool}
use Rattle.std.specs.List.{AllWithin, range_with_len}
use Rattle.std.proofs.lemmas.List.FromFn.{length-range_with_len, get_or-range_with_len}
use Rattle.rules.specs.Numbers.{Ident, name_count}
use Rattle.rules.specs.Base.{if'◌then◌else◌}
use Rattle.rules.specs.View.{is, row_name}
use Rattle.rules.specs.Trivial.{extern_in, insist}
use Rattle.rules.specs.Types.{Types, is_cxx, is_extern}
use Rattle.laws.proofs.Base.Tests.{never, and-false}
use Rattle.names.specs.Known.{tabled}
use Rattle.row_tables.specs.Tables.{one_of}
use Rattle.row_tables.proofs.NameLooks.{cxx-out}

-- no name is extern that is not in cxx
not-extern : (t : Types) (n : ℕ) → is_cxx t n ≡ false → is_extern t n ≡ false
unfolding is_extern extern_in is_cxx
not-extern t n e = rw e

-- ## One row

module _ (s : List ℕ) (t : Types) (r : ℕ) where
  pub want-not : is s Ident r ≡ false → one_of None ≡ insist s (is_extern t) r
  unfolding insist if'◌then◌else◌
  want-not e = rw e

  pub want-out : is_extern t (row_name s r) ≡ false → one_of None ≡ insist s (is_extern t) r
  unfolding insist if'◌then◌else◌
  want-out e = rw (e, and-false)

  pub nothing-wanted : ((n : ℕ) → is_cxx t n ≡ false) → insist s (is_extern t) r ≡ []
  unfolding insist if'◌then◌else◌
  nothing-wanted h = rw (not-extern t (row_name s r) (h (row_name s r)), and-false)

module _ (s w : List ℕ) (r : ℕ) where
  pub extern-small : (n : ℕ) → is_extern (tabled s w) n ≡ true → n < name_count
  extern-small n e = go (dec_lt n name_count)
    where
      go : Dec (n < name_count) → n < name_count
      go (yes l) = l
      go (no m) = never (sym (not-extern (tabled s w) n (cxx-out s w n (omega arith))) ∙ e)

  pub want-in : is s Ident r ≡ true → is_extern (tabled s w) (row_name s r) ≡ true → one_of (Some (row_name s r)) ≡ insist s (is_extern (tabled s w)) r
  unfolding insist if'◌then◌else◌
  want-in e h = rw (e, h)

-- ## No name in cxx

module _ (s w : List ℕ) where
  pub none-all : ((y : ℕ) → y < name_count → is_cxx (tabled s w) y ≡ false) → (x : ℕ) → is_cxx (tabled s w) x ≡ false
  none-all h x = by (dec_lt x name_count)
    where
      by : Dec (x < name_count) → is_cxx (tabled s w) x ≡ false
      by (yes l) = h x l
      by (no l) = cxx-out s w x (omega arith)

-- as the search through the m names says it
module _ (s w : List ℕ) (m : ℕ) where
  pub none_found : m ≡ name_count → (X : Type 0) (r : Bool)
      → MatchBool r X (AllWithin (λ y. is_cxx (tabled s w) y ≡ false) (range_with_len 0 m) 0 (length (range_with_len 0 m)))
      → not r ≡ true → (x : ℕ) → is_cxx (tabled s w) x ≡ false
  none_found q X true h e x = never e
  none_found q X false h e x = none-all s w here x
    where
      here : (y : ℕ) → y < name_count → is_cxx (tabled s w) y ≡ false
      here y l =
          let at : get_or (range_with_len 0 m) y 0 ≡ y = omega (arith, get_or-range_with_len 0 m y 0 (omega arith)) in
          rw at at (h y 0 (omega arith) (omega (arith, length-range_with_len 0 m)))
