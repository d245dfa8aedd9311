-- What is no name is in no column; so what is a struct's, or in cxx, is a name.
-- Assumes nothing.
use Prim.Native.Nat.{ℕ, ◌≤◌, ◌<◌}
use mathlib.Core.Path.{◌≡◌, sym, ◌∙◌}
use mathlib.Core.Bool.{true, false}
use mathlib.Core.List.{List}
use native.Mathlib.Omega.{arith}
use native.Mathlib.Decide.{dec_lt}
use Rattle.rules.specs.Numbers.{name_count, struct_set, cxx_set}
use Rattle.rules.specs.Names.{◌∋◌}
use Rattle.rules.specs.Types.{is_struct, is_cxx}
use Rattle.laws.proofs.Base.Tests.{never}
use Rattle.names.specs.Known.{names_in, tabled}
use Rattle.names.proofs.Columns.{has-is, entry-out}

-- ## A name

-- a number that is no name is in no column
pub none_out : (w : List ℕ) (k n : ℕ) → name_count ≤ n → (names_in w k ∋ n) ≡ false
none_out w k n h = has-is w k n ∙ rw (entry-out w k n h)

module _ (s w : List ℕ) (n : ℕ) where
  pub struct-small : is_struct (tabled s w) n ≡ true → n < name_count
  unfolding is_struct tabled
  struct-small e = go (dec_lt n name_count)
    where
      go : Dec (n < name_count) → n < name_count
      go (yes l) = l
      go (no m) = never (sym (none_out w struct_set n (omega arith)) ∙ e)

  pub cxx-out : name_count ≤ n → is_cxx (tabled s w) n ≡ false
  unfolding is_cxx tabled
  cxx-out h = none_out w cxx_set n h
