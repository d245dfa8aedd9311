-- A function's return row, as the option that the code asks for: there is one, or none.
-- Assumes nothing.
use Prim.Native.Nat.{ℕ}
use mathlib.Core.Path.{◌≡◌, sym, ap, ◌∙◌}
use mathlib.Core.List.{List}
use mathlib.Core.Bool.{true, false}
use Rattle.std.specs.Prelude.{Option, Some, None, is_some}
use Rattle.rules.specs.Numbers.{no_row}
use Rattle.rules.specs.Kinds.{some_unless}
use Rattle.rules.specs.View.{return, has_return}
use Rattle.rules.proofs.KindLaws.{of_some, some-is}

module _ (s : List ℕ) (i : ℕ) {row : Option ℕ} (e : row ≡ some_unless no_row (return s i)) where
  told : has_return s i ≡ is_some row
  unfolding has_return
  told = sym (ap is_some e ∙ some-is no_row (return s i))

  pub no-return : row ≡ None → has_return s i ≡ false
  no-return n = told ∙ ap is_some n

  pub some-return : {r : ℕ} → row ≡ Some r → (has_return s i ≡ true) × (return s i ≡ r)
  some-return is = (told ∙ ap is_some is, (of_some no_row (return s i) (sym is ∙ e)).0)
