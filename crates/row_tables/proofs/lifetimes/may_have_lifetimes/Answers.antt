-- `row_tables::lifetimes::may_have_lifetimes` meets its contract: the name's last type has lifetimes, or there is none.
-- Assumes nothing.
use Rattle.std.specs.Prelude.{ℕ, ◌≡◌, Bool, true, ◌||◌, eqb, Option, Some, None}
use Rattle.std.specs.Option.{MatchOption}
use Rattle.std.proofs.Common.{sym, subst, rules}
use borrow.Author.Tests.{eq-eqb}
use Rattle.rules.specs.Numbers.{no_item}
use Rattle.rules.specs.Kinds.{some_unless}
use Rattle.rules.specs.Check.{may_have_lifetimes}
use Rattle.rules.proofs.KindLaws.{of_none, of_some}
use Rattle.row_tables.proofs.lifetimes.may_have_lifetimes.Goals as goal

none_or : (o : Option ℕ) (i : ℕ) (x b : Bool) (P : ℕ → Type 0) → o ≡ some_unless no_item i → MatchOption o (x ≡ true) P → (P i → x ≡ b)
    → x ≡ (eqb i no_item || b)
none_or None i x b P e h some = rw (eq-eqb _ _ (of_none no_item i e)) h
none_or (Some j) i x b P e h some =
    let is = of_some no_item i e in
    rw is.1 (some (subst P (sym is.0) h))

pub returns : goal.returns
unfolding may_have_lifetimes
returns c = none_or _ _ _ _ _ c.type_of.ensures c.is_none_or.ensures (λ p. search rules)
