-- `row_tables::lifetimes::is_lifetime_mut` meets its contract: each test that the code makes is that of the definition.
-- Assumes nothing.
use Rattle.std.proofs.Common.{sym, ◌∙◌}
use Rattle.rules.specs.Check.{is_lifetime_mut}
use Rattle.row_tables.proofs.Branches.{if-taken, if-left, and-not, and_so}
use Rattle.row_tables.proofs.lifetimes.is_lifetime_mut.Goals as goal

pub returns-then-is : goal.returns-then-is
unfolding is_lifetime_mut
returns-then-is c = if-taken _ _ c.if-is.true c.is_mutable.ensures (rw (c.is.ensures, c.is-2.ensures))

pub returns-then-not-is : goal.returns-then-not-is
unfolding is_lifetime_mut
returns-then-not-is c = if-left _ _ c.if-is.false (and-not _ _ _ (sym c.is-3.ensures ∙ c.if-not-is.true)) (rw (c.is.ensures, c.is-2.ensures))

pub returns : goal.returns
unfolding is_lifetime_mut
returns c =
    if-left _ _ c.if-is.false
    (and_so _ _ _ (sym c.is-3.ensures ∙ c.if-not-is.false) (rw (c.is_atom.ensures, c.may_have_lifetimes.ensures, c.row_name-n.ensures)))
    (rw (c.is.ensures, c.is-2.ensures))
