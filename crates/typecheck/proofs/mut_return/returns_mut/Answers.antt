-- `typecheck::mut_return::returns_mut` meets its contract: there is no return, or its row decides. Assumes nothing.
use Rattle.std.proofs.Common.{rules}
use Rattle.rules.specs.Check.{returns_mut}
use Rattle.typecheck.proofs.Returns.{no-return, some-return}
use Rattle.typecheck.proofs.mut_return.returns_mut.Goals as goal

pub returns-in_default : goal.returns-in_default
unfolding returns_mut
returns-in_default c = λ t. rw (no-return _ _ c.return_row.ensures c.in_default.is)

pub returns-then-lent : goal.returns-then-lent
unfolding returns_mut
returns-then-lent c = λ t. let is = some-return _ _ c.return_row.ensures c.in-Some.is in rw (is.0, is.1) (search rules)

pub returns-else-lent : goal.returns-else-lent
unfolding returns_mut
returns-else-lent c = λ t. let is = some-return _ _ c.return_row.ensures c.in-Some.is in rw (is.0, is.1) (search rules)
