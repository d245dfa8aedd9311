-- `known::enter_if` stores one entry, where it is to be stored and has a place.
-- Assumes nothing.
use borrow.Author.Rules.{rules}
use Rattle.names.proofs.Columns.{entered-not, entered-past, entered-out, entered-in}
use Rattle.names.proofs.known.enter_if.Goals as goal

pub returns-then-n-lt-NAMES : goal.returns-then-n-lt-NAMES
returns-then-n-lt-NAMES c = search (rules, entered-in)

pub returns-else-yes : goal.returns-else-yes
returns-else-yes c = search (rules, entered-not, entered-past, entered-out)
