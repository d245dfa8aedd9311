-- `known::entry` reads the entry of a name in a column, and 0 where there is none.
-- Assumes nothing.
use borrow.Author.Rules.{rules}
use mathlib.Core.Path.{sym}
use Rattle.names.proofs.Columns.{entry_in, entry_past, entry-out}
use Rattle.names.proofs.known.entry.Goals as goal

pub returns-then-n-lt-NAMES : goal.returns-then-n-lt-NAMES
returns-then-n-lt-NAMES c = sym (entry_in _ _ _ (search rules) (search rules))

pub returns-else-k-lt-COLUMNS : goal.returns-else-k-lt-COLUMNS
returns-else-k-lt-COLUMNS c = search (rules, entry_past, entry-out)
