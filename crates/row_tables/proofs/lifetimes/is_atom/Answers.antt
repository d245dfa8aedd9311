-- `row_tables::lifetimes::is_atom` meets its contract: it is the test of the definition.
-- Assumes nothing.
use mathlib.Core.Path.{refl}
use Rattle.rules.specs.Names.{is_atom}
use Rattle.row_tables.proofs.lifetimes.is_atom.Goals as goal

pub returns : goal.returns
unfolding is_atom
returns c = refl
