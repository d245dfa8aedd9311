-- `row_tables::sizes::describe_ident` meets its contract: the tests are made in the definition's order.
-- Assumes nothing.
use Rattle.std.proofs.Common.{rules}
use Rattle.rules.specs.Base.{if'◌then◌else◌}
use Rattle.rules.specs.Check.{describe_ident}
use Rattle.row_tables.proofs.sizes.describe_ident.Goals as goal

pub returns-then-is_struct : goal.returns-then-is_struct
unfolding describe_ident if'◌then◌else◌
returns-then-is_struct c = search rules

pub returns-then-is_enum : goal.returns-then-is_enum
unfolding describe_ident if'◌then◌else◌
returns-then-is_enum c = search rules

pub returns-then-is_alias : goal.returns-then-is_alias
unfolding describe_ident if'◌then◌else◌
returns-then-is_alias c = search rules

pub returns-then-is_cxx : goal.returns-then-is_cxx
unfolding describe_ident if'◌then◌else◌
returns-then-is_cxx c = search rules

pub returns-then-is_rust : goal.returns-then-is_rust
unfolding describe_ident if'◌then◌else◌
returns-then-is_rust c = search rules

pub returns-then-n-eq-CXX_STRING : goal.returns-then-n-eq-CXX_STRING
unfolding describe_ident if'◌then◌else◌
returns-then-n-eq-CXX_STRING c = search rules

pub returns-then-n-eq-CHAR : goal.returns-then-n-eq-CHAR
unfolding describe_ident if'◌then◌else◌
returns-then-n-eq-CHAR c = search rules

pub returns-else-n-eq-CHAR : goal.returns-else-n-eq-CHAR
unfolding describe_ident if'◌then◌else◌
returns-else-n-eq-CHAR c = search rules
