-- `typecheck_rows::targets::check_type_unique_ptr` meets its contract: each test that the code makes is that of the definition. Assumes nothing.
use Rattle.rules.specs.Check.{check_type_unique_ptr}
use Rattle.rules.specs.Diagnostics.{when}
use Rattle.std.proofs.Common.{rules}
use Rattle.typecheck_rows.proofs.Reports.{reports}
use Rattle.typecheck_rows.proofs.targets.check_type_unique_ptr.Goals as goal

pub returns-then-is_rust_target : goal.returns-then-is_rust_target
unfolding check_type_unique_ptr when
returns-then-is_rust_target c = search (rules, reports)

pub returns-then-is_unique_target : goal.returns-then-is_unique_target
unfolding check_type_unique_ptr when
returns-then-is_unique_target c = search (rules, reports)

pub returns : goal.returns
unfolding check_type_unique_ptr when
returns c = search (rules, reports)
