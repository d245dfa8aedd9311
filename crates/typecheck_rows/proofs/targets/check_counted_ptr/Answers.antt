-- `typecheck_rows::targets::check_counted_ptr` meets its contract: each test that the code makes is that of the definition. Assumes nothing.
use Rattle.rules.specs.Check.{check_counted_ptr}
use Rattle.rules.specs.Diagnostics.{when}
use Rattle.std.proofs.Common.{rules}
use Rattle.typecheck_rows.proofs.Reports.{reports}
use Rattle.typecheck_rows.proofs.targets.check_counted_ptr.Goals as goal

pub returns-then-is_rust_target : goal.returns-then-is_rust_target
unfolding check_counted_ptr when
returns-then-is_rust_target c = search (rules, reports)

pub returns-then-is_counted_target : goal.returns-then-is_counted_target
unfolding check_counted_ptr when
returns-then-is_counted_target c = search (rules, reports)

pub returns-then-target_is : goal.returns-then-target_is
unfolding check_counted_ptr when
returns-then-target_is c = search (rules, reports)

pub returns : goal.returns
unfolding check_counted_ptr when
returns c = search (rules, reports)
