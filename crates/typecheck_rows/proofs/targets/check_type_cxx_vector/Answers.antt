-- `typecheck_rows::targets::check_type_cxx_vector` meets its contract: each test that the code makes is that of the definition. Assumes nothing.
use Rattle.std.proofs.Common.{rules}
use Rattle.rules.specs.Check.{check_type_cxx_vector}
use Rattle.rules.specs.Diagnostics.{when}
use Rattle.typecheck_rows.proofs.Reports.{reports}
use Rattle.typecheck_rows.proofs.targets.check_type_cxx_vector.Goals as goal

pub returns-then-is_rust_target : goal.returns-then-is_rust_target
unfolding check_type_cxx_vector when
returns-then-is_rust_target c = search (rules, reports)

pub returns : goal.returns
unfolding check_type_cxx_vector
returns c = search (rules, reports)
