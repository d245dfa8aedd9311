-- `typecheck_rows::targets::check_type_box` meets its contract: 4 and then 5, by the tests of the definition. Assumes nothing.
use Rattle.rules.specs.Check.{check_type_box}
use Rattle.std.proofs.Common.{rules}
use Rattle.typecheck_rows.proofs.Reports.{reports}
use Rattle.typecheck_rows.proofs.targets.check_type_box.Goals as goal

pub returns : goal.returns
unfolding check_type_box
returns c = search (rules, reports)
