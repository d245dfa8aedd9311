-- `typecheck::receivers::check_fn_kind` meets its contract: each test that the code makes is that of the definition. Assumes nothing.
use Rattle.std.proofs.Common.{rules}
use Rattle.typecheck_rows.proofs.Reports.{reports}
use Rattle.typecheck.proofs.receivers.check_fn_kind.Goals as goal

pub returns-then-is_method : goal.returns-then-is_method
returns-then-is_method c = search (rules, reports)

pub returns-then-is_free : goal.returns-then-is_free
returns-then-is_free c = search (rules, reports)

pub returns : goal.returns
returns c = search (rules, reports)
