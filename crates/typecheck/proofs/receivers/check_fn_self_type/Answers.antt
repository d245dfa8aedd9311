-- `typecheck::receivers::check_fn_self_type` meets its contract: each test that the code makes is that of the definition. Assumes nothing.
use Rattle.std.proofs.Common.{rules}
use Rattle.rules.specs.Base.{if'◌then◌else◌}
use Rattle.rules.specs.Diagnostics.{when}
use Rattle.rules.specs.Check.{check_fn_self_type}
use Rattle.typecheck.proofs.receivers.check_fn_self_type.Goals as goal

pub returns-then-is_enum : goal.returns-then-is_enum
unfolding check_fn_self_type when if'◌then◌else◌
returns-then-is_enum c = search rules

pub returns : goal.returns
unfolding check_fn_self_type when if'◌then◌else◌
returns c = search rules
