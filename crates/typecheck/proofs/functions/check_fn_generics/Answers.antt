-- `typecheck::functions::check_fn_generics` meets its contract: each test that the code makes is that of the definition. Assumes nothing.
use Rattle.std.proofs.Common.{rules}
use Rattle.rules.specs.Base.{if'◌then◌else◌}
use Rattle.rules.specs.Diagnostics.{when}
use Rattle.rules.specs.Check.{check_fn_generics}
use Rattle.typecheck.proofs.functions.check_fn_generics.Goals as goal

pub returns-then-item_is : goal.returns-then-item_is
unfolding check_fn_generics when if'◌then◌else◌
returns-then-item_is c = λ t. search rules

pub returns : goal.returns
unfolding check_fn_generics when if'◌then◌else◌
returns c = λ t. search rules
