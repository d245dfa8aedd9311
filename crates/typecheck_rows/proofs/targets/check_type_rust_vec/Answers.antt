-- `typecheck_rows::targets::check_type_rust_vec` meets its contract: a Box inside gives its own messages, at its own row. Assumes nothing.
use mathlib.Core.Path.{ap}
use Rattle.std.proofs.Common.{rules}
use Rattle.rules.specs.Base.{if'◌then◌else◌}
use Rattle.rules.specs.Check.{check_type_box, check_type_rust_vec}
use Rattle.rules.specs.Diagnostics.{when}
use Rattle.names.specs.Known.{tabled}
use Rattle.errors.specs.Sink.{meant}
use Rattle.typecheck_rows.proofs.Reports.{reports}
use Rattle.typecheck_rows.proofs.targets.check_type_rust_vec.Goals as goal

pub returns-then-is_opaque_target : goal.returns-then-is_opaque_target
unfolding check_type_rust_vec when
returns-then-is_opaque_target c = search (rules, reports)

pub returns-then-is_vec_element : goal.returns-then-is_vec_element
unfolding check_type_rust_vec when
returns-then-is_vec_element c = search (rules, reports)

pub returns-then-target_is : goal.returns-then-target_is
unfolding check_type_rust_vec when
returns-then-target_is c = search (rules, reports)

pub returns-then-is : goal.returns-then-is
unfolding check_type_rust_vec when if'◌then◌else◌
returns-then-is c =
    let inside = meant c.check_type_box.ensures (ap (check_type_box _ (tabled _ _)) c.inner-inside.ensures) in
    search rules

pub returns : goal.returns
unfolding check_type_rust_vec when if'◌then◌else◌
returns c = search rules
