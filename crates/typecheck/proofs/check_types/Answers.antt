-- `typecheck::check_types` meets its contract: a turn adds the messages of its row, and at the end the index is the count. Assumes nothing.
use mathlib.Core.Path.{◌≡◌, ◌∙◌}
use native.Mathlib.Omega.{arith}
use Rattle.names.specs.Known.{tabled}
use Rattle.errors.specs.Sink.{start, turn, whole}
use Rattle.typecheck.proofs.GivenParts.{row-given}
use Rattle.typecheck.proofs.check_types.Goals as goal

pub loop-j-init : goal.loop-j-init
loop-j-init c = start _ _

pub check_type-requires : goal.check_type-requires
check_type-requires c = row-given c.requires _ c.loop-j-test.true (c.row.ensures ∙ c.requires.row _ c.loop-j-test.true)

pub loop-j-preserved : goal.loop-j-preserved
loop-j-preserved c = turn _ _ c.loop-j.invariant (rw (c.row.ensures ∙ c.requires.row _ c.loop-j-test.true) at c.check_type.ensures)

pub returns : goal.returns
unfolding tabled
returns c =
    let e : c.loop-j.j ≡ c.args.rows.now.count = omega arith in
    whole _ c.loop-j.invariant (e ∙ c.requires.count)
