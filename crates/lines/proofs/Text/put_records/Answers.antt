use native.Mathlib.Omega.{arith}
use borrow.Author.Rules.{rules}
use Rattle.rules.specs.Text.{record_line}
use Rattle.lines.proofs.Laws.{start, turn}
use Rattle.lines.proofs.Text.put_records.Goals as goal

pub loop-d-init : goal.loop-d-init
loop-d-init c = start record_line _

pub loop-d-preserved : goal.loop-d-preserved
loop-d-preserved c = turn record_line c.args.list.now c.loop-d.d-index _ (search rules) c.loop-d.invariant c.put_record.ensures (omega arith)
