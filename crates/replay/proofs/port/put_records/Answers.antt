use Rattle.std.proofs.Common.{rules, arith, refl}
use Rattle.errors.specs.Records.{record_bytes}
use Rattle.layout.proofs.Laws.{start, turn}
use Rattle.replay.proofs.port.put_records.Goals as goal

pub loop-k-init : goal.loop-k-init
loop-k-init c = (refl, start record_bytes _ _)

pub loop-k-preserved : goal.loop-k-preserved
loop-k-preserved c =
    (search rules, turn record_bytes c.args.list.now _ (search rules) c.loop-k.invariant.1 c.put_record.ensures (omega arith))
