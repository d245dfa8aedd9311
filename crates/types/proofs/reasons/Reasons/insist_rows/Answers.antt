use Prim.Native.Nat.{◌*◌}
use Rattle.rules.specs.Format.{pair_at}
use Rattle.rules.specs.Trivial.{reasons_of_row}
use Rattle.types.proofs.Counting.{wants-same, over_none, over-more}
use Rattle.types.proofs.reasons.Reasons.insist_rows.Goals as goal

pub loop-k-init : goal.loop-k-init
loop-k-init c = over_none (λ s f k. reasons_of_row s f (pair_at c.args.rows.now.scratch.now (2 * k)))

pub insist_row-requires : goal.insist_row-requires
insist_row-requires c = wants-same c.loop-k.invariant c.requires

pub loop-k-preserved : goal.loop-k-preserved
loop-k-preserved c =
    over-more (λ s f k. reasons_of_row s f (pair_at c.args.rows.now.scratch.now (2 * k))) c.loop-k.k c.loop-k.invariant
    (rw c.row.ensures at c.insist_row.ensures)
