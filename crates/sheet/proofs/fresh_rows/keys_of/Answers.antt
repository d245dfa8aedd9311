use native.Mathlib.Omega.{arith}
use Rattle.sheet.proofs.FreshLaws.{key-more, key-end}
use Rattle.sheet.proofs.fresh_rows.keys_of.Goals as goal

pub loop-j-preserved : goal.loop-j-preserved
loop-j-preserved c =
    let both = c.loop-j.invariant in (
      key-more _ _ _ _ _ both.0 (omega arith) c.pair_at-p.ensures c.mix.ensures,
      key-more _ _ _ _ _ both.1 (omega arith) c.pair_at-p.ensures c.mix-in-loop-j.ensures,
    )

pub returns : goal.returns
returns c =
    let both = c.loop-j.invariant in
    record { low = key-end _ _ _ _ _ both.0 (omega arith); high = key-end _ _ _ _ _ both.1 (omega arith) }
