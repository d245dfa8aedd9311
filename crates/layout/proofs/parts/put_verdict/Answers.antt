-- `layout::parts::put_verdict` stores number, version, place of the records and position, one after another.
-- Assumes nothing.
use Rattle.errors.proofs.Stores.{meant, also}
use Rattle.layout.specs.Layout.{verdict_bytes}
use Rattle.layout.proofs.parts.put_verdict.Goals as goal

pub returns : goal.returns
unfolding verdict_bytes
returns c =
    meant (also (also c.put.ensures c.put_low.ensures) c.put_low-2.ensures)
    (rw (c.told-number.ensures.number, c.told-number.ensures.position))
