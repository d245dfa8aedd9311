-- `layout::parts::put_header` stores verdict, total and count one after another.
-- Assumes nothing.
use Rattle.layout.specs.Layout.{header_bytes}
use Rattle.errors.proofs.Stores.{also}
use Rattle.layout.proofs.parts.put_header.Goals as goal

pub returns : goal.returns
unfolding header_bytes
returns c = also (also c.put_verdict.ensures c.put_low.ensures) c.put_low-2.ensures
