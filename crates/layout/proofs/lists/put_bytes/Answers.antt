-- `layout::lists::put_bytes` stores a list of bytes and one more.
-- Assumes nothing.
use mathlib.Core.Path.{refl}
use native.Mathlib.Omega.{arith}
use Rattle.errors.proofs.Stores.{also, copied}
use Rattle.layout.proofs.lists.put_bytes.Goals as goal

pub returns : goal.returns
returns c = also (copied c.args.at c.copy_from_slice.ensures.after (omega arith)) (record { stored = refl; long = refl })
