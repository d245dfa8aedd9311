-- `scratch::Rows::push` meets its contract: a row that was not seen leaves room for it.
-- Assumes nothing.
use mathlib.Core.Path.{refl}
use lib.ListN.{length-set}
use Rattle.scratch.proofs.Stored.{add-room, added}
use Rattle.scratch.proofs.Rows.push.Goals as goal

pub put-requires : goal.put-requires
put-requires c =
    let p = c.requires in
    (add-room p, p.long)

pub returns : goal.returns
returns c = record { grown = rw (c.mark.ensures, c.put.ensures) (added c.requires); long = rw (c.mark.ensures, c.put.ensures) (simp length-set); same = refl }
