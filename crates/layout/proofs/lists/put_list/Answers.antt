use mathlib.Core.Path.{ap}
use native.Mathlib.Omega.{arith}
use borrow.Author.Rules.{rules}
use Rattle.errors.proofs.Stores.{sized, meant}
use Rattle.layout.proofs.Laws.{start, turn}
use Rattle.layout.proofs.lists.put_list.Goals as goal

pub loop-k-init : goal.loop-k-init
loop-k-init g c = sized (start g.T.Entry.entry_bytes _ _) (omega arith)

pub loop-k-preserved : goal.loop-k-preserved
loop-k-preserved g c =
    let entry = meant (rw c.SIZE.ensures at c.put.ensures) (ap g.T.Entry.entry_bytes c.index-list-k.is) in
    turn g.T.Entry.entry_bytes c.args.list.now _ (search rules) c.loop-k.invariant entry (omega arith)
