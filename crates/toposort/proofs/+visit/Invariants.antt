-- `toposort::visit` meets its contract: the state is that of the definition's visit, at every depth that is enough. The invariant: the fields before
-- some k are done, and the word has the others that lead to a struct; the walk's state there has the loop's flag. The measure of a visit is the number
-- of items that are not marked; it falls, since an item is marked before its fields are visited.
-- Assumes nothing.
use Rattle.laws.specs.Left.{fresh}
use Rattle.toposort.specs.Leads.{table_graph}
use Rattle.toposort.proofs.Turns.{Visiting, put-ok}
use Rattle.toposort.proofs.+visit.Given as goal

abbrev pub decreases-visit : goal.decreases-visit
decreases-visit l = fresh l.w.marks

abbrev pub invariant-loop-field : goal.invariant-loop-field
invariant-loop-field l =
    let begun = put-ok l.initial.u l.initial.ok in
    Visiting (table_graph l.s l.leads) l.initial.cx l.initial.order l.i begun l.fields l.field-iterator.0 l.cx l.order (put-ok l.u l.ok)
