-- `types::unpin::required_unpin_reasons` meets its contract: without a name in cxx nothing is found; else three loops note one after another.
-- Assumes nothing.
use borrow.Author.Rules.{rules}
use Rattle.names.specs.Known.{types}
use Rattle.rules.specs.Unpin.{is_mut_slice, is_mut_ref}
use Rattle.types.proofs.Folding.{fold-then}
use Rattle.types.proofs.Noting.{none_found, noted-all}
use Rattle.types.proofs.unpin.required_unpin_reasons.Goals as goal

pub returns-then-no_cxx : goal.returns-then-no_cxx
returns-then-no_cxx c =
    let known = c.args.known.now in
    let rows = c.args.collected.now in
    none_found known.s.now (types known) (c.no_cxx.ensures c.if-no_cxx.true known.s.now) rows.scratch.now rows.count

pub returns : goal.returns
returns c =
    let s = c.args.known.now.s.now in
    let t = types c.args.known.now in
    let slices = c.note_rows.ensures (is_mut_slice s t) (λ r b l p. search rules) in
    let refs = c.note_rows-2.ensures (is_mut_ref s t) (λ r b l p. search rules) in
    noted-all (fold-then (fold-then slices c.note_items.ensures) refs)
