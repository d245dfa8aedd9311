-- `types::reasons::required_trivial_reasons` meets its contract.
-- Assumes nothing.
use borrow.Author.Rules.{rules}
use Prim.Native.Nat.{◌*◌}
use Rattle.rules.specs.Base.{over}
use Rattle.rules.specs.Format.{pair_at}
use Rattle.rules.specs.Trivial.{reasons_of_row}
use Rattle.names.specs.Known.{tabled}
use Rattle.row_tables.proofs.WantLaws.{nothing-wanted}
use Rattle.types.proofs.Counting.{all_nothing, counted-then, tally-as, wants-same}
use Rattle.types.proofs.reasons.required_trivial_reasons.Goals as goal

pub returns-then-no_cxx : goal.returns-then-no_cxx
returns-then-no_cxx c =
    let s = c.args.s.now in
    let w = c.args.names.now in
    let rows = c.args.rows.now in
    all_nothing s w (λ r. nothing-wanted s (tabled s w) r (c.no_cxx.ensures c.if-no_cxx.true s)) rows.scratch.now rows.count

pub insist_rows-requires : goal.insist_rows-requires
insist_rows-requires c = wants-same c.insist_items.ensures c.wants-wants.ensures

pub returns : goal.returns
returns c =
    let rows = c.args.rows.now in
    let all = counted-then (λ s f. over rows.count (λ k. reasons_of_row s f (pair_at rows.scratch.now (2 * k)))) c.insist_items.ensures c.insist_rows.ensures in
    tally-as all.names (search (rules, c.insist_items.ensures.same, c.insist_rows.ensures.same))
