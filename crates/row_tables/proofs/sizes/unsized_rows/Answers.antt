-- `row_tables::sizes::unsized_rows` meets its contract: each entry is what `is_unsized_row` says of its row by the entries of smaller rows.
-- Assumes nothing.
use Rattle.std.proofs.Common.{arith, false, rules, of_calls}
use Rattle.rules.specs.Check.{is_unsized_within, is_unsized}
use Rattle.laws.specs.RowSteps.{unsized_step}
use Rattle.laws.proofs.Sheet.Accepted.Sheet.{sheet-of}
use Rattle.laws.proofs.Rows.Fuel.{unsized-up}
use Rattle.names.specs.Known.{tabled}
use Rattle.row_tables.proofs.Made.{made-says}
use Rattle.row_tables.proofs.sizes.unsized_rows.Goals as goal

pub upward-requires : goal.upward-requires
upward-requires c = (omega arith, (rw c.rows.ensures (sheet-of _ c.requires).few-rows, search of_calls))

pub returns : goal.returns
unfolding is_unsized
returns c =
    let s = c.args.known.now.s.now in
    let t = tabled s c.args.known.now.names.now in
    let few = (sheet-of s c.requires).few-rows in
    made-says _ _ (λ b. b) false _ few _ (rw c.rows.ensures at c.upward.ensures) (is_unsized_within s t) (unsized_step s t) (unsized-up s c.requires t)
    (λ b r v l k. search rules)
