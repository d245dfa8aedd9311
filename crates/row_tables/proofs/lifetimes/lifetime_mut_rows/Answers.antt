-- `row_tables::lifetimes::lifetime_mut_rows` meets its contract: each entry is what `is_mut_row` says of its row by the entries of smaller rows.
-- Assumes nothing.
use Rattle.std.proofs.Common.{arith, false, rules, of_calls}
use Rattle.rules.specs.Check.{find_lifetime_mut}
use Rattle.laws.specs.RowSteps.{mut_step}
use Rattle.laws.proofs.Sheet.Accepted.Sheet.{sheet-of}
use Rattle.laws.proofs.Rows.Fuel.{mut-up}
use Rattle.names.specs.Known.{tabled}
use Rattle.row_tables.proofs.Made.{made-says}
use Rattle.row_tables.proofs.lifetimes.lifetime_mut_rows.Goals as goal

pub upward-requires : goal.upward-requires
upward-requires c = (omega arith, (rw c.rows.ensures (sheet-of _ c.requires).few-rows, search of_calls))

pub returns : goal.returns
returns c =
    let s = c.args.known.now.s.now in
    let t = tabled s c.args.known.now.names.now in
    let few = (sheet-of s c.requires).few-rows in
    made-says _ _ (λ b. b) false _ few _ (rw c.rows.ensures at c.upward.ensures) (find_lifetime_mut s t) (mut_step s t) (mut-up s c.requires t)
    (λ b r v l k. search rules)
