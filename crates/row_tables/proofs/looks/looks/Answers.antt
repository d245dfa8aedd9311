-- `row_tables::looks::looks` meets its contract: each entry is what `look_row` says of its row by the entries of smaller rows.
-- Assumes nothing.
use Rattle.std.proofs.Common.{arith, rules, of_calls}
use Rattle.rules.specs.Improper.{look_row}
use Rattle.laws.specs.RowSteps.{look_step}
use Rattle.laws.proofs.Sheet.Accepted.Sheet.{sheet-of}
use Rattle.laws.proofs.Rows.Fuel.{look_up}
use Rattle.names.specs.Known.{tabled}
use Rattle.row_tables.specs.declared.looks.Look.TheVariants.{Proper}
use Rattle.row_tables.specs.Tables.{look_of}
use Rattle.row_tables.proofs.Made.{made-says}
use Rattle.row_tables.proofs.looks.looks.Goals as goal

pub upward-requires : goal.upward-requires
upward-requires c = (omega arith, (rw c.rows.ensures (sheet-of _ c.requires).few-rows, search of_calls))

pub returns : goal.returns
returns c =
    let s = c.args.known.now.s.now in
    let t = tabled s c.args.known.now.names.now in
    let few = (sheet-of s c.requires).few-rows in
    made-says _ _ look_of Proper _ few _ (rw c.rows.ensures at c.upward.ensures) (look_row s t) (look_step s t) (look_up s c.requires t)
    (λ b r v l k. search rules)
