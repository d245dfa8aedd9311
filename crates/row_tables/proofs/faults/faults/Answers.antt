-- `row_tables::faults::faults` meets its contract: each entry is what `fault` says of its row.
-- Assumes nothing.
use Rattle.std.proofs.Common.{arith, ◌∙◌, rules, of_calls, ◌≡◌, None}
use Rattle.laws.specs.RowTable.{marked}
use Rattle.laws.proofs.Sheet.Accepted.Sheet.{sheet-of}
use Rattle.names.specs.Known.{tabled}
use Rattle.row_tables.specs.Tables.{fault_by}
use Rattle.row_tables.proofs.FaultLaws.{fault-sized}
use Rattle.row_tables.proofs.Made.{made-alone}
use Rattle.row_tables.proofs.faults.faults.Goals as goal

pub upward-requires : goal.upward-requires
upward-requires c = (omega arith, (rw c.rows.ensures (sheet-of _ c.requires.accepted).few-rows, search of_calls))

pub returns : goal.returns
returns c =
    let s = c.args.known.now.s.now in
    let t = tabled s c.args.known.now.names.now in
    let few = (sheet-of s c.requires.accepted).few-rows in
    made-alone _ _ (λ x. x) None _ few _ (rw c.rows.ensures at c.upward.ensures) _ (λ b r v l k.
    let e : v ≡ fault_by s t (marked c.args.sizes.now) r = search rules in
    e ∙ fault-sized s t c.requires.right r l)
