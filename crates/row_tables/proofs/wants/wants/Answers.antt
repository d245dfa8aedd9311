-- `row_tables::wants::wants` meets its contract: each entry is what `want` says of its row.
-- Assumes nothing.
use Rattle.std.proofs.Common.{arith, rules, of_calls, ◌≤◌, min, None}
use Rattle.row_tables.specs.Tables.{one_of}
use Rattle.rules.specs.View.{rows}
use Rattle.row_tables.proofs.Made.{made-alone}
use Rattle.row_tables.proofs.wants.wants.Goals as goal

pub upward-requires : goal.upward-requires
upward-requires c = (omega arith, (omega (arith, c.few_rows.ensures), search of_calls))

pub returns : goal.returns
returns c =
    let few : min (rows c.args.known.now.s.now) 1024 ≤ 1024 = omega arith in
    made-alone _ _ one_of None _ few _ (rw c.few_rows.ensures at c.upward.ensures) _ (λ b r v l k. search rules)
