-- `row_tables::wants::wanted` meets its contract: where the row has an entry, it is right.
-- Assumes nothing.
use native.Mathlib.Omega.{arith}
use Rattle.row_tables.proofs.wants.wanted.Goals as goal

pub offset_bounds-wants-r : goal.offset_bounds-wants-r
offset_bounds-wants-r c =
    let pre = c.requires in
    let few-rows = c.few_rows in
    omega (arith, few-rows.ensures, pre.few, c.if-r-few_rows.true)

pub bounds-wants-r : goal.bounds-wants-r
bounds-wants-r c =
    let pre = c.requires in
    let few-rows = c.few_rows in
    omega (arith, few-rows.ensures, pre.few, c.if-r-few_rows.true)

pub returns-then-r-few_rows : goal.returns-then-r-few_rows
returns-then-r-few_rows c =
    let pre = c.requires in
    let args = c.args in
    let few-rows = c.few_rows in
    let if1 = c.if-r-few_rows in
    pre.entries _ args.r (rw few-rows.ensures at if1.true)

pub returns : goal.returns
returns c = c.want.ensures
