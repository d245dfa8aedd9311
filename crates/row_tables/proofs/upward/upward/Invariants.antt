-- `row_tables::upward::upward` meets its contract: the table is made for the rows below r.
-- Assumes nothing.
use Rattle.std.proofs.Common.{◌≡◌, length}
use Rattle.row_tables.specs.Upward.{MadeUpward}
use Rattle.row_tables.proofs.upward.upward.Given as goal

abbrev pub invariant-loop-r : goal.invariant-loop-r
invariant-loop-r g l = (length l.table ≡ 1024) × MadeUpward g.F.Fn l.step l.r l.fn.none l.table
