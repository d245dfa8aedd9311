-- `all_rows` reads rows one after the other. The invariant: what is left of the step is the rows from r on, from here on, and, if row r stands here, the
-- keys and marks of the rows before it are kept.
-- Assumes nothing.
use Prim.Native.Nat.{ℕ, ◌-◌, ◌≤◌}
use mathlib.Core.Path.{◌≡◌}
use mathlib.Core.List.{List}
use Rattle.rules.specs.Format.{each, row_at, offset}
use Rattle.sheet.specs.declared.fresh_rows.KeptKeys.{KeptKeys}
use Rattle.sheet.specs.Keys.{Kept}
use Rattle.sheet.proofs.row_steps.all_rows.Given as goal

pub record Reading (s : List ℕ) (n at : ℕ) (keys : KeptKeys) (here r : ℕ) : Type 0 where
  pub left : each (row_at s) n 0 at ≡ each (row_at s) (n - r) r here
  pub within : r ≤ n
  pub kept : offset s r ≡ here → Kept s keys r

abbrev pub invariant-loop-r : goal.invariant-loop-r
invariant-loop-r l = Reading l.s l.n l.at l.keys l.here l.r
