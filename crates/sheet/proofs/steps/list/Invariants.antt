-- `list` is the step of that name. The invariant: what is left of the step is the pairs that are left, from here on.
-- Assumes nothing.
use Rattle.std.proofs.Common.{◌-◌, ◌≤◌, ◌≡◌}
use Rattle.rules.specs.Format.{list, times, limited}
use Rattle.sheet.proofs.steps.list.Given as goal

abbrev pub invariant-loop : goal.invariant-loop
invariant-loop l = (list l.s l.most l.why l.limit l.at ≡ times l.s (limited l.s l.why l.limit) (l.count - l.counter) l.here) × (l.counter ≤ l.count)
