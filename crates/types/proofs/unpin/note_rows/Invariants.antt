-- `types::unpin::note_rows` notes the rows that are reasons, one after another. The invariant: those of the first k rows are noted.
-- Assumes nothing.
use Rattle.std.proofs.Common.{ℕ, Bool}
use Rattle.types.specs.Found.{Tells, rows_found, Noted}
use Rattle.types.proofs.unpin.note_rows.Given as goal

abbrev pub invariant-loop-k : goal.invariant-loop-k
invariant-loop-k g l =
    (test : ℕ → Bool) → Tells (goal.F-post g l.is_reason) test → Noted l.initial.reasons (rows_found l.s test l.collected.scratch.now l.k) l.reasons
