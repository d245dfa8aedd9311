-- `typecheck::structs::check_struct_fields` meets its contract: the fields before some k have given their messages, and the word has the faults of the others.
-- Assumes nothing.
use Prim.Native.Nat.{ℕ}
use Rattle.rules.specs.Base.{over}
use Rattle.errors.specs.Sink.{Reported}
use Rattle.typecheck.proofs.Faulty.{FaultsLeft, field_says}
use Rattle.typecheck.proofs.structs.check_struct_fields.Given as goal

abbrev pub invariant-loop-j : goal.invariant-loop-j
invariant-loop-j l =
    (k : ℕ)
    × FaultsLeft l.s l.faults l.i l.at l.n k l.j-iterator.0
    × Reported l.initial.cx (over k (field_says l.s l.faults l.i)) l.cx
