-- `replay::port::put_records` stores the bytes of records. The loop's invariant: the first k are stored.
-- Assumes nothing.
use Rattle.std.proofs.Common.{◌*◌, ◌≡◌, length, take}
use mathlib.Core.List.{flat_map}
use Rattle.rules.specs.Numbers.{answer_size}
use Rattle.errors.specs.Bytes.{Stored}
use Rattle.errors.specs.Records.{record_bytes}
use Rattle.replay.proofs.port.put_records.Given as goal

abbrev pub invariant-loop-k : goal.invariant-loop-k
invariant-loop-k l = (length l.out ≡ length l.initial.out) × Stored l.initial.out answer_size (8 * l.k) (flat_map record_bytes (take l.k l.list)) l.out
