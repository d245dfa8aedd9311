-- `types::duplicates::key` meets its contract.
-- Assumes nothing.
use Rattle.rules.specs.Base.{if'◌then◌else◌}
use Rattle.types.specs.Named.{key_of}
use Rattle.types.proofs.duplicates.key.Goals as goal
use Rattle.types.proofs.duplicates.key.Goals.{then-is_free, else-is_free}

pub returns : goal.returns
unfolding key_of if'◌then◌else◌
returns c e =
    elim c.if-is_free.branch [
      | then-is_free w ↦ rw (w.self_type-is, e, ← c.is_free.ensures, w.if-is_free.true)
      | else-is_free w ↦ rw (w.self_type-is, e, ← c.is_free.ensures, w.if-is_free.false, w.self_type.ensures)
    ]
