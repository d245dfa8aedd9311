-- `types::duplicates::duplicate_type` meets its contract: the rule, test by test, asked of the table as of item i.
-- Assumes nothing.
use Rattle.types.proofs.Duplicated.{type-new, type-old}
use Rattle.types.proofs.duplicates.duplicate_type.Goals as goal

pub returns-then-not-is_declared : goal.returns-then-not-is_declared
returns-then-not-is_declared c = type-new c.requires c.is_declared.ensures c.if-not-is_declared.true

pub returns : goal.returns
returns c =
    type-old c.requires c.is_declared.ensures c.if-not-is_declared.false c.is_struct-structs.ensures c.is_enum-enums.ensures c.is_cxx-cxx.ensures
    c.clashes.ensures
