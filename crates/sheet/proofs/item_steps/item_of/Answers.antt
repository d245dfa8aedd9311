-- `item_of` is the step `item_of`: by the kind.
-- Assumes nothing.
use Rattle.std.proofs.Common.{inl, inr}
use Rattle.rules.specs.Format.{item_of, item_kinds}
use Rattle.sheet.proofs.item_steps.item_of.Goals as goal

pub returns-in-Enum : goal.returns-in-Enum
returns-in-Enum c = rw c.in-Enum.is c.enum_of.ensures

pub returns-in-CxxType : goal.returns-in-CxxType
unfolding item_of item_kinds
returns-in-CxxType c = elim c.in-CxxType.is [ inl e ↦ rw e (c.extern_type_of.ensures 0) | inr e ↦ rw e (c.extern_type_of.ensures 0) ]
