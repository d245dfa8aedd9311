-- `types::duplicates::duplicate` meets its contract.
-- Assumes nothing.
use mathlib.Core.Path.{sym, ◌∙◌}
use Rattle.types.proofs.Naming.{is_function_lem}
use Rattle.types.proofs.Duplicated.{of-type, of_function, of_other}
use Rattle.types.proofs.duplicates.duplicate.Goals as goal

pub returns-then-is_type : goal.returns-then-is_type
returns-then-is_type c = of-type c.requires.item c.is_type.ensures c.if-is_type.true c.duplicate_type.ensures

pub duplicate_function-requires : goal.duplicate_function-requires
duplicate_function-requires c = record {
  accepted = c.requires.item.accepted;
  below = c.requires.item.below;
  is_function = sym (is_function_lem c.requires.item c.is_function.ensures) ∙ c.if-is_function.true;
  name = c.requires.item.name;
  keys = c.requires.keys;
}

pub returns-then-is_function : goal.returns-then-is_function
returns-then-is_function c =
    of_function c.requires.item c.is_type.ensures c.if-is_type.false c.is_function.ensures c.if-is_function.true c.duplicate_function.ensures

pub returns : goal.returns
returns c = of_other c.requires.item c.is_type.ensures c.if-is_type.false c.is_function.ensures c.if-is_function.false
