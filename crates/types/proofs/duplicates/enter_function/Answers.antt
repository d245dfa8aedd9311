-- `types::duplicates::enter_function` meets its contract.
-- Assumes nothing.
use mathlib.Core.Path.{sym, ◌∙◌}
use Rattle.types.proofs.Keys.{key-small, keys_none, keys-more}
use Rattle.types.proofs.Naming.{is_function_lem}
use Rattle.types.proofs.Duplicated.{enters_none, enters-self, enters-some}
use Rattle.types.proofs.duplicates.enter_function.Goals as goal
use Rattle.types.proofs.duplicates.enter_function.Goals.{
  else-is_function-via-then-is_function+else-not-of_self,
  else-is_function-via-else-is_function,
}

pub learn-requires : goal.learn-requires
learn-requires c =
    rw (c.key.ensures c.requires.item.name)
    (key-small _ c.requires.item.accepted _ c.requires.item.below
    (sym (is_function_lem c.requires.item c.is_function.ensures) ∙ c.if-is_function.true))

pub returns-then-not-of_self : goal.returns-then-not-of_self
returns-then-not-of_self c =
    let e = enters-some c.requires.item c.is_function.ensures c.if-is_function.true c.of_self.ensures c.if-not-of_self.true in
    keys-more _ _ e c.requires.keys (c.key.ensures c.requires.item.name) c.learn.ensures

pub returns-else-is_function : goal.returns-else-is_function
returns-else-is_function c =
    elim c.else-is_function.branch [
      | else-is_function-via-then-is_function+else-not-of_self w ↦
          keys_none _ _ (enters-self c.requires.item c.is_function.ensures w.if-is_function.true w.of_self.ensures w.if-not-of_self.false) c.requires.keys
      | else-is_function-via-else-is_function w ↦
          keys_none _ _ (enters_none c.requires.item c.is_function.ensures w.if-is_function.false) c.requires.keys
    ]
