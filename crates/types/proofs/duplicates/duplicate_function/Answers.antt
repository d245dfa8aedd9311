-- `types::duplicates::duplicate_function` meets its contract: the table of functions says what the rules say of all functions before.
-- Assumes nothing.
use mathlib.Core.Path.{sym, ◌∙◌}
use Rattle.types.proofs.Keys.{key-small, function-self, function-known}
use Rattle.types.proofs.duplicates.duplicate_function.Goals as goal

pub is_known-requires : goal.is_known-requires
is_known-requires c = rw (c.key.ensures c.requires.name) (key-small _ c.requires.accepted _ c.requires.below c.requires.is_function)

pub returns-then-not-of_self : goal.returns-then-not-of_self
returns-then-not-of_self c =
    c.is_known.ensures ∙ function-known _ c.requires.accepted _ c.requires.below c.requires.is_function (sym c.of_self.ensures ∙ c.if-not-of_self.true)
    c.requires.keys
    (c.key.ensures c.requires.name)

pub returns-else-not-of_self : goal.returns-else-not-of_self
returns-else-not-of_self c = rw c.if-not-of_self.false (function-self _ _ (sym c.of_self.ensures ∙ c.if-not-of_self.false))
