-- What a loop leaves that takes one step for each entry of a list.
-- Assumes nothing: these are definitions.
use Rattle.std.specs.Prelude.{◌≡◌}
use mathlib.Core.List.{List, foldl}

pub record Folded {A B : Type 0} (step : B → A → B) (before : B) (xs : List A) (after : B) : Type 0 where
  pub is : after ≡ foldl step before xs
