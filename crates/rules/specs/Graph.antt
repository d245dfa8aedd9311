-- What the walk over struct items goes through: items and where their fields lead.
-- Assumes nothing: these are definitions.
use Rattle.std.specs.Prelude.{Bool, ℕ}

-- item i has `fields i` fields, and field k of it leads to item `to i k`, or nowhere, which is 255
pub record Graph : Type 0 where
  pub struct : ℕ → Bool
  pub fields : ℕ → ℕ
  pub to : ℕ → ℕ → ℕ
