-- `Known::is_extern` is `is_extern` of the rules: in cxx, no struct, no enum, asked in this order.
-- Assumes nothing.
use mathlib.Core.Path.{sym, ◌∙◌}
use borrow.Author.Tests.{not-true, not-false}
use Rattle.names.proofs.Askers.{extern-not-cxx, extern-not-struct, extern-enum}
use Rattle.names.proofs.known.Known.is_extern.Goals as goal
use Rattle.names.proofs.known.Known.is_extern.Goals.{then-is_cxx, else-is_cxx}

pub returns-then-not-is_struct : goal.returns-then-not-is_struct
returns-then-not-is_struct c = elim c.if-is_cxx.branch [
  | then-is_cxx w ↦
      extern-enum _ _ (c.is_cxx.ensures) w.if-is_cxx.true (w.is_struct.ensures) (not-true _ (sym w.value-is ∙ c.if-not-is_struct.true))
      (c.is_enum.ensures)
  | else-is_cxx w ↦ cc
]

pub returns-else-not-is_struct : goal.returns-else-not-is_struct
returns-else-not-is_struct c = elim c.if-is_cxx.branch [
  | then-is_cxx w ↦
      c.if-not-is_struct.false
      ∙ extern-not-struct _ _ (c.is_cxx.ensures) w.if-is_cxx.true (w.is_struct.ensures) (not-false _ (sym w.value-is ∙ c.if-not-is_struct.false))
  | else-is_cxx w ↦ c.if-not-is_struct.false ∙ extern-not-cxx _ _ (c.is_cxx.ensures) w.if-is_cxx.false
]
