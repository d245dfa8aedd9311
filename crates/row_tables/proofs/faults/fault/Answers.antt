-- `row_tables::faults::fault` meets its contract: each test that the code makes is that of the definition.
-- Assumes nothing.
use mathlib.Core.Path.{sym, ap, ◌∙◌}
use Rattle.std.specs.Prelude.{Some}
use Rattle.row_tables.specs.declared.faults.Misfit.TheVariants.{Unsized}
use Rattle.row_tables.proofs.FaultLaws.{fault-pointer, fault-branch, fault-none}
use Rattle.row_tables.proofs.faults.fault.Goals as goal

pub returns-then-is : goal.returns-then-is
returns-then-is c = fault-pointer _ _ _ (sym c.is.ensures ∙ c.if-is.true)

pub returns-then-is_unsized : goal.returns-then-is_unsized
returns-then-is_unsized c =
    ap (λ d. Some (Unsized d)) c.describe.ensures
    ∙ fault-branch _ _ _ (sym c.is.ensures ∙ c.if-is.false) (sym c.is_unsized.ensures ∙ c.if-is_unsized.true)

pub returns : goal.returns
returns c = fault-none _ _ _ (sym c.is.ensures ∙ c.if-is.false) (sym c.is_unsized.ensures ∙ c.if-is_unsized.false)
