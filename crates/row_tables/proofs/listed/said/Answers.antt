-- `said` reads the table at the list's entry, which is one of its 1,024.
-- Assumes nothing.
use Rattle.std.proofs.Common.{arith, ap, ◌∙◌, ℕ, get_or}
use Rattle.std.proofs.lemmas.List.{get_or_default}
use Rattle.row_tables.proofs.listed.said.Goals as goal

pub returns : goal.returns
returns g c =
    λ x. get_or_default c.args.table.now c.entry_within-row.result _ x (omega (arith, c.type_inv.table, c.entry_within-row.ensures, c.requires.row))
    ∙ ap (λ (r : ℕ). get_or c.args.table.now r x) c.entry_within-row.ensures
