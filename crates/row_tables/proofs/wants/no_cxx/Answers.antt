-- `row_tables::wants::no_cxx` meets its contract: where the search finds no name, each is in no cxx, whatever the sheet.
-- Assumes nothing.
use Rattle.std.proofs.Common.{refl, rules, ◌≡◌, ◌∙◌, false}
use Rattle.std.specs.Bool.{⊤}
use Rattle.std.proofs.lemmas.Iterator.{YieldsList-from_range, cases_from_any}
use Rattle.rules.specs.Types.{is_cxx}
use Rattle.names.specs.AnySheet.{cxx-alone}
use Rattle.names.specs.Known.{types}
use Rattle.row_tables.proofs.WantLaws.{none_found}
use Rattle.row_tables.proofs.wants.no_cxx.Goals as goal

pub returns : goal.returns
returns c none s n =
    let known = c.args.known.now in
    let own =
    none_found known.s.now known.names.now _ refl _ _ (
    cases_from_any _ _ _ (λ y. ⊤) (λ y. is_cxx (types known) y ≡ false) c.any.ensures.ran (YieldsList-from_range 0 256 256 refl refl)
    (λ x q k. search rules) (λ x q k. search rules)
    )
    in
    cxx-alone s known.s.now known.names.now n ∙ own none n
