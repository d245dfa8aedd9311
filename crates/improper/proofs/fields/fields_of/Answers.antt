-- `improper::fields::fields_of` meets its contract: what the sheet says of the item that the table of names has for it.
-- Assumes nothing.
use Rattle.std.proofs.Common.{sym, ◌∙◌, refl}
use Rattle.laws.proofs.Base.Counts.{eqb-false}
use Rattle.rules.specs.Numbers.{no_item}
use Rattle.rules.specs.Types.{struct_of}
use Rattle.rules.proofs.KindLaws.{of_none, of_some}
use Rattle.improper.proofs.PassTurns.{fields-none, fields-of}
use Rattle.improper.proofs.fields.fields_of.Goals as goal

pub returns-in_default : goal.returns-in_default
returns-in_default c = λ looks given.
    fields-none c.args.known.now.s.now c.args.known.now.names.now looks given c.args.n _ refl 0
    (of_none no_item (struct_of _ _) (sym c.in_default.is ∙ c.struct_of.ensures))

pub returns : goal.returns
returns c = λ looks given.
    let is = of_some no_item (struct_of _ _) (sym c.in-Some.is ∙ c.struct_of.ensures) in
    fields-of c.args.known.now.s.now c.args.known.now.names.now looks given c.args.n _ (sym is.0) (λ e. eqb-false _ _ is.1 (is.0 ∙ e)) _ _
    c.rest-at.ensures c.pair_at-count.ensures
