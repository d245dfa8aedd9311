-- `row_tables::leads::leads` meets its contract: each entry is what `lead` says of its row.
-- Assumes nothing.
use Rattle.std.proofs.Common.{ap, arith, ◌∙◌, rules, of_calls, ◌≡◌, None}
use Rattle.rules.specs.Types.{Types}
use Rattle.laws.proofs.Sheet.Accepted.Sheet.{sheet-of}
use Rattle.names.specs.Known.{tabled}
use Rattle.row_tables.specs.Tables.{lead_of}
use Rattle.row_tables.proofs.LeadLaws.{lead-own}
use Rattle.row_tables.proofs.Made.{made-alone}
use Rattle.row_tables.proofs.leads.leads.Goals as goal

pub upward-requires : goal.upward-requires
upward-requires c = (omega arith, (rw c.rows.ensures (sheet-of _ c.requires.accepted).few-rows, search of_calls))

pub returns : goal.returns
returns c =
    let s = c.args.known.now.s.now in
    let t = tabled s c.args.known.now.names.now in
    let few = (sheet-of s c.requires.accepted).few-rows in
    made-alone _ _ (λ x. x) None _ few _ (rw c.rows.ensures at c.upward.ensures) _ (λ b r v l k.
    let e : v ≡ lead_of s t r = search rules in
    e ∙ ap (λ (x : Types). lead_of s x r) c.requires.own ∙ lead-own s c.requires.accepted r)
