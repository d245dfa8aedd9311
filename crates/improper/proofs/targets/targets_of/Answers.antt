use Rattle.std.proofs.Common.{refl, arith, rules, length, ap, sym, ◌∙◌}
use Rattle.row_tables.specs.declared.looks.Look.TheVariants.{Proper}
use Rattle.row_tables.specs.Tables.{look_of}
use Rattle.improper.proofs.TargetLaws.{leads-on, took-name, took-none}
use Rattle.improper.proofs.targets.targets_of.Goals as goal

pub loop-k-init : goal.loop-k-init
loop-k-init c = (ap length c.empty-set.ensures, λ x j l h. absurd (omega arith))

pub said-requires : goal.said-requires
said-requires c =
    let fields = c.fields_of-fields.ensures _ c.requires in
    (search rules, record { inside = fields.inside _ c.loop-k-test.true; row = fields.small _ _ refl c.loop-k-test.true })

pub loop-k-preserved-in_default : goal.loop-k-preserved-in_default
loop-k-preserved-in_default c =
    let look = ap look_of (c.said.ensures Proper) ∙ (c.fields_of-fields.ensures _ c.requires).look Proper _ _ refl c.loop-k-test.true in
    (c.loop-k.invariant.0, leads-on _ _ _ _ _ _ c.loop-k.invariant.1 (took-none _ _ c.in_default.not-Name c.loop-k.invariant.0) look)

pub loop-k-preserved : goal.loop-k-preserved
loop-k-preserved c =
    let look = ap look_of (c.said.ensures Proper) ∙ (c.fields_of-fields.ensures _ c.requires).look Proper _ _ refl c.loop-k-test.true in
    let took = took-name _ _ (omega arith) c.put.ensures c.loop-k.invariant.0 in
    (took.long, leads-on _ _ _ _ _ _ c.loop-k.invariant.1 took (ap look_of (sym c.in-Name.is) ∙ look))

pub returns : goal.returns
returns c = record { has = λ k j l e. c.loop-k.invariant.1 k j (omega (arith, l, (c.fields_of-fields.ensures _ c.requires).count, c.loop-k-test.false)) e }
