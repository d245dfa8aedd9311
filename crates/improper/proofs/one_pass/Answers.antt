use Rattle.std.proofs.Common.{rules, ◌≡◌, refl, sym, ap, ◌∙◌, arith}
use Rattle.rules.specs.Improper.{hits}
use Rattle.row_tables.specs.declared.looks.Look.TheVariants.{Proper}
use Rattle.row_tables.specs.Tables.{look_of}
use Rattle.improper.proofs.PassTurns.{found-start, found-on, found-hit, passes_none, passes-had, passes-not, passes-new}
use Rattle.improper.proofs.Later.{still-out, skipped_by}
use Rattle.improper.proofs.one_pass.Goals as goal

-- ## A name that is not looked at

pub structs-init : goal.structs-init
structs-init c = passes_none _ _

pub structs-preserved-then-contains : goal.structs-preserved-then-contains
structs-preserved-then-contains c = passes-had _ _ _ _ _ c.structs.invariant (sym c.contains.ensures ∙ c.if-contains.true)

pub structs-preserved-then-skips : goal.structs-preserved-then-skips
structs-preserved-then-skips c =
    let not_in = sym c.contains.ensures ∙ c.if-contains.false in
    let was-out = still-out c.args.known.now.s.now _ c.requires.size _ _ c.structs.n (omega arith) c.structs.invariant c.structs.n not_in in
    let f = skipped_by c.args.known.now.s.now _ _ _ c.structs.n c.requires.later (c.skips.ensures c.if-skips.true) (omega arith) was-out in
    passes-not _ _ _ _ _ c.structs.invariant not_in f

-- ## Its fields

pub loop-k-init : goal.loop-k-init
loop-k-init c = (refl, refl, found-start _ _ _)

pub said-requires : goal.said-requires
said-requires c =
    let fields = c.fields_of-fields.ensures _ c.requires.given in
    (search rules, record { inside = fields.inside _ c.loop-k-test.true; row = fields.small _ _ refl c.loop-k-test.true })

pub structs-preserved-then-hits : goal.structs-preserved-then-hits
structs-preserved-then-hits c =
    let fields = c.fields_of-fields.ensures _ c.requires.given in
    let look-is = ap look_of (c.said.ensures Proper) ∙ fields.look Proper _ _ refl c.loop-k-test.true in
    let is = c.hits.ensures ∙ ap (hits c.loop-k.set.words) look-is in
    let hit = rw c.loop-k.invariant.0 at (sym is ∙ c.if-hits.true) in
    let f = found-hit _ c.structs.set.words _ c.loop-k.k _ (omega (arith, fields.count, c.loop-k-test.true)) hit in
    let passed = passes-new _ _ _ _ _ c.structs.invariant (sym c.contains.ensures ∙ c.if-contains.false) f in
    rw (c.insert.ensures, c.loop-k.invariant.0) passed

pub loop-k-preserved : goal.loop-k-preserved
loop-k-preserved c =
    let fields = c.fields_of-fields.ensures _ c.requires.given in
    let look-is = ap look_of (c.said.ensures Proper) ∙ fields.look Proper _ _ refl c.loop-k-test.true in
    let is = c.hits.ensures ∙ ap (hits c.loop-k.set.words) look-is in
    (c.loop-k.invariant.0, c.loop-k.invariant.1, found-on _ _ _ _ c.loop-k.invariant.2 (sym is ∙ c.if-hits.false))

-- ## A name whose fields are all proper

pub structs-preserved : goal.structs-preserved
structs-preserved c =
    let fields = c.fields_of-fields.ensures _ c.requires.given in
    let all : c.loop-k.k ≡ c.fields_of-fields.result.count = omega arith in
    let f = rw (all ∙ fields.count, c.loop-k.invariant.0) at c.loop-k.invariant.2 in
    rw (c.loop-k.invariant.0, c.loop-k.invariant.1)
    (passes-not _ _ _ _ _ c.structs.invariant (sym c.contains.ensures ∙ c.if-contains.false) f)

pub returns : goal.returns
returns c =
    let e : c.structs.n ≡ 256 = omega arith in
    rw e at c.structs.invariant
