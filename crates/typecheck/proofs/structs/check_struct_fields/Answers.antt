-- `typecheck::structs::check_struct_fields` meets its contract: a turn goes to the next field that has a fault. Assumes nothing.
use Prim.Native.Nat.{◌+◌}
use mathlib.Core.Path.{sym, ◌∙◌}
use Rattle.std.specs.Prelude.{None}
use Rattle.std.proofs.Common.{rules}
use Rattle.errors.specs.Sink.{start, turn}
use Rattle.typecheck.proofs.Faulty.{fields_in, all_left, fault-is, next-fault, less-left, to-next, to_end, not_untold}
use Rattle.typecheck.proofs.structs.check_struct_fields.Goals as goal

pub telling-faulty-requires : goal.telling-faulty-requires
telling-faulty-requires c = (search rules, fields_in _ _ c.requires c.rest-at.ensures c.pair_at-n.ensures)

pub loop-j-init : goal.loop-j-init
loop-j-init c =
    let all = all_left _ _ c.requires c.rest-at.ensures c.pair_at-n.ensures c.args.faults.now in
    (0, all cc (c.into_iter-j-iterator.ensures.into_iter_gives, c.telling-faulty.ensures), start _ _)

pub said-requires : goal.said-requires
said-requires c =
    let f = c.loop-j.invariant.1 in
    (search rules, f.list.entries c.in-Some.j (next-fault f c.in-Some.ensures.steps).within)

pub loop-j-preserved-in-Some-said : goal.loop-j-preserved-in-Some-said
loop-j-preserved-in-Some-said c =
    let f = c.loop-j.invariant.1 in
    let next = next-fault f c.in-Some.ensures.steps in
    let fault = sym c.in-Some-said.is ∙ c.said.ensures None ∙ fault-is f c.in-Some.j next.within in
    (c.in-Some.j + 1, less-left f next, turn _ _ (to-next f c.loop-j.invariant.2 next) (rw fault at c.check_struct_field.ensures))

pub loop-j-preserved : goal.loop-j-preserved
loop-j-preserved c =
    let f = c.loop-j.invariant.1 in
    elim (not_untold f (next-fault f c.in-Some.ensures.steps) (sym (c.said.ensures None) ∙ c.in_default.is)) [ ]

pub returns : goal.returns
returns c = to_end c.loop-j.invariant.1 c.loop-j.invariant.2 c.in-None.ensures.steps
