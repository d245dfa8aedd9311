use mathlib.Core.Path.{refl, sym, ◌∙◌}
use native.Mathlib.Omega.{arith}
use Rattle.rules.proofs.KindLaws.{item_kind-past}
use Rattle.types.specs.Named.{keys_to}
use Rattle.types.proofs.Passing.{pass-start, pass-turn, pass-end, item-is, never-past}
use Rattle.types.proofs.Showing.{kind-of}
use Rattle.types.proofs.tables.collect_names.Goals as goal

pub loop-i-init : goal.loop-i-init
unfolding keys_to
loop-i-init c = pass-start c.requires refl

pub duplicate-again-requires : goal.duplicate-again-requires
duplicate-again-requires c =
    let h = item-is c.requires.accepted c.items-count.ensures c.loop-i-test.true (sym (kind-of c.item_kind.ensures c.in-Some.is)) c.item_name-n.ensures in
    record { item = h; names = c.loop-i.invariant.names; keys = c.loop-i.invariant.keys }

pub enter_item-requires : goal.enter_item-requires
enter_item-requires c =
    let h = item-is c.requires.accepted c.items-count.ensures c.loop-i-test.true (sym (kind-of c.item_kind.ensures c.in-Some.is)) c.item_name-n.ensures in
    record { item = h; names = c.loop-i.invariant.names }

pub enter_function-requires : goal.enter_function-requires
enter_function-requires c =
    let h = item-is c.requires.accepted c.items-count.ensures c.loop-i-test.true (sym (kind-of c.item_kind.ensures c.in-Some.is)) c.item_name-n.ensures in
    record { item = h; keys = c.loop-i.invariant.keys }

pub loop-i-preserved : goal.loop-i-preserved
loop-i-preserved c =
    pass-turn c.loop-i.invariant c.duplicate-again.ensures c.error_if.ensures c.enter_item.ensures
    c.enter_function.ensures

pub loop-i-preserved-in_default : goal.loop-i-preserved-in_default
loop-i-preserved-in_default c =
    never-past c.requires.accepted c.items-count.ensures c.loop-i-test.true (item_kind-past _ (sym c.item_kind.ensures ∙ c.in_default.is))

pub returns : goal.returns
returns c = pass-end c.loop-i.invariant (omega (arith, c.loop-i-test.false, c.loop-i.auto.i-end, c.items-count.ensures))
