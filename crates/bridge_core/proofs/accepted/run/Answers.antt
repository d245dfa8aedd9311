-- `bridge_core::accepted::run` meets its contract: what the steps ensure is put together by Whole.antt.
-- Assumes nothing.
use native.Mathlib.Omega.{arith}
use borrow.Author.Rules.{rules}
use mathlib.Core.Path.{◌∙◌, refl}
use Rattle.toposort.proofs.Callers.{plain-led, plain-few, plain-ordered}
use Rattle.bridge_core.proofs.Whole.{given, len-few, checked}
use Rattle.bridge_core.proofs.accepted.run.Goals as goal

pub leads-led-requires : goal.leads-led-requires
leads-led-requires c = record { accepted = c.requires.accepted; own = c.collect-gathered.ensures.known }

pub sort-sorted-requires : goal.sort-sorted-requires
sort-sorted-requires c = plain-led c.leads-led.ensures c.requires.accepted

pub shared_ref_as_front-tiers : goal.shared_ref_as_front-tiers
shared_ref_as_front-tiers c = plain-few c.leads-led.ensures c.sort-sorted.ensures c.requires.accepted

pub tiers-tiers-requires : goal.tiers-tiers-requires
tiers-tiers-requires c =
    let led = c.leads-led.ensures in
    record { led = plain-led led c.requires.accepted; ordered = plain-ordered led c.sort-sorted.ensures c.requires.accepted }

pub looks-looked-requires : goal.looks-looked-requires
looks-looked-requires c = c.requires.accepted

pub search-improper-requires : goal.search-improper-requires
search-improper-requires c = record { accepted = c.requires.accepted; own = c.collect-gathered.ensures.known; rows = c.looks-looked.ensures }

pub do_typecheck-requires : goal.do_typecheck-requires
do_typecheck-requires c = given c.collect-gathered.ensures c.requires.accepted

pub clear-requires : goal.clear-requires
clear-requires c = omega (arith, c.collect-gathered.ensures.same, c.requires.long)

pub overflow_cast-structs : goal.overflow_cast-structs
overflow_cast-structs c =
    let few = len-few c.collect-gathered.ensures c.requires.accepted c.leads-led.ensures c.sort-sorted.ensures c.do_typecheck.ensures in
    omega (arith, few)

pub shape_of-scratch : goal.shape_of-scratch
shape_of-scratch c = c.clear.auto.scratch ∙ c.collect-gathered.auto.scratch

pub returns : goal.returns
returns c =
    checked c.collect-gathered.ensures c.requires.accepted c.leads-led.ensures c.sort-sorted.ensures c.do_typecheck.ensures
    refl c.tiers-tiers.ensures c.search-improper.ensures c.clear.ensures c.accepted.ensures
    (search (rules, c.collect-gathered.ensures.errors.same, c.sort-sorted.ensures.same, c.do_typecheck.ensures.same))
