use mathlib.Core.Path.{sym, ◌∙◌, ap}
use Prim.Native.Nat.{◌-◌, ◌/◌, ◌<◌}
use mathlib.Core.List.{List}
use lib.ListN.{length, set}
use native.Mathlib.Omega.{arith}
use Rattle.rules.specs.declared.Diagnostic.{Diagnostic}
use Rattle.windows.proofs.Stores.{over-start, over-one, over-end}
use Rattle.bridge.proofs.store.Goals as goal

pub loop-i-init : goal.loop-i-init
loop-i-init c = sym (over-start c.args.list.now c.args.at c.args.bytes.now)

pub loop-i-preserved : goal.loop-i-preserved
loop-i-preserved c =
    let at = c.args.at in
    let i = c.loop-i.i in
    let bytes = c.args.bytes.now in
    let inside : i - at < length bytes / 8 = omega (arith, c.end-end.ensures) in
    ap (λ (l : List Diagnostic). set l i c.record_from.result) c.loop-i.invariant
    ∙ ap (set _ i) c.record_from.ensures
    ∙ over-one c.args.list.now at bytes i (omega arith) inside

pub returns : goal.returns
returns c = c.loop-i.invariant ∙ over-end c.args.list.now c.args.at c.args.bytes.now c.args.n c.loop-i.i (omega (arith, c.end-end.ensures))
