-- `typecheck_rows::rows::check_pointee` meets its contract: its parts report one after the other. Assumes nothing.
use mathlib.Core.Path.{◌≡◌, ◌∙◌, ap}
use mathlib.Core.Bool.{◌||◌}
use Rattle.std.specs.Prelude.{eqb}
use Rattle.rules.specs.Numbers.{Fn, Void}
use Rattle.rules.specs.View.{is, inner, kind}
use Rattle.rules.specs.declared.row.RowKind.{RowKind}
use Rattle.rules.specs.declared.row.RowKind.TheVariants as row
use Rattle.errors.specs.Sink.{also-if, meant-if}
use Rattle.typecheck_rows.proofs.KindTests.{tests, same_kind}
use Rattle.typecheck_rows.proofs.rows.check_pointee.Goals as goal
use Rattle.typecheck_rows.proofs.rows.check_pointee.Goals.{then-eq, else-eq}

pub returns : goal.returns
unfolding is
returns c =
    let s = c.args.s.now in
    let n = kind s (inner s c.args.r) in
    let of = tests n in
    let target = rw c.inner.ensures at c.kind-target.ensures in
    let same : (k : RowKind) → same_kind c.kind-target.result k ≡ same_kind _ k = λ k. ap (λ o. same_kind o k) target in
    let function = c.eq.ensures ∙ same row.Fn ∙ of.function in
    let fn_or_void : c.if-eq.fn_or_void ≡ (eqb n Fn || eqb n Void) = elim c.if-eq.branch [
      | then-eq w ↦ rw (w.fn_or_void-is, ← function, w.if-eq.true)
      | else-eq w ↦ rw (w.fn_or_void-is, ← function, w.if-eq.false) (w.eq-fn_or_void.ensures ∙ same row.Void ∙ of.nothing)
    ] in
    also-if _ (meant-if _ c.error_if.ensures (c.eq-2.ensures ∙ same row.Ref ∙ of.reference)) c.error_if-2.ensures fn_or_void
