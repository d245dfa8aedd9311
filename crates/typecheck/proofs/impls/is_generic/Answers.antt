-- `typecheck::impls::is_generic` meets its contract: by whether the number is a kind's. Assumes nothing.
use Rattle.std.proofs.Common.{sym, ◌∙◌, arith}
use borrow.Author.Tests.{lt-leb}
use Rattle.std.proofs.lemmas.Bool.{and_right}
use Rattle.rules.proofs.KindLaws.{row_kind-back, row_kind-past}
use Rattle.rules.specs.View.{kind}
use Rattle.typecheck.proofs.impls.is_generic.Goals as goal

pub returns-in-Some : goal.returns-in-Some
returns-in-Some c = rw (row_kind-back _ (sym c.kind.ensures ∙ c.in-Some.is)) c.is_generic_kind.ensures

pub returns-in-None : goal.returns-in-None
returns-in-None c =
    let past = row_kind-past _ (sym c.kind.ensures ∙ c.in-None.is) in
    sym (and_right _ _ (lt-leb (kind c.args.s.now c.args.r) 6 (omega (arith, past))))
