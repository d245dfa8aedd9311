-- `row_tables::wants::want` meets its contract: each test that the code makes is that of the definition.
-- Assumes nothing.
use Rattle.std.proofs.Common.{arith, sym, ap, ◌∙◌, Some}
use Rattle.row_tables.specs.Tables.{one_of}
use Rattle.row_tables.proofs.WantLaws.{want-not, want-in, want-out, extern-small}
use Rattle.row_tables.proofs.wants.want.Goals as goal

pub returns-then-not-is : goal.returns-then-not-is
returns-then-not-is c = want-not c.args.known.now.s.now _ c.args.r (sym c.is.ensures ∙ c.if-not-is.true)

pub overflow_cast-name : goal.overflow_cast-name
overflow_cast-name c =
    omega (arith, extern-small c.args.known.now.s.now c.args.known.now.names.now c.args.r _ (sym (c.is_extern.ensures) ∙ c.if-is_extern.true))

pub returns-then-is_extern : goal.returns-then-is_extern
returns-then-is_extern c =
    ap (λ n. one_of (Some n)) c.row_name-n.ensures
    ∙ want-in c.args.known.now.s.now c.args.known.now.names.now c.args.r (sym c.is.ensures ∙ c.if-not-is.false)
    (sym (rw c.row_name-n.ensures at (c.is_extern.ensures)) ∙ c.if-is_extern.true)

pub returns : goal.returns
returns c = want-out c.args.known.now.s.now _ c.args.r (sym (rw c.row_name-n.ensures at (c.is_extern.ensures)) ∙ c.if-is_extern.false)
