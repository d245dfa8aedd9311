-- `row_tables::looks::look_name` meets its contract: an atom, a struct's name, any other.
-- Assumes nothing.
use Rattle.std.proofs.Common.{sym, ◌∙◌, arith}
use Rattle.rules.specs.Base.{if'◌then◌else◌}
use Rattle.rules.specs.Improper.{look_name}
use Rattle.row_tables.proofs.NameLooks.{struct-small}
use Rattle.row_tables.proofs.looks.look_name.Goals as goal

pub returns-then-is_atom : goal.returns-then-is_atom
unfolding look_name if'◌then◌else◌
returns-then-is_atom c = rw (sym c.is_atom.ensures ∙ c.if-is_atom.true, if'◌then◌else◌) c.definite.ensures

pub overflow_cast-name : goal.overflow_cast-name
overflow_cast-name c = omega (arith, struct-small c.args.known.now.s.now c.args.known.now.names.now c.args.n (sym c.is_struct.ensures ∙ c.if-is_struct.true))

pub returns-then-is_struct : goal.returns-then-is_struct
unfolding look_name if'◌then◌else◌
returns-then-is_struct c = rw (sym c.is_atom.ensures ∙ c.if-is_atom.false, if'◌then◌else◌, sym (c.is_struct.ensures) ∙ c.if-is_struct.true)

pub returns : goal.returns
unfolding look_name if'◌then◌else◌
returns c =
    rw (sym c.is_atom.ensures ∙ c.if-is_atom.false, if'◌then◌else◌, sym (c.is_struct.ensures) ∙ c.if-is_struct.false)
    (rw (c.is_rust.ensures, c.is_alias.ensures) at c.definite-2.ensures)
