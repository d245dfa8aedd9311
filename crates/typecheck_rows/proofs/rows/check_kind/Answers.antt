-- `typecheck_rows::rows::check_kind` meets its contract: each arm is the entry of the table at its kind. The search proves the arms that are not here.
-- Assumes nothing.
use Rattle.std.proofs.Common.{ap, ◌∙◌, inl, inr}
use Rattle.rules.specs.Kinds.{row_number}
use Rattle.rules.specs.Check.{no_check, type_checks, check_type}
use Rattle.errors.specs.Sink.{meant, silent}
use Rattle.typecheck_rows.proofs.UnsizedTable.{slice-ref, array_of}
use Rattle.typecheck_rows.proofs.rows.check_kind.Goals as goal

pub returns-in-Ptr : goal.returns-in-Ptr
unfolding type_checks check_type
returns-in-Ptr c = rw (c.requires.kind_is, c.in-Ptr.is) (c.check_type_ptr.ensures _)

pub returns-in-SliceRef : goal.returns-in-SliceRef
unfolding type_checks check_type
returns-in-SliceRef c =
    let k = c.requires.kind_is ∙ ap row_number c.in-SliceRef.is in
    rw k (meant c.check_type_slice_ref.ensures (slice-ref c.requires.given k))

pub returns-in-Array : goal.returns-in-Array
unfolding type_checks check_type
returns-in-Array c =
    let k = c.requires.kind_is ∙ ap row_number c.in-Array.is in
    rw k (meant c.check_type_array.ensures (array_of c.requires.given k))

pub returns-in-Fn : goal.returns-in-Fn
unfolding type_checks check_type
returns-in-Fn c = rw (c.requires.kind_is, c.in-Fn.is) (c.check_type_fn.ensures _)

pub returns-in-Str : goal.returns-in-Str
unfolding no_check type_checks check_type
returns-in-Str c = elim c.in-Str.is [ inl e ↦ rw (c.requires.kind_is, e) (silent _) | inr e ↦ rw (c.requires.kind_is, e) (silent _) ]
