-- `row_tables::sizes::describe_other` meets its contract, kind by kind.
-- Assumes nothing.
use mathlib.Core.Logic.{inl, inr}
use Rattle.rules.specs.Base.{if'◌then◌else◌}
use Rattle.row_tables.specs.Tables.{describe_other}
use Rattle.row_tables.proofs.sizes.describe_other.Goals as goal

pub returns-in-RustBox : goal.returns-in-RustBox
unfolding describe_other if'◌then◌else◌
returns-in-RustBox c = rw c.in-RustBox.is

pub returns-in-RustVec : goal.returns-in-RustVec
unfolding describe_other if'◌then◌else◌
returns-in-RustVec c = rw c.in-RustVec.is

pub returns-in-UniquePtr : goal.returns-in-UniquePtr
unfolding describe_other if'◌then◌else◌
returns-in-UniquePtr c = rw c.in-UniquePtr.is

pub returns-in-SharedPtr : goal.returns-in-SharedPtr
unfolding describe_other if'◌then◌else◌
returns-in-SharedPtr c = rw c.in-SharedPtr.is

pub returns-in-WeakPtr : goal.returns-in-WeakPtr
unfolding describe_other if'◌then◌else◌
returns-in-WeakPtr c = rw c.in-WeakPtr.is

pub returns-in-Ref : goal.returns-in-Ref
unfolding describe_other if'◌then◌else◌
returns-in-Ref c = rw c.in-Ref.is

pub returns-in-Ptr : goal.returns-in-Ptr
unfolding describe_other if'◌then◌else◌
returns-in-Ptr c = rw c.in-Ptr.is

pub returns-in-Str : goal.returns-in-Str
unfolding describe_other if'◌then◌else◌
returns-in-Str c = rw c.in-Str.is

pub returns-in-CxxVector : goal.returns-in-CxxVector
unfolding describe_other if'◌then◌else◌
returns-in-CxxVector c = rw c.in-CxxVector.is

pub returns-in-SliceRef : goal.returns-in-SliceRef
unfolding describe_other if'◌then◌else◌
returns-in-SliceRef c = rw c.in-SliceRef.is

pub returns-in-Fn : goal.returns-in-Fn
unfolding describe_other if'◌then◌else◌
returns-in-Fn c = rw c.in-Fn.is

pub returns-in-Void : goal.returns-in-Void
unfolding describe_other if'◌then◌else◌
returns-in-Void c = rw c.in-Void.is

pub returns-in-Ident : goal.returns-in-Ident
unfolding describe_other if'◌then◌else◌
returns-in-Ident c = elim c.in-Ident.is [ inl e ↦ rw e | inr e ↦ rw e ]
