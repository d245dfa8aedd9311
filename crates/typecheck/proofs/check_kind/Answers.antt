-- `typecheck::check_kind` meets its contract: each arm is the entry of the table at its kind. The search proves the arms that are not here.
-- Assumes nothing.
use Rattle.std.proofs.Common.{refl, ap, ◌∙◌, inl, inr}
use Rattle.rules.specs.Kinds.{item_number}
use Rattle.rules.specs.Check.{no_check, api_checks, check_api}
use Rattle.errors.specs.Sink.{silent}
use Rattle.typecheck.proofs.GivenParts.{function-given}
use Rattle.typecheck.proofs.check_kind.Goals as goal

pub check_api_fn-requires : goal.check_api_fn-requires
check_api_fn-requires c =
    elim c.in-CxxFunction.is [
      | inl e ↦ function-given c.requires.right (c.requires.kind_is ∙ ap item_number e) refl
      | inr e ↦ function-given c.requires.right (c.requires.kind_is ∙ ap item_number e) refl
    ]

pub returns-in-Include : goal.returns-in-Include
unfolding no_check api_checks check_api
returns-in-Include c = rw (c.requires.kind_is, c.in-Include.is) (silent _)

pub returns-in-Enum : goal.returns-in-Enum
unfolding api_checks check_api
returns-in-Enum c = rw (c.requires.kind_is, c.in-Enum.is) (c.check_api_enum.ensures _)

pub returns-in-TypeAlias : goal.returns-in-TypeAlias
unfolding api_checks check_api
returns-in-TypeAlias c = rw (c.requires.kind_is, c.in-TypeAlias.is) (c.check_api_type_alias.ensures _)

pub returns-in-Impl : goal.returns-in-Impl
unfolding api_checks check_api
returns-in-Impl c = rw (c.requires.kind_is, c.in-Impl.is) (c.check_api_impl.ensures _)
