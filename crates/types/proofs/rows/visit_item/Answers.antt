-- `types::rows::visit_item` meets its contract, by kinds of items.
-- Assumes nothing.
use Rattle.std.proofs.Common.{refl, sym, ap, ◌∙◌}
use mathlib.Core.Logic.{inl, inr}
use Rattle.rules.specs.Kinds.{item_number}
use Rattle.rules.proofs.KindLaws.{item_kind-past}
use Rattle.types.proofs.Showing.{fields-below, fields-inside, repr-below, impl-below, fields-walk, repr-walk, impl-walk, function-shown, none-shown, past-shown}
use Rattle.types.proofs.Showing.{kind-of, is_function_lem}
use Rattle.types.proofs.rows.visit_item.Goals as goal

pub returns-in_default : goal.returns-in_default
returns-in_default c = past-shown _ c.requires.walk (item_kind-past _ (sym c.item_kind.ensures ∙ c.in_default.is))

pub visit_list-requires : goal.visit_list-requires
visit_list-requires c =
    let e = kind-of c.item_kind.ensures c.in-Some.is ∙ ap item_number c.in-Struct.is in
    record {
      walk = c.requires.walk;
      below = fields-below _ c.requires.walk.accepted _ c.requires.below refl e c.rest.ensures;
      inside = fields-inside _ c.requires.walk.accepted _ c.requires.below refl e c.rest.ensures;
    }

pub returns-in-Struct : goal.returns-in-Struct
returns-in-Struct c = fields-walk _ refl (kind-of c.item_kind.ensures c.in-Some.is ∙ ap item_number c.in-Struct.is) c.rest.ensures c.visit_list.ensures

pub visit_type-requires : goal.visit_type-requires
visit_type-requires c =
    let e = kind-of c.item_kind.ensures c.in-Some.is ∙ ap item_number c.in-Enum.is in
    record { walk = c.requires.walk; below = repr-below _ c.requires.walk.accepted _ c.requires.below refl e c.enum_repr.ensures }

pub returns-in-Enum : goal.returns-in-Enum
returns-in-Enum c =
    let e = kind-of c.item_kind.ensures c.in-Some.is ∙ ap item_number c.in-Enum.is in
    let l = repr-below _ c.requires.walk.accepted _ c.requires.below refl e c.enum_repr.ensures in
    repr-walk _ refl e c.enum_repr.ensures l c.visit_type.ensures

pub visit_function-requires : goal.visit_function-requires
visit_function-requires c =
    let e = kind-of c.item_kind.ensures c.in-Some.is in
    record {
      ready = c.requires;
      is_function = elim c.in-CxxFunction.is [
        | inl q ↦ is_function_lem _ _ (sym (e ∙ ap item_number q)) refl refl
        | inr q ↦ is_function_lem _ _ (sym (e ∙ ap item_number q)) refl refl
      ];
    }

pub returns-in-CxxFunction : goal.returns-in-CxxFunction
returns-in-CxxFunction c =
    let e = kind-of c.item_kind.ensures c.in-Some.is in
    elim c.in-CxxFunction.is [
      | inl q ↦ function-shown _ (sym (e ∙ ap item_number q)) refl refl c.visit_function.ensures
      | inr q ↦ function-shown _ (sym (e ∙ ap item_number q)) refl refl c.visit_function.ensures
    ]

pub visit_type-requires-in-Impl : goal.visit_type-requires-in-Impl
visit_type-requires-in-Impl c =
    let e = kind-of c.item_kind.ensures c.in-Some.is ∙ ap item_number c.in-Impl.is in
    record { walk = c.requires.walk; below = impl-below _ c.requires.walk.accepted _ c.requires.below refl e c.impl_row.ensures }

pub returns-in-Impl : goal.returns-in-Impl
returns-in-Impl c =
    let e = kind-of c.item_kind.ensures c.in-Some.is ∙ ap item_number c.in-Impl.is in
    let l = impl-below _ c.requires.walk.accepted _ c.requires.below refl e c.impl_row.ensures in
    impl-walk _ refl e c.impl_row.ensures l c.visit_type-in-Impl.ensures

pub returns-in-Include : goal.returns-in-Include
returns-in-Include c =
    let e = kind-of c.item_kind.ensures c.in-Some.is in
    elim c.in-Include.is [
      | inl q ↦ none-shown _ c.requires.walk (sym (e ∙ ap item_number q)) refl
      | inr (inl q) ↦ none-shown _ c.requires.walk (sym (e ∙ ap item_number q)) refl
      | inr (inr (inl q)) ↦ none-shown _ c.requires.walk (sym (e ∙ ap item_number q)) refl
      | inr (inr (inr q)) ↦ none-shown _ c.requires.walk (sym (e ∙ ap item_number q)) refl
    ]
