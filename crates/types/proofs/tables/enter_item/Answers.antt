-- `types::tables::enter_item` meets its contract: one column after another; no item enters that of the reasons.
-- Assumes nothing.
use mathlib.Core.Path.{refl, ap, ap₂, ◌∙◌}
use mathlib.Core.Bool.{Bool, not, ◌&&◌, ◌||◌}
use native.Mathlib.Omega.{arith}
use Rattle.rules.specs.Numbers.{struct_set, enum_set, cxx_set, rust_set, alias_set, untrusted_set, required_trivial_set}
use Rattle.names.specs.Known.{type_column}
use Rattle.types.proofs.Naming.{same-kind, is_struct, is-enum, is-cxx, is-rust, is-alias, is-untrusted, is-type, few}
use Rattle.types.proofs.Naming.{enter-first, enter-next, enter-none, enter-last}
use Rattle.types.proofs.tables.enter_item.Goals as goal

pub overflow_add-entry : goal.overflow_add-entry
overflow_add-entry c = let l = few c.requires.item in omega arith

pub returns : goal.returns
returns c =
    let h = c.requires.item in
    let k = c.args.k in
    let cxx = is-cxx h (ap₂ (λ (x y : Bool). x || y) (same-kind k _ c.eq.ensures) (same-kind k _ c.eq-2.ensures)) in
    let untrusted = is-untrusted h c.type_trusted.ensures (ap (λ (x : Bool). x && not c.type_trusted.result) (same-kind k _ c.eq-3.ensures)) in
    let p₁ = enter-next struct_set (omega arith) h (enter-first c.requires.names) (same-kind k _ c.eq-4.ensures ∙ is_struct h) refl c.enter_if.ensures in
    let p₂ = enter-next enum_set (omega arith) h p₁ (is-enum h (same-kind k _ c.eq-5.ensures)) refl c.enter_if-2.ensures in
    let p₃ = enter-next cxx_set (omega arith) h p₂ cxx refl c.enter_if-3.ensures in
    let p₄ = enter-next rust_set (omega arith) h p₃ (same-kind k _ c.eq-6.ensures ∙ is-rust h) refl c.enter_if-4.ensures in
    let p₅ = enter-next alias_set (omega arith) h p₄ (same-kind k _ c.eq-7.ensures ∙ is-alias h) refl c.enter_if-5.ensures in
    let p₆ = enter-next untrusted_set (omega arith) h p₅ untrusted refl c.enter_if-6.ensures in
    let p₇ = enter-none required_trivial_set (omega arith) refl p₆ in
    enter-last (enter-next type_column (omega arith) h p₇ (is-type h c.is_type.ensures) refl c.enter_if-7.ensures)
