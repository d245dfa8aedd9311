-- The call, with every definition open: what a sheet is computed by. Written by .ci/computed.
use Rattle.std.specs.Prelude.{ℕ, ◌/◌, ◌%◌, List, [], ◌∷◌}
use Rattle.std.specs.Int.Count.{ones_in}
use Rattle.rules.specs.declared.Diagnostic.{Diagnostic}
use Rattle.rules.specs.Base.{if'◌then◌else◌, over, some, any_of}
use Rattle.rules.specs.Format.{each, pair_at, offset, one, limited, or_none, times, list, with_flags, signature, row_kinds, body_of}
use Rattle.rules.specs.Format.{row, same_bytes, equal_rows, fresh, row_at, type_head, repr, variants, receivers, receiver, function}
use Rattle.rules.specs.Format.{item_kinds, item_of, item, item_at, read}
use Rattle.rules.specs.Names.{is_atom, is_reserved, bit_of, ◌∋◌, add, size, names_below}
use Rattle.rules.specs.View.{flag1, flag2, flag4, or_nothing, past, entry, entries, kind, is, row_name, row_flags, inner}
use Rattle.rules.specs.View.{fn_return, fn_args, fn_arg_count, fn_arg, shown, item_place, item_kind, item_is, is_type}
use Rattle.rules.specs.View.{is_enum_item, is_function, item_name, lifetimes_place, lifetime_count, lifetime, derives_place}
use Rattle.rules.specs.View.{derive_count, derive, rest, field_count, field, fields, enum_repr, enum_explicit, enum_variants}
use Rattle.rules.specs.View.{enum_defaults, type_trusted, type_bounds, function_unsafe, function_trusted, function_unwind}
use Rattle.rules.specs.View.{receiver_place, form, is_free, is_method, self_type, receiver_mutable, receiver_pinned, return_place}
use Rattle.rules.specs.View.{return, has_return, arg_count, arg, args, impl_row, impl_negative}
use Rattle.rules.specs.Diagnostics.{when}
use Rattle.rules.specs.Collect.{names_to, last_to, enters_structs, enters_enums, enters_cxx, enters_rust, enters_aliases}
use Rattle.rules.specs.Collect.{enters_untrusted, structs_to, duplicate_type, same_function, duplicate_function, duplicate}
use Rattle.rules.specs.Collect.{duplicates, enter, visit, shown_by, collected_to}
use Rattle.rules.specs.Trivial.{extern_in, insist, reasons_of_item, reasons_of_row, reason_names, reasons_of, required_of}
use Rattle.rules.specs.Types.{types_of, is_struct, is_enum, is_cxx, is_rust, is_alias, is_untrusted, is_required_trivial}
use Rattle.rules.specs.Types.{is_extern, is_opaque, struct_of, untrusted_of, type_of, reasons_for}
use Rattle.rules.specs.Unpin.{find_row, over_extern, is_mut_slice, is_mut_ref, is_mut_method, find_item, find_rows, find_items}
use Rattle.rules.specs.Unpin.{finds, last_for, last_of_all, unpin_of, reason_of}
use Rattle.rules.specs.Walk.{field_out, fields_out, visit_out, item_out, items_out, sort_out}
use Rattle.rules.specs.Order.{plain_lead, walk_of}
use Rattle.rules.specs.Tiers.{largest, one_above, longest, tiers_of}
use Rattle.rules.specs.Improper.{look_name, look_row, looks_fields, looks_look, found, is_new, pass_to, search, improper_of}
use Rattle.rules.specs.Check.{check_reserved_name, check_reserved_lifetime, check_lifetimes, is_unsized_ident, is_unsized_within}
use Rattle.rules.specs.Check.{is_unsized, describe_ident, describe, check_type_ident, check_type_box, check_type_rust_vec}
use Rattle.rules.specs.Check.{check_type_unique_ptr, check_counted_ptr, check_type_shared_ptr, check_type_weak_ptr}
use Rattle.rules.specs.Check.{check_type_cxx_vector, requires_pin, check_type_ref, check_type_ptr, check_type_slice_ref}
use Rattle.rules.specs.Check.{check_type_array, check_type_fn, no_check, type_checks, check_type, check_struct_derive}
use Rattle.rules.specs.Check.{check_struct_field, check_api_struct, check_enum_derive, check_api_enum, check_opaque_derive}
use Rattle.rules.specs.Check.{check_api_type, may_have_lifetimes, is_lifetime_mut, find_lifetime_mut, returns_mut}
use Rattle.rules.specs.Check.{check_mut_return_restriction, check_fn_generics, check_fn_receiver, check_fn_self_type, check_fn_arg}
use Rattle.rules.specs.Check.{check_fn_return, check_api_fn, check_api_type_alias, check_impl_self, check_api_impl, api_checks}
use Rattle.rules.specs.Check.{check_api}
use Rattle.rules.specs.Report.{report_of, report}
use Rattle.rules.specs.Answer.{refused, sets_of, places, accepted, read_with, filled, cleared, call}
use Rattle.rules.specs.View.{items}
use Rattle.rules.specs.Answer.{Outcome}

-- a number for each pair, as docs/SHEET.md writes a sheet
abbrev pub bytes : List ℕ → List ℕ
bytes [] = []
bytes (p ∷ ps) = p % 256 ∷ p / 256 ∷ bytes ps

unfoldable pub computed : (sheet scratch : List ℕ) → List Diagnostic → Outcome
unfolding ones_in if'◌then◌else◌ over some any_of each pair_at offset one limited or_none times list with_flags signature row_kinds body_of row
    same_bytes equal_rows fresh row_at type_head repr variants receivers receiver function item_kinds item_of item item_at read is_atom
    is_reserved bit_of ◌∋◌ add size names_below flag1 flag2 flag4 or_nothing past entry entries kind is row_name row_flags inner fn_return
    fn_args fn_arg_count fn_arg shown item_place item_kind item_is is_type is_enum_item is_function item_name lifetimes_place lifetime_count
    lifetime derives_place derive_count derive rest field_count field fields enum_repr enum_explicit enum_variants enum_defaults type_trusted
    type_bounds function_unsafe function_trusted function_unwind receiver_place form is_free is_method self_type receiver_mutable
    receiver_pinned return_place return has_return arg_count arg args impl_row impl_negative when names_to last_to enters_structs enters_enums
    enters_cxx enters_rust enters_aliases enters_untrusted structs_to duplicate_type same_function duplicate_function duplicate duplicates enter
    visit shown_by collected_to extern_in insist reasons_of_item reasons_of_row reason_names reasons_of required_of types_of is_struct is_enum
    is_cxx is_rust is_alias is_untrusted is_required_trivial is_extern is_opaque struct_of untrusted_of type_of reasons_for find_row over_extern
    is_mut_slice is_mut_ref is_mut_method find_item find_rows find_items finds last_for last_of_all unpin_of reason_of field_out fields_out
    visit_out item_out items_out sort_out plain_lead walk_of largest one_above longest tiers_of look_name look_row looks_fields looks_look found
    is_new pass_to search improper_of check_reserved_name check_reserved_lifetime check_lifetimes is_unsized_ident is_unsized_within is_unsized
    describe_ident describe check_type_ident check_type_box check_type_rust_vec check_type_unique_ptr check_counted_ptr check_type_shared_ptr
    check_type_weak_ptr check_type_cxx_vector requires_pin check_type_ref check_type_ptr check_type_slice_ref check_type_array check_type_fn
    no_check type_checks check_type check_struct_derive check_struct_field check_api_struct check_enum_derive check_api_enum check_opaque_derive
    check_api_type may_have_lifetimes is_lifetime_mut find_lifetime_mut returns_mut check_mut_return_restriction check_fn_generics
    check_fn_receiver check_fn_self_type check_fn_arg check_fn_return check_api_fn check_api_type_alias check_impl_self check_api_impl
    api_checks check_api report_of report refused sets_of places accepted read_with filled cleared call
computed = call

-- the rows that are collected of a sheet
unfoldable pub collected : List ℕ → List ℕ
unfolding names_to last_to enters_structs enters_enums enters_cxx enters_rust enters_aliases enters_untrusted structs_to duplicate_type same_function
    duplicate_function duplicate duplicates enter visit shown_by collected_to flag1 flag2 flag4 or_nothing past entry entries kind is row_name
    row_flags inner fn_return fn_args fn_arg_count fn_arg shown item_place item_kind item_is is_type is_enum_item is_function item_name
    lifetimes_place lifetime_count lifetime derives_place derive_count derive rest field_count field fields enum_repr enum_explicit
    enum_variants enum_defaults type_trusted type_bounds function_unsafe function_trusted function_unwind receiver_place form is_free is_method
    self_type receiver_mutable receiver_pinned return_place return has_return arg_count arg args impl_row impl_negative if'◌then◌else◌ over some
    any_of pair_at offset
collected s = collected_to s (items s)
