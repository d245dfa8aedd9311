-- The tests of check.rs that are functions of their own in the code.
-- Assumes nothing: these are definitions.
use Rattle.std.specs.Prelude.{ℕ, List, ◌++◌, Bool, not, ◌&&◌, ◌||◌}
use Rattle.rules.specs.Numbers.{Ident, Ref, Ptr, Fn, Void}
use Rattle.rules.specs.Names.{is_atom}
use Rattle.rules.specs.declared.Place.TheVariants.{R, G}
use Rattle.rules.specs.declared.Diagnostic.{Diagnostic}
use Rattle.rules.specs.Diagnostics.{say, tell, when, bit}
use Rattle.rules.specs.View.{flag1, flag2, is, row_name, row_flags, inner, fn_arg}
use Rattle.rules.specs.Types.{Types, is_struct, is_enum, is_cxx, is_rust, is_alias, is_extern, is_opaque}
use Rattle.laws.specs.RowTable.{marked}

module _ (s : List ℕ) (r : ℕ) where
  -- ## Row r is a name

  -- nothing declares it
  abbrev pub unsupported : Types → Bool
  unsupported t =
      let n = row_name s r in
      not (is_atom n) && not (is_struct t n) && not (is_enum t n) && not (is_cxx t n) && not (is_rust t n)

  -- ## What row r holds

  abbrev pub plain : Bool
  plain = is s Ident (inner s r)

  abbrev pub target : ℕ
  target = row_name s (inner s r)

  abbrev pub opaque_target : Types → Bool
  opaque_target t = plain && is_opaque t target

  abbrev pub rust_target : Types → Bool
  rust_target t = plain && is_rust t target

  -- ## Row r is a slice or an array: messages 23 and 24

  -- a slice of it is supported, by the table of the unsized rows
  abbrev pub slice_element : Types → (sizes : List Bool) → Bool
  slice_element t u = not (marked u (inner s r)) || (plain && (is_rust t target || is_alias t target))

  abbrev pub extern_element : Types → Bool
  extern_element t = plain && is_extern t target

  abbrev pub slice_ref : Types → (sizes : List Bool) → List Diagnostic
  slice_ref t u = when (not (slice_element t u)) (tell 23 (R r) (bit (extern_element t)))

  abbrev pub array : (sizes : List Bool) → List Diagnostic
  array u = when (marked u (inner s r)) (say 24 (R r))

  -- ## Row r is a reference or a function pointer

  abbrev pub unpinned : Bool
  unpinned = flag1 (row_flags s r) && not (flag2 (row_flags s r))

  -- two messages of what it points to
  abbrev pub pointee : (nested unsupported : ℕ) → List Diagnostic
  pointee a b = when (is s Ref (inner s r)) (say a (R r)) ++ when (is s Fn (inner s r) || is s Void (inner s r)) (say b (R r))

  -- message 26 at argument j
  abbrev pub pointer_arg : (j : ℕ) → List Diagnostic
  pointer_arg j = when (is s Ptr (fn_arg s r j) && not (flag1 (row_flags s r))) (say 26 (G r j))
