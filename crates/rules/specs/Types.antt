-- All that collecting a sheet gives: `Types` of types.rs.
-- Assumes nothing: these are definitions.
use Rattle.std.specs.Prelude.{ℕ, List, Bool, not, ◌&&◌, get_or}
use Rattle.rules.specs.Numbers.{no_item}
use Rattle.rules.specs.Names.{Words, ◌∋◌}
use Rattle.rules.specs.View.{items, is_type}
use Rattle.rules.specs.Collect.{names_to, last_to, enters_structs, enters_enums, enters_cxx, enters_rust, enters_aliases, enters_untrusted, collected_to}
use Rattle.rules.specs.Trivial.{extern_in, reason_names, reasons_of, required_of}

pub record Types : Type 0 where
  -- the collected rows, in order
  pub all : List ℕ
  pub structs : Words
  pub enums : Words
  pub cxx : Words
  pub rust : Words
  pub aliases : Words
  pub untrusted : Words
  -- how many reasons each name has, and the names that have one
  pub reasons : List ℕ
  pub required_trivial : Words
  -- each name's last struct, last untrusted CxxType, and last item that is a type
  pub last_struct : List ℕ
  pub last_untrusted : List ℕ
  pub last_type : List ℕ

unfoldable pub types_of : List ℕ → Types
types_of s =
    let n = items s in
    let all = collected_to s n in
    let structs = names_to s (enters_structs s) n in
    let enums = names_to s (enters_enums s) n in
    let cxx = names_to s (enters_cxx s) n in
    let reasons = reasons_of (reason_names s (extern_in structs enums cxx) all) in
    record {
      all = all;
      structs = structs;
      enums = enums;
      cxx = cxx;
      rust = names_to s (enters_rust s) n;
      aliases = names_to s (enters_aliases s) n;
      untrusted = names_to s (enters_untrusted s) n;
      reasons = reasons;
      required_trivial = required_of reasons;
      last_struct = last_to s (enters_structs s) n;
      last_untrusted = last_to s (enters_untrusted s) n;
      last_type = last_to s (is_type s) n;
    }

-- ## What is asked of a name

module _ (t : Types) where
  unfoldable pub is_struct : (name : ℕ) → Bool
  is_struct n = t.structs ∋ n

  unfoldable pub is_enum : (name : ℕ) → Bool
  is_enum n = t.enums ∋ n

  unfoldable pub is_cxx : (name : ℕ) → Bool
  is_cxx n = t.cxx ∋ n

  unfoldable pub is_rust : (name : ℕ) → Bool
  is_rust n = t.rust ∋ n

  unfoldable pub is_alias : (name : ℕ) → Bool
  is_alias n = t.aliases ∋ n

  unfoldable pub is_untrusted : (name : ℕ) → Bool
  is_untrusted n = t.untrusted ∋ n

  unfoldable pub is_required_trivial : (name : ℕ) → Bool
  is_required_trivial n = t.required_trivial ∋ n

  unfoldable pub is_extern : (name : ℕ) → Bool
  is_extern n = extern_in t.structs t.enums t.cxx n

  -- an extern C++ type that is no alias
  unfoldable pub is_opaque : (name : ℕ) → Bool
  is_opaque n = is_extern n && not (is_alias n)

  -- its last struct, last untrusted CxxType, and last item that is a type, or `no_item`
  unfoldable pub struct_of : (name : ℕ) → ℕ
  struct_of n = get_or t.last_struct n no_item

  unfoldable pub untrusted_of : (name : ℕ) → ℕ
  untrusted_of n = get_or t.last_untrusted n no_item

  unfoldable pub type_of : (name : ℕ) → ℕ
  type_of n = get_or t.last_type n no_item

  -- how many reasons it has to be trivial
  unfoldable pub reasons_for : (name : ℕ) → ℕ
  reasons_for n = get_or t.reasons n 0
