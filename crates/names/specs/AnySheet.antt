-- What is asked of a name is read off the table alone, and is the same beside every sheet: so each method of `Known` answers for its table read as any sheet's.
-- Assumes nothing.
use Rattle.std.specs.Prelude.{ℕ, ◌≡◌, refl, List}
use Rattle.rules.specs.Types.{
  is_struct,
  is_enum,
  is_cxx,
  is_rust,
  is_alias,
  is_untrusted,
  is_required_trivial,
  is_extern,
  is_opaque,
  struct_of,
  untrusted_of,
  type_of,
  reasons_for,
}
use Rattle.names.specs.Known.{tabled}

module _ (s s' w : List ℕ) (n : ℕ) where
  pub struct-alone : is_struct (tabled s w) n ≡ is_struct (tabled s' w) n
  unfolding is_struct tabled
  struct-alone = refl

  pub enum-alone : is_enum (tabled s w) n ≡ is_enum (tabled s' w) n
  unfolding is_enum tabled
  enum-alone = refl

  pub cxx-alone : is_cxx (tabled s w) n ≡ is_cxx (tabled s' w) n
  unfolding is_cxx tabled
  cxx-alone = refl

  pub rust-alone : is_rust (tabled s w) n ≡ is_rust (tabled s' w) n
  unfolding is_rust tabled
  rust-alone = refl

  pub alias-alone : is_alias (tabled s w) n ≡ is_alias (tabled s' w) n
  unfolding is_alias tabled
  alias-alone = refl

  pub untrusted-alone : is_untrusted (tabled s w) n ≡ is_untrusted (tabled s' w) n
  unfolding is_untrusted tabled
  untrusted-alone = refl

  pub required-alone : is_required_trivial (tabled s w) n ≡ is_required_trivial (tabled s' w) n
  unfolding is_required_trivial tabled
  required-alone = refl

  pub extern-alone : is_extern (tabled s w) n ≡ is_extern (tabled s' w) n
  unfolding is_extern tabled
  extern-alone = refl

  pub opaque-alone : is_opaque (tabled s w) n ≡ is_opaque (tabled s' w) n
  unfolding is_opaque is_extern is_alias tabled
  opaque-alone = refl

  pub last-struct-alone : struct_of (tabled s w) n ≡ struct_of (tabled s' w) n
  unfolding struct_of tabled
  last-struct-alone = refl

  pub last-untrusted-alone : untrusted_of (tabled s w) n ≡ untrusted_of (tabled s' w) n
  unfolding untrusted_of tabled
  last-untrusted-alone = refl

  pub last-type-alone : type_of (tabled s w) n ≡ type_of (tabled s' w) n
  unfolding type_of tabled
  last-type-alone = refl

  pub reasons-alone : reasons_for (tabled s w) n ≡ reasons_for (tabled s' w) n
  unfolding reasons_for tabled
  reasons-alone = refl
