-- Numbers that have a name in docs/SHEET.md and docs/RULES.md, each once. The same numbers stand for the code in src/ (row, item, name, derive, limit, size),
-- and every contract that speaks of one holds the two together.
-- Assumes nothing: these are definitions.
use Rattle.std.specs.Prelude.{ℕ, Bool, ◌&&◌, leb}

-- ## The kinds of rows

abbrev pub Ident : ℕ
Ident = 0

abbrev pub RustBox : ℕ
RustBox = 1

abbrev pub RustVec : ℕ
RustVec = 2

abbrev pub UniquePtr : ℕ
UniquePtr = 3

abbrev pub SharedPtr : ℕ
SharedPtr = 4

abbrev pub WeakPtr : ℕ
WeakPtr = 5

abbrev pub CxxVector : ℕ
CxxVector = 6

abbrev pub Ref : ℕ
Ref = 7

abbrev pub Ptr : ℕ
Ptr = 8

abbrev pub Str : ℕ
Str = 9

abbrev pub SliceRef : ℕ
SliceRef = 10

abbrev pub Array : ℕ
Array = 11

abbrev pub Fn : ℕ
Fn = 12

abbrev pub Void : ℕ
Void = 13

abbrev pub row_kind_count : ℕ
row_kind_count = 14

-- ## The kinds of items

abbrev pub Include : ℕ
Include = 0

abbrev pub Struct : ℕ
Struct = 1

abbrev pub Enum : ℕ
Enum = 2

abbrev pub CxxType : ℕ
CxxType = 3

abbrev pub RustType : ℕ
RustType = 4

abbrev pub CxxFunction : ℕ
CxxFunction = 5

abbrev pub RustFunction : ℕ
RustFunction = 6

abbrev pub TypeAlias : ℕ
TypeAlias = 7

abbrev pub Impl : ℕ
Impl = 8

abbrev pub item_kind_count : ℕ
item_kind_count = 9

-- no item, where one may be: the items are 0 to 254
abbrev pub no_item : ℕ
no_item = 255

-- no row, where a return may be
abbrev pub no_row : ℕ
no_row = 65535

-- ## The names with a meaning

abbrev pub name_bool : ℕ
name_bool = 0

abbrev pub name_char : ℕ
name_char = 1

abbrev pub name_cxx_string : ℕ
name_cxx_string = 14

abbrev pub name_rust_string : ℕ
name_rust_string = 15

abbrev pub name_self : ℕ
name_self = 23

-- the atoms are the names below 16, the reserved names those below 23, and all names those below 256
abbrev pub atom_count : ℕ
atom_count = 16

abbrev pub reserved_count : ℕ
reserved_count = 23

abbrev pub name_count : ℕ
name_count = 256

-- ## The sets of names, by their places in an answer

abbrev pub struct_set : ℕ
struct_set = 0

abbrev pub enum_set : ℕ
enum_set = 1

abbrev pub cxx_set : ℕ
cxx_set = 2

abbrev pub rust_set : ℕ
rust_set = 3

abbrev pub alias_set : ℕ
alias_set = 4

abbrev pub untrusted_set : ℕ
untrusted_set = 5

abbrev pub required_trivial_set : ℕ
required_trivial_set = 6

abbrev pub improper_set : ℕ
improper_set = 7

abbrev pub set_count : ℕ
set_count = 8

-- ## Derives and lifetimes with a rule

abbrev pub Default : ℕ
Default = 3

abbrev pub BitAnd : ℕ
BitAnd = 11

abbrev pub BitXor : ℕ
BitXor = 13

abbrev pub ExternType : ℕ
ExternType = 14

abbrev pub derive_kind_count : ℕ
derive_kind_count = 15

-- BitAnd, BitOr, BitXor
abbrev pub is_bit : ℕ → Bool
is_bit d = leb BitAnd d && leb d BitXor

-- the lifetime `static`; lifetimes are the numbers below 256
abbrev pub static : ℕ
static = 0

abbrev pub lifetime_name_count : ℕ
lifetime_name_count = 256

-- ## Limits

-- bytes of a sheet, rows and items
abbrev pub most_bytes : ℕ
most_bytes = 32768

abbrev pub most_rows : ℕ
most_rows = 1024

abbrev pub most_items : ℕ
most_items = 255

-- entries of a list
abbrev pub most_fields : ℕ
most_fields = 64

abbrev pub most_args : ℕ
most_args = 16

abbrev pub most_derives : ℕ
most_derives = 16

abbrev pub most_lifetimes : ℕ
most_lifetimes = 8

abbrev pub most_variants : ℕ
most_variants = 255

-- ## Sizes

-- bytes that a call asks of its scratch
abbrev pub scratch_size : ℕ
scratch_size = 4096

-- records of a page: of a list by value
abbrev pub page_size : ℕ
page_size = 4096

-- no report has so many records: it has fewer than its sheet has bytes
abbrev pub report_size : ℕ
report_size = most_bytes

-- bytes of an answer before its records, and of a record
abbrev pub answer_size : ℕ
answer_size = 1824

abbrev pub record_size : ℕ
record_size = 8

-- the version of the answer's bytes
abbrev pub layout_version : ℕ
layout_version = 2

-- in the answer's bytes, reasons to be Unpin that are items begin with this number
abbrev pub item_reasons : ℕ
item_reasons = 32768
