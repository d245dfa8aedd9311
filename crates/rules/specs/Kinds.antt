-- The kinds of rows and items as the code has them, and their numbers in docs/SHEET.md; and a row or an item that may be none.
-- Assumes nothing: these are definitions.
use Rattle.std.specs.Prelude.{ℕ, List, [], ◌∷◌, eqb, slice_get, Option, Some, None}
use Rattle.rules.specs.Base.{if'◌then◌else◌}
use Rattle.rules.specs.Numbers as numbers
use Rattle.rules.specs.declared.row.RowKind.{RowKind}
use Rattle.rules.specs.declared.row.RowKind.TheVariants as row
use Rattle.rules.specs.declared.item.ItemKind.{ItemKind}
use Rattle.rules.specs.declared.item.ItemKind.TheVariants as item

-- ## Rows

abbrev pub row_number : RowKind → ℕ
row_number row.Ident = numbers.Ident
row_number row.RustBox = numbers.RustBox
row_number row.RustVec = numbers.RustVec
row_number row.UniquePtr = numbers.UniquePtr
row_number row.SharedPtr = numbers.SharedPtr
row_number row.WeakPtr = numbers.WeakPtr
row_number row.CxxVector = numbers.CxxVector
row_number row.Ref = numbers.Ref
row_number row.Ptr = numbers.Ptr
row_number row.Str = numbers.Str
row_number row.SliceRef = numbers.SliceRef
row_number row.Array = numbers.Array
row_number row.Fn = numbers.Fn
row_number row.Void = numbers.Void

-- in the order of their numbers, from 0
abbrev pub kinds_of_rows : List RowKind
kinds_of_rows =
    row.Ident
    ∷ row.RustBox
    ∷ row.RustVec
    ∷ row.UniquePtr
    ∷ row.SharedPtr
    ∷ row.WeakPtr
    ∷ row.CxxVector
    ∷ row.Ref
    ∷ row.Ptr
    ∷ row.Str
    ∷ row.SliceRef
    ∷ row.Array
    ∷ row.Fn
    ∷ row.Void
    ∷ []

-- the kind of a number, if it is one's
unfoldable pub row_kind : ℕ → Option RowKind
row_kind n = slice_get kinds_of_rows n

-- ## Items

abbrev pub item_number : ItemKind → ℕ
item_number item.Include = numbers.Include
item_number item.Struct = numbers.Struct
item_number item.Enum = numbers.Enum
item_number item.CxxType = numbers.CxxType
item_number item.RustType = numbers.RustType
item_number item.CxxFunction = numbers.CxxFunction
item_number item.RustFunction = numbers.RustFunction
item_number item.TypeAlias = numbers.TypeAlias
item_number item.Impl = numbers.Impl

abbrev pub kinds_of_items : List ItemKind
kinds_of_items =
    item.Include
    ∷ item.Struct
    ∷ item.Enum
    ∷ item.CxxType
    ∷ item.RustType
    ∷ item.CxxFunction
    ∷ item.RustFunction
    ∷ item.TypeAlias
    ∷ item.Impl
    ∷ []

unfoldable pub item_kind : ℕ → Option ItemKind
item_kind n = slice_get kinds_of_items n

-- ## None

-- a number, unless it is the one that means none
unfoldable pub some_unless : (none n : ℕ) → Option ℕ
some_unless none n = if' eqb n none then None else Some n
