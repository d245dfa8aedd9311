-- A row's own bytes, and the type that it stands for: a tree of kinds and numbers, in which no row number is left. Laws: proofs/sheet/RowBytes and
-- proofs/sheet/RowTrees.
-- Assumes nothing: these are definitions.
use Rattle.std.specs.Prelude.{ℕ, zero, suc, ◌+◌, ◌-◌, List, [], ◌∷◌, ◌||◌, length, take, drop, ltb, eqb}
use Rattle.rules.specs.Numbers.{Ident, Ref, Ptr, SliceRef, Array, Fn, no_row}
use Rattle.rules.specs.Base.{if'◌then◌else◌}
use Rattle.rules.specs.Diagnostics.{bit}
use Rattle.rules.specs.Format.{offset}
use Rattle.rules.specs.View.{rows, items, kind, row_name, row_flags, fn_return, shown}

-- a type: its kind, its numbers, and the types that it is made of
mutual
  pub data Tree : Type 0 where
    node : (kind : ℕ) (numbers : List ℕ) (parts : Trees) → Tree

  pub data Trees : Type 0 where
    no_trees : Trees
    more : Tree → Trees → Trees

unfoldable pub trees_of : (ℕ → Tree) → List ℕ → Trees
trees_of f [] = no_trees
trees_of f (r ∷ rs) = more (f r) (trees_of f rs)

module _ (s : List ℕ) where
  -- ## Bytes

  -- where body b begins, rows first: as the contents say; and behind the last body, where the sheet ends
  unfoldable pub begins : (b : ℕ) → ℕ
  begins b = if' ltb b (rows s + items s) then offset s b else length s

  -- row r's bytes, up to where the next body begins
  unfoldable pub row_bytes : (r : ℕ) → List ℕ
  row_bytes r = take (begins (r + 1) - begins r) (drop (begins r) s)

  -- ## The tree

  -- the numbers of a row that are no rows: a name; flags, or an array's length, which stands where flags do; of an Fn its flags, and whether it returns nothing
  unfoldable pub numbers : (r : ℕ) → List ℕ
  numbers r =
      let k = kind s r in
      if' eqb k Ident then row_name s r ∷ [] else
      if' eqb k Fn then row_flags s r ∷ bit (eqb (fn_return s r) no_row) ∷ [] else
      if' eqb k Ref || eqb k Ptr || eqb k SliceRef || eqb k Array then row_flags s r ∷ [] else []

  -- rows refer to smaller rows: above the row, the fuel is of no account
  unfoldable pub tree : (fuel r : ℕ) → Tree
  tree zero r = node 0 [] no_trees
  tree (suc f) r = node (kind s r) (numbers r) (trees_of (tree f) (shown s r))

  unfoldable pub tree_of : (r : ℕ) → Tree
  tree_of r = tree (rows s) r
