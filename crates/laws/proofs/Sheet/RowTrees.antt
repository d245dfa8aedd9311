-- Equal types are equal rows (`trees-differ`): two rows of an accepted sheet that stand for the same tree are one row, where the sheet is of bytes. Rows of
-- equal trees have equal kinds and numbers, and their parts are trees of smaller rows, so by induction the rows that they show are equal too; then so are their
-- pairs, and their bytes (RowBytes). `tree_is`: a row's tree, without fuel.
-- Assumes nothing.
use Prim.Native.Nat.{ℕ, zero, suc, ◌+◌, ◌*◌, ◌≤◌, ◌<◌}
use mathlib.Core.Path.{◌≡◌, refl, sym, ap, ◌∙◌}
use mathlib.Core.Bool.{Bool, true, false, not, ◌&&◌, ◌||◌}
use mathlib.Core.List.{List, [], ◌∷◌, ◌++◌}
use native.Mathlib.Omega.{arith}
use lib.Dec.{leb, eqb}
use lib.ListN.{length, get_or}
use lib.Seq.{ext_get_or}
use borrow.Author.Tests.{eqb-true, le-leb, lt-leb, not-true}
use Rattle.rules.specs.Numbers.{Ident, Ref, Ptr, SliceRef, Array, Fn, no_row}
use Rattle.rules.specs.Base.{if'◌then◌else◌, some}
use Rattle.rules.specs.Diagnostics.{bit}
use Rattle.rules.specs.Format.{pair_at, offset, Accepted}
use Rattle.rules.specs.View.{rows, kind, row_name, row_flags, inner, fn_return, fn_args, fn_arg_count, shown, or_nothing, entry, entries}
use Rattle.laws.specs.Kinds.{leaf}
use Rattle.rules.specs.Reach.{In}
use Rattle.laws.specs.RowTrees.{Tree, node, trees_of, row_bytes, numbers, tree, tree_of}
use Rattle.laws.proofs.Base.Tests.{implied, both-are, all_pass}
use Rattle.laws.proofs.Base.Lists.{over-length, over-get}
use Rattle.laws.proofs.Base.Members.{in_head, in_tail}
use Rattle.laws.proofs.Rows.RowTable.{Upward, by-step}
use Rattle.laws.proofs.Sheet.Accepted.Sheet.{bodies_of}
use Rattle.laws.proofs.Sheet.Accepted.Rows.{has_inner, row_of, Shape, named, near, far, bare, fn, shape, named-long, near-long, far-long, bare-long}
use Rattle.laws.proofs.Sheet.Accepted.Rows.{fn-size}
use Rattle.laws.proofs.Sheet.Collect.Shown.{shown-fn, shown-inner, shown-falls}
use Rattle.laws.proofs.Sheet.RowBytes.{start, long, size, byte, bytes-differ}

-- ## The numbers of a row, by its kind

abbrev is_flagged : (kind : ℕ) → Bool
is_flagged k = eqb k Ref || eqb k Ptr || eqb k SliceRef || eqb k Array

module _ (s : List ℕ) (r : ℕ) where
  abbrev numbers_as : (is_name is_fn has_flags : Bool) → List ℕ
  numbers_as a b c =
      if' a then row_name s r ∷ [] else
      if' b then row_flags s r ∷ bit (eqb (fn_return s r) no_row) ∷ [] else
      if' c then row_flags s r ∷ [] else []

  numbers_as_lem : (k : ℕ) → kind s r ≡ k → numbers s r ≡ numbers_as (eqb k Ident) (eqb k Fn) (is_flagged k)
  unfolding numbers
  numbers_as_lem k e = ap (λ x. numbers_as (eqb x Ident) (eqb x Fn) (is_flagged x)) e

  name-number : kind s r ≡ Ident → numbers s r ≡ row_name s r ∷ []
  unfolding if'◌then◌else◌
  name-number e = numbers_as_lem Ident e

  fn-numbers : kind s r ≡ Fn → numbers s r ≡ row_flags s r ∷ bit (eqb (fn_return s r) no_row) ∷ []
  unfolding if'◌then◌else◌
  fn-numbers e = numbers_as_lem Fn e

  flags-number : eqb (kind s r) Ident ≡ false → eqb (kind s r) Fn ≡ false → is_flagged (kind s r) ≡ true → numbers s r ≡ row_flags s r ∷ []
  unfolding if'◌then◌else◌
  flags-number a b c = numbers_as_lem (kind s r) refl ∙ rw (a, b, c)

-- one computed test for each: a kind with a row inside is no leaf and no Fn; above 6 it has flags, or a length
inner-kinds : (k : ℕ) → k < 14 → has_inner k ≡ true → (leaf k ≡ false) × (eqb k Fn ≡ false)
unfolding some
inner-kinds k l h =
    let t = all_pass 14 (λ k. not (has_inner k) || (not (leaf k) && not (eqb k Fn))) refl k l in
    let b = both-are (not (leaf k)) (not (eqb k Fn)) (implied (has_inner k) (not (leaf k) && not (eqb k Fn)) t h) in
    (not-true (leaf k) b.0, not-true (eqb k Fn) b.1)

far-kinds : (k : ℕ) → k < 14 → has_inner k ≡ true → 6 < k → (eqb k Ident ≡ false) × (is_flagged k ≡ true)
unfolding some
far-kinds k l h g =
    let t = all_pass 14 (λ k. not (has_inner k) || (leb k 6 || (not (eqb k Ident) && is_flagged k))) refl k l in
    let u : (leb k 6 || (not (eqb k Ident) && is_flagged k)) ≡ true = implied (has_inner k) (leb k 6 || (not (eqb k Ident) && is_flagged k)) t h in
    let b = both-are (not (eqb k Ident)) (is_flagged k) (rw (lt-leb k 6 g) at u) in
    (not-true (eqb k Ident) b.0, b.1)

-- ## Equal pairs are equal bytes

module _ (s : List ℕ) (small : (i : ℕ) → get_or s i 0 < 256) where
  -- n pairs from a on, and from b on
  abbrev Same : (a b n : ℕ) → Type 0
  Same a b n = (i : ℕ) → i < 2 * n → get_or s (a + i) 0 ≡ get_or s (b + i) 0

  nothing : (a b : ℕ) → Same a b 0
  nothing a b i l = absurd (omega arith)

  next : (a b n : ℕ) → pair_at s a ≡ pair_at s b → Same (a + 2) (b + 2) n → Same a b (suc n)
  unfolding pair_at
  next a b n e h zero l =
      let x : a + 0 ≡ a = omega arith in
      let y : b + 0 ≡ b = omega arith in
      rw (x, y) (omega (arith, small a, small b, small (a + 1), small (b + 1)))
  next a b n e h (suc zero) l = omega (arith, small a, small b, small (a + 1), small (b + 1))
  next a b n e h (suc (suc i)) l =
      let x : a + suc (suc i) ≡ a + 2 + i = omega arith in
      let y : b + suc (suc i) ≡ b + 2 + i = omega arith in
      rw (x, y) (h i (omega arith))

  run : (n a b : ℕ) → ((j : ℕ) → j < n → pair_at s (a + 2 * j) ≡ pair_at s (b + 2 * j)) → Same a b n
  run zero a b h = nothing a b
  run (suc n) a b h =
      let x : a + 2 * 0 ≡ a = omega arith in
      let y : b + 2 * 0 ≡ b = omega arith in
      next a b n (rw (x, y) at (h 0 (omega arith))) (run n (a + 2) (b + 2) (λ j l. at j (h (suc j) (omega arith))))
    where
      at : (j : ℕ) → pair_at s (a + 2 * suc j) ≡ pair_at s (b + 2 * suc j) → pair_at s (a + 2 + 2 * j) ≡ pair_at s (b + 2 + 2 * j)
      at j e =
          let x : a + 2 * suc j ≡ a + 2 + 2 * j = omega arith in
          let y : b + 2 * suc j ≡ b + 2 + 2 * j = omega arith in
          rw (x, y) at e

  -- ## Two rows of one kind, with equal numbers, that show equal rows

  module _ (acc : Accepted s) (r q : ℕ) (l : r < rows s) (m : q < rows s)
      (kinds : kind s r ≡ kind s q) (nums : numbers s r ≡ numbers s q) (shows : shown s r ≡ shown s q) where
    abbrev a : ℕ
    a = offset s r

    abbrev b : ℕ
    b = offset s q

    close : (n : ℕ) → start s acc (suc r) ≡ a + 2 * n → start s acc (suc q) ≡ b + 2 * n → Same a b n → row_bytes s r ≡ row_bytes s q
    close n x y h = ext_get_or 0 (row_bytes s r) (row_bytes s q) (size s acc r l ∙ longs ∙ sym (size s acc q m)) bytes
      where
        at-r : a ≡ start s acc r
        at-r = (bodies_of s acc).row-at r l

        at-q : b ≡ start s acc q
        at-q = (bodies_of s acc).row-at q m

        longs : long s acc r ≡ long s acc q
        longs = omega (arith, at-r, at-q)

        bytes : (j : ℕ) → j < length (row_bytes s r) → get_or (row_bytes s r) j 0 ≡ get_or (row_bytes s q) j 0
        bytes j k =
            let z : j < long s acc r = omega (arith, size s acc r l) in
            byte s acc r l j z ∙ (rw (at-r, at-q) at (h j (omega (arith, at-r)))) ∙ sym (byte s acc q m j (omega (arith, longs)))

    -- the pairs
    first : pair_at s a ≡ pair_at s b
    unfolding kind
    first = kinds

    names : kind s r ≡ Ident → pair_at s (a + 2) ≡ pair_at s (b + 2)
    unfolding row_name
    names e = let x : row_name s r ∷ [] ≡ row_name s q ∷ [] = sym (name-number s r e) ∙ nums ∙ name-number s q (sym kinds ∙ e) in cc

    module _ (h : has_inner (kind s r) ≡ true) where
      inners : inner s r ≡ inner s q
      inners =
          let k = inner-kinds (kind s r) (row_of s acc r l).known h in
          let x : inner s r ∷ [] ≡ inner s q ∷ [] =
          sym (shown-inner s r (kind s r) k.0 k.1 refl) ∙ shows ∙ shown-inner s q (kind s r) k.0 k.1 (sym kinds) in
          cc

      near-inner : kind s r ≤ 6 → pair_at s (a + 2) ≡ pair_at s (b + 2)
      unfolding inner if'◌then◌else◌
      near-inner g = let x = inners in rw (← kinds, le-leb (kind s r) 6 g) at x

      module _ (g : 6 < kind s r) where
        far-inner : pair_at s (a + 4) ≡ pair_at s (b + 4)
        unfolding inner if'◌then◌else◌
        far-inner = let x = inners in rw (← kinds, lt-leb (kind s r) 6 g) at x

        far-flags : pair_at s (a + 2) ≡ pair_at s (b + 2)
        unfolding row_flags
        far-flags =
            let k = inner-kinds (kind s r) (row_of s acc r l).known h in
            let f = far-kinds (kind s r) (row_of s acc r l).known h g in
            let x : row_flags s r ∷ [] ≡ row_flags s q ∷ [] =
            sym (flags-number s r f.0 k.1 f.1) ∙ nums
            ∙ flags-number s q (ap (λ x. eqb x Ident) (sym kinds) ∙ f.0) (ap (λ x. eqb x Fn) (sym kinds) ∙ k.1) (ap is_flagged (sym kinds) ∙ f.1) in
            cc

    -- of two Fns: flags, return, and arguments
    module _ (e : kind s r ≡ Fn) where
      also : kind s q ≡ Fn
      also = sym kinds ∙ e

      fn-nums : row_flags s r ∷ bit (eqb (fn_return s r) no_row) ∷ [] ≡ row_flags s q ∷ bit (eqb (fn_return s q) no_row) ∷ []
      fn-nums = sym (fn-numbers s r e) ∙ nums ∙ fn-numbers s q also

      fn-flags : pair_at s (a + 2) ≡ pair_at s (b + 2)
      unfolding row_flags
      fn-flags = let x = fn-nums in cc

      -- both return nothing, or both return a row, which stands first
      fn-shown : (fn_return s r ≡ fn_return s q) × (fn_args s r ≡ fn_args s q)
      unfolding or_nothing if'◌then◌else◌
      fn-shown =
          go (eqb (fn_return s r) no_row) (eqb (fn_return s q) no_row) refl refl (let x = fn-nums in cc) (sym (shown-fn s r e) ∙ shows ∙ shown-fn s q also)
        where
          go : (x y : Bool) → eqb (fn_return s r) no_row ≡ x → eqb (fn_return s q) no_row ≡ y
              → bit (eqb (fn_return s r) no_row) ≡ bit (eqb (fn_return s q) no_row)
              → (if' x then [] else fn_return s r ∷ []) ++ fn_args s r ≡ (if' y then [] else fn_return s q ∷ []) ++ fn_args s q
              → (fn_return s r ≡ fn_return s q) × (fn_args s r ≡ fn_args s q)
          go true true c d _ h = (eqb-true (fn_return s r) no_row c ∙ sym (eqb-true (fn_return s q) no_row d), h)
          go false false c d _ h = ((cc), (cc))
          go true false c d z h = let w : ◌≡◌ {A = ℕ} 1 0 = rw (c, d) at z in absurd (omega arith)
          go false true c d z h = let w : ◌≡◌ {A = ℕ} 0 1 = rw (c, d) at z in absurd (omega arith)

      fn-returns : pair_at s (a + 4) ≡ pair_at s (b + 4)
      unfolding fn_return
      fn-returns = fn-shown.0

      fn_counts : pair_at s (a + 6) ≡ pair_at s (b + 6)
      unfolding fn_args entries
      fn_counts =
          sym (over-length (entry s (a + 6)) (pair_at s (a + 6))) ∙ ap length fn-shown.1 ∙ over-length (entry s (b + 6)) (pair_at s (b + 6))

      fn-args : (j : ℕ) → j < pair_at s (a + 6) → entry s (a + 6) j ≡ entry s (b + 6) j
      unfolding fn_args entries
      fn-args j k =
          sym (over-get (entry s (a + 6)) 0 (pair_at s (a + 6)) j k) ∙ ap (λ (x : List ℕ). get_or x j 0) fn-shown.1
          ∙ over-get (entry s (b + 6)) 0 (pair_at s (b + 6)) j (rw fn_counts at k)

      fn_same : row_bytes s r ≡ row_bytes s q
      unfolding fn_arg_count entry
      fn_same =
          let n = pair_at s (a + 6) in
          close (suc (suc (suc (suc n)))) (omega (arith, fn-size s acc r l e)) (omega (arith, fn-size s acc q m also, fn_counts))
          (next a b (suc (suc (suc n))) first
          (next (a + 2) (b + 2) (suc (suc n)) fn-flags
          (next (a + 2 + 2) (b + 2 + 2) (suc n) (rw (four a, four b) fn-returns)
          (next (a + 2 + 2 + 2) (b + 2 + 2 + 2) n (rw (six a, six b) fn_counts) (run n (a + 2 + 2 + 2 + 2) (b + 2 + 2 + 2 + 2) args)))))
        where
          four : (x : ℕ) → x + 2 + 2 ≡ x + 4
          four x = omega arith

          six : (x : ℕ) → x + 2 + 2 + 2 ≡ x + 6
          six x = omega arith

          at : (x j : ℕ) → x + 2 + 2 + 2 + 2 + 2 * j ≡ x + 6 + 2 + 2 * j
          at x j = omega arith

          args : (j : ℕ) → j < pair_at s (a + 6) → pair_at s (a + 2 + 2 + 2 + 2 + 2 * j) ≡ pair_at s (b + 2 + 2 + 2 + 2 + 2 * j)
          args j k = rw (at a j, at b j) (fn-args j k)

    same_row : row_bytes s r ≡ row_bytes s q
    same_row = go (shape s (kind s r) (row_of s acc r l).known)
      where
        other : kind s q ≡ kind s r
        other = sym kinds

        four : (x : ℕ) → x + 2 + 2 ≡ x + 4
        four x = omega arith

        go : Shape s (kind s r) → row_bytes s r ≡ row_bytes s q
        go (named e body) =
            close 2 (omega (arith, named-long s acc r l (kind s r) (body r) refl)) (omega (arith, named-long s acc q m (kind s r) (body q) other))
            (next a b 1 first (next (a + 2) (b + 2) 0 (names e) (nothing (a + 2 + 2) (b + 2 + 2))))
        go (near h g body) =
            close 2 (omega (arith, near-long s acc r l (kind s r) (body r) refl)) (omega (arith, near-long s acc q m (kind s r) (body q) other))
            (next a b 1 first (next (a + 2) (b + 2) 0 (near-inner h g) (nothing (a + 2 + 2) (b + 2 + 2))))
        go (far n h g body) =
            close 3 (omega (arith, far-long s acc r l (kind s r) n (body r) refl)) (omega (arith, far-long s acc q m (kind s r) n (body q) other))
            (next a b 2 first
            (next (a + 2) (b + 2) 1 (far-flags h g)
            (next (a + 2 + 2) (b + 2 + 2) 0 (rw (four a, four b) (far-inner h g)) (nothing (a + 2 + 2 + 2) (b + 2 + 2 + 2)))))
        go (bare h body) =
            close 1 (omega (arith, bare-long s acc r l (kind s r) (body r) refl)) (omega (arith, bare-long s acc q m (kind s r) (body q) other))
            (next a b 0 first (nothing (a + 2) (b + 2)))
        go (fn e body) = fn_same e

-- ## Trees

trees-same : (f : ℕ → Tree) (xs ys : List ℕ) → ((x y : ℕ) → In x xs → In y ys → f x ≡ f y → x ≡ y) → trees_of f xs ≡ trees_of f ys → xs ≡ ys
unfolding trees_of
trees-same f [] [] h e = refl
trees-same f [] (y ∷ ys) h e = absurd (let z : ◌≡◌ {A = ℕ} 0 1 = cc in omega arith)
trees-same f (x ∷ xs) [] h e = absurd (let z : ◌≡◌ {A = ℕ} 0 1 = cc in omega arith)
trees-same f (x ∷ xs) (y ∷ ys) h e =
    let p : x ≡ y = h x y (in_head x xs) (in_head y ys) (cc) in
    let q : xs ≡ ys = trees-same f xs ys (λ u v i j. h u v (in_tail u x xs i) (in_tail v y ys j)) (cc) in
    cc

-- what is the same of each row is the same of them all
trees-by : (p q : ℕ → Tree) (l : List ℕ) → ((x : ℕ) → In x l → p x ≡ q x) → trees_of p l ≡ trees_of q l
unfolding trees_of
trees-by p q [] h = refl
trees-by p q (x ∷ l) h = rw (h x (in_head x l), trees-by p q l (λ y i. h y (in_tail y x l i)))

module _ (s : List ℕ) (acc : Accepted s) where
  abbrev tree_step : (smaller : ℕ → Tree) (r : ℕ) → Tree
  tree_step smaller r = node (kind s r) (numbers s r) (trees_of smaller (shown s r))

  tree-up : (r : ℕ) → r < rows s → Upward (tree s) tree_step r
  unfolding tree
  tree-up r l =
      record {
        step = λ f. refl;
        smaller = λ p q h. ap (node (kind s r) (numbers s r)) (trees-by p q (shown s r) (λ x i. h x (shown-falls s acc r l x i)));
      }

  -- without fuel
  pub tree_is : (r : ℕ) → r < rows s → tree_of s r ≡ node (kind s r) (numbers s r) (trees_of (tree_of s) (shown s r))
  unfolding tree_of
  tree_is r l = by-step (tree s) tree_step (rows s) tree-up r l

module _ (s : List ℕ) (small : (i : ℕ) → get_or s i 0 < 256) (acc : Accepted s) where
  trees-apart : (f r q : ℕ) → r < f → q < f → r < rows s → q < rows s → tree s f r ≡ tree s f q → r ≡ q
  unfolding tree
  trees-apart zero r q l m _ _ e = absurd (omega arith)
  trees-apart (suc f) r q l m lr lq e =
      let parts : trees_of (tree s f) (shown s r) ≡ trees_of (tree s f) (shown s q) = cc in
      let apart : (x y : ℕ) → In x (shown s r) → In y (shown s q) → tree s f x ≡ tree s f y → x ≡ y = λ x y i j.
      let c = shown-falls s acc r lr x i in
      let d = shown-falls s acc q lq y j in
      trees-apart f x y (omega arith) (omega arith) (omega arith) (omega arith) in
      bytes-differ s acc r q lr lq (same_row s small acc r q lr lq (cc) (cc) (trees-same (tree s f) (shown s r) (shown s q) apart parts))

  pub trees-differ : (r q : ℕ) → r < rows s → q < rows s → tree_of s r ≡ tree_of s q → r ≡ q
  unfolding tree_of
  trees-differ r q l m e = trees-apart (rows s) r q l m l m e
