-- The improper set is what rule 3 says, in the words of the sheet.
-- Assumes nothing.
use Prim.Native.Nat.{ℕ, zero, suc, ◌≤◌, ◌<◌}
use mathlib.Core.Path.{◌≡◌, refl, sym, ap, ◌∙◌, subst}
use mathlib.Core.Logic.{◌≢◌, ◌↔◌, ◌⊎◌, inl, inr}
use mathlib.Core.Bool.{Bool, true, false, ◌||◌}
use mathlib.Core.List.{List}
use native.Mathlib.Omega.{arith}
use native.Mathlib.Decide.{dec_lt}
use lib.Dec.{T, eqb, ltb, ltb→lt, lt→ltb, eqb→eq, eqb_refl}
use Rattle.rules.specs.Numbers.{name_rust_string, Ident, RustBox, RustVec, Ref, Ptr, Str, SliceRef, Array, Fn, Void, Struct, RustType, TypeAlias, no_item}
use Rattle.rules.specs.Base.{if'◌then◌else◌}
use Rattle.rules.specs.Names.{◌∋◌, is_atom}
use Rattle.rules.specs.Format.{Accepted}
use Rattle.rules.specs.View.{rows, kind, row_name, inner}
use Rattle.rules.specs.View.{field_count, field}
use Rattle.rules.specs.Types.{Types, types_of, is_struct, is_rust, is_alias, struct_of}
use Rattle.rules.specs.Improper.{Look, fine, bad, to, definite, look_name, look_row, looks_fields, looks_look, looks_of, improper_of}
use Rattle.laws.proofs.Names.ImproperSearch.{Improper, here, there, improper-found}
use Rattle.rules.specs.Rule3.{LastStruct, Borne, Through, end, into, Bad, rust_string, box, vec, str, fn, void, slice, name, ends, goes}
use Rattle.rules.specs.Rule3 as R
use Rattle.laws.proofs.Base.Counts.{Eq?, same, other, eq?}
use Rattle.laws.proofs.Names.LastItems.{of-last, last_of}
use Rattle.laws.proofs.Sheet.Accepted.{few-items, through-falls, field_row}
use Rattle.laws.proofs.Names.SetMembers.{structs-are, rust-are, aliases-are, borne-small}
use Rattle.laws.proofs.Base.Tests.{never, is_true, is_false, or_cases, or_left, or_right, no_eq}

not-bad : fine ≡ bad → ⊥
not-bad e = let z : ◌≡◌ {A = ℕ} 0 1 = cc in omega arith

not-to : {j : ℕ} → to j ≡ bad → ⊥
not-to e = let z : ◌≡◌ {A = ℕ} 0 1 = cc in omega arith

bad-to : {j : ℕ} → bad ≡ to j → ⊥
bad-to e = let z : ◌≡◌ {A = ℕ} 0 1 = cc in omega arith

fine-to : {j : ℕ} → fine ≡ to j → ⊥
fine-to e = let z : ◌≡◌ {A = ℕ} 0 1 = cc in omega arith

definite-bad : (b : Bool) → definite b ≡ bad → T b
definite-bad true e = tt
definite-bad false e = absurd (not-bad e)

definite-to : (b : Bool) {j : ℕ} → definite b ≡ to j → ⊥
definite-to true e = bad-to e
definite-to false e = fine-to e

-- the kinds that are looked through, and those that are improper by themselves
abbrev seen-through : ℕ → Bool
seen-through k = eqb k Ref || eqb k Ptr || eqb k Array

abbrev bads : ℕ → Bool
bads k = eqb k RustBox || eqb k RustVec || eqb k Str || eqb k Fn || eqb k Void || eqb k SliceRef

module _ (s : List ℕ) (acc : Accepted s) where
  abbrev t : Types
  t = types_of s

  -- what a row that is not looked through is, by its kind and name
  abbrev looked : (k n : ℕ) → Look
  looked k n = elim (eqb k Ident) [ true ↦ look_name s t n | false ↦ definite (bads k) ]

  abbrev look_here : ℕ → Look
  look_here q = looked (kind s q) (row_name s q)

  -- ## Looking through

  skip : (a b : Bool) (x y z : Look) → b ≡ false
      → ◌≡◌ {A = Look} (elim a as (λ _. Look) [ true ↦ x | false ↦ elim b as (λ _. Look) [ true ↦ y | false ↦ z ] ])
      (elim a as (λ _. Look) [ true ↦ x | false ↦ z ])
  skip true b x y z e = refl
  skip false true x y z e = never (sym e)
  skip false false x y z e = refl

  step : (a b : Bool) (x y z : Look) → a ≡ false → b ≡ true → elim a as (λ _. Look) [ true ↦ x | false ↦ elim b as (λ _. Look) [ true ↦ y | false ↦ z ] ] ≡ y
  step true b x y z e d = never (sym e)
  step false true x y z e d = refl
  step false false x y z e d = never d

  is-through : (r : ℕ) → (kind s r ≡ Ref) ⊎ ((kind s r ≡ Ptr) ⊎ (kind s r ≡ Array)) → (eqb (kind s r) Ident ≡ false) × (seen-through (kind s r) ≡ true)
  is-through r (inl e) = (ap (λ k. eqb k 0) e, ap seen-through e)
  is-through r (inr (inl e)) = (ap (λ k. eqb k 0) e, ap seen-through e)
  is-through r (inr (inr e)) = (ap (λ k. eqb k 0) e, ap seen-through e)

  through-look : (f : ℕ) {r q : ℕ} → Through s r q → r < f → r < rows s → look_row s t f r ≡ look_here q
  unfolding look_row
  through-look zero h l m = absurd (omega arith)
  through-look (suc f) {r} (end a b c) l m =
      skip (eqb (kind s r) Ident) (seen-through (kind s r)) (look_name s t (row_name s r)) (look_row s t f (inner s r)) (definite (bads (kind s r)))
      (rw (no_eq (kind s r) Ref a, no_eq (kind s r) Ptr b, no_eq (kind s r) Array c))
  through-look (suc f) {r} (into k h) l m =
      let d = is-through r k in
      let w : inner s r < r = through-falls s acc r m k in
      step (eqb (kind s r) Ident) (seen-through (kind s r)) (look_name s t (row_name s r)) (look_row s t f (inner s r)) (definite (bads (kind s r))) d.0 d.1
      ∙ through-look f h (omega arith) (omega arith)

  through-some : (f r : ℕ) → r < f → r < rows s → (q : ℕ) × Through s r q
  through-some zero r l m = absurd (omega arith)
  through-some (suc f) r l m = by (eq? (kind s r) Ref) (eq? (kind s r) Ptr) (eq? (kind s r) Array) (through-some f (inner s r))
    where
      on : (kind s r ≡ Ref) ⊎ ((kind s r ≡ Ptr) ⊎ (kind s r ≡ Array)) → (inner s r < f → inner s r < rows s → (q : ℕ) × Through s (inner s r) q)
          → (q : ℕ) × Through s r q
      on k ih = let w : inner s r < r = through-falls s acc r m k in let h = ih (omega arith) (omega arith) in (h.0, into k h.1)

      by : Eq? (kind s r) Ref → Eq? (kind s r) Ptr → Eq? (kind s r) Array → (inner s r < f → inner s r < rows s → (q : ℕ) × Through s (inner s r) q)
          → (q : ℕ) × Through s r q
      by (same _ e) b c ih = on (inl e) ih
      by (other _ a) (same _ e) c ih = on (inr (inl e)) ih
      by (other _ a) (other _ b) (same _ e) ih = on (inr (inr e)) ih
      by (other _ a) (other _ b) (other _ c) ih = (r, end a b c)

  -- ## A row by itself

  atom-no : (n : ℕ) → 16 ≤ n → is_atom n ≡ false
  unfolding is_atom
  atom-no n l = is_false (ltb n 16) (λ u. let w = ltb→lt n 16 u in omega arith)

  no-atom : (n : ℕ) → is_atom n ≡ false → 16 ≤ n
  unfolding is_atom
  no-atom n e = go (dec_lt n 16)
    where
      go : Dec (n < 16) → 16 ≤ n
      go (yes l) = absurd (subst T e (lt→ltb n 16 l))
      go (no m) = omega arith

  name-bad : (q n : ℕ) → row_name s q ≡ n → kind s q ≡ Ident → look_name s t n ≡ bad → Bad s q
  unfolding look_name if'◌then◌else◌
  name-bad q n en k h = go (is_atom n) (is_struct t n) refl refl h
    where
      go : (a b : Bool) → is_atom n ≡ a → is_struct t n ≡ b
          → (if' a then definite (eqb n name_rust_string) else if' b then to n else definite (is_rust t n || is_alias t n)) ≡ bad → Bad s q
      go true b ea eb e = rust_string k (en ∙ eqb→eq n name_rust_string (definite-bad (eqb n name_rust_string) e))
      go false true ea eb e = absurd (not-to e)
      go false false ea eb e =
          name k (subst (λ (x : ℕ). 16 ≤ x) (sym en) (no-atom n ea)) (λ b. subst T eb ((structs-are s acc n).1 (subst (λ (x : ℕ). Borne s Struct x) en b)))
          (of (or_cases (is_rust t n) (is_alias t n) (definite-bad (is_rust t n || is_alias t n) e)))
        where
          of : T (is_rust t n) ⊎ T (is_alias t n) → Borne s RustType (row_name s q) ⊎ Borne s TypeAlias (row_name s q)
          of (inl u) = inl (subst (λ (x : ℕ). Borne s RustType x) (sym en) ((rust-are s acc n).0 u))
          of (inr u) = inr (subst (λ (x : ℕ). Borne s TypeAlias x) (sym en) ((aliases-are s acc n).0 u))

  name-to : (n j : ℕ) → look_name s t n ≡ to j → (16 ≤ n) × (n ≡ j) × T (is_struct t n)
  unfolding look_name if'◌then◌else◌
  name-to n j h = go (is_atom n) (is_struct t n) refl refl h
    where
      go : (a b : Bool) → is_atom n ≡ a → is_struct t n ≡ b
          → (if' a then definite (eqb n name_rust_string) else if' b then to n else definite (is_rust t n || is_alias t n)) ≡ to j
          → (16 ≤ n) × (n ≡ j) × T (is_struct t n)
      go true b ea eb e = absurd (definite-to (eqb n name_rust_string) e)
      go false true ea eb e = (no-atom n ea, (cc), subst T (sym eb) tt)
      go false false ea eb e = absurd (definite-to (is_rust t n || is_alias t n) e)

  kind-bad : (q : ℕ) → T (bads (kind s q)) → Bad s q
  kind-bad q u = a (or_cases (eqb k RustBox || eqb k RustVec || eqb k Str || eqb k Fn || eqb k Void) (eqb k SliceRef) u)
    where
      k : ℕ
      k = kind s q

      e : T (eqb k RustBox) ⊎ T (eqb k RustVec) → Bad s q
      e (inl u) = box (eqb→eq k RustBox u)
      e (inr u) = vec (eqb→eq k RustVec u)

      d : T (eqb k RustBox || eqb k RustVec) ⊎ T (eqb k Str) → Bad s q
      d (inl u) = e (or_cases (eqb k RustBox) (eqb k RustVec) u)
      d (inr u) = str (eqb→eq k Str u)

      c : T (eqb k RustBox || eqb k RustVec || eqb k Str) ⊎ T (eqb k Fn) → Bad s q
      c (inl u) = d (or_cases (eqb k RustBox || eqb k RustVec) (eqb k Str) u)
      c (inr u) = fn (eqb→eq k Fn u)

      b : T (eqb k RustBox || eqb k RustVec || eqb k Str || eqb k Fn) ⊎ T (eqb k Void) → Bad s q
      b (inl u) = c (or_cases (eqb k RustBox || eqb k RustVec || eqb k Str) (eqb k Fn) u)
      b (inr u) = void (eqb→eq k Void u)

      a : T (eqb k RustBox || eqb k RustVec || eqb k Str || eqb k Fn || eqb k Void) ⊎ T (eqb k SliceRef) → Bad s q
      a (inl u) = b (or_cases (eqb k RustBox || eqb k RustVec || eqb k Str || eqb k Fn) (eqb k Void) u)
      a (inr u) = slice (eqb→eq k SliceRef u)

  here-bad : (q : ℕ) → look_here q ≡ bad → Bad s q
  here-bad q h = go (eqb (kind s q) Ident) refl h
    where
      go : (b : Bool) → eqb (kind s q) Ident ≡ b → elim b as (λ _. Look) [ true ↦ look_name s t (row_name s q) | false ↦ definite (bads (kind s q)) ] ≡ bad
          → Bad s q
      go true e p = name-bad q (row_name s q) refl (eqb→eq (kind s q) Ident (subst T (sym e) tt)) p
      go false e p = kind-bad q (definite-bad (bads (kind s q)) p)

  here-to : (q j : ℕ) → look_here q ≡ to j → (kind s q ≡ Ident) × (16 ≤ row_name s q) × (row_name s q ≡ j) × T (is_struct t (row_name s q))
  here-to q j h = go (eqb (kind s q) Ident) refl h
    where
      go : (b : Bool) → eqb (kind s q) Ident ≡ b → elim b as (λ _. Look) [ true ↦ look_name s t (row_name s q) | false ↦ definite (bads (kind s q)) ] ≡ to j
          → (kind s q ≡ Ident) × (16 ≤ row_name s q) × (row_name s q ≡ j) × T (is_struct t (row_name s q))
      go true e p = let r = name-to (row_name s q) j p in (eqb→eq (kind s q) Ident (subst T (sym e) tt), r.0, r.1, r.2)
      go false e p = absurd (definite-to (bads (kind s q)) p)

  struct-here : (q : ℕ) → kind s q ≡ Ident → 16 ≤ row_name s q → T (is_struct t (row_name s q)) → look_here q ≡ to (row_name s q)
  unfolding look_name if'◌then◌else◌
  struct-here q k l u = ap (λ x. looked x (row_name s q)) k ∙ rw (atom-no (row_name s q) l, is_true (is_struct t (row_name s q)) u)

  bad-here : (q : ℕ) → Bad s q → look_here q ≡ bad
  unfolding look_name if'◌then◌else◌ is_atom
  bad-here q (rust_string k n) = ap (λ x. looked x (row_name s q)) k ∙ ap (look_name s t) n
  bad-here q (box k) = ap (λ x. looked x (row_name s q)) k
  bad-here q (vec k) = ap (λ x. looked x (row_name s q)) k
  bad-here q (str k) = ap (λ x. looked x (row_name s q)) k
  bad-here q (fn k) = ap (λ x. looked x (row_name s q)) k
  bad-here q (void k) = ap (λ x. looked x (row_name s q)) k
  bad-here q (slice k) = ap (λ x. looked x (row_name s q)) k
  bad-here q (name k l no_struct by) =
      ap (λ x. looked x (row_name s q)) k
      ∙ rw (
        atom-no (row_name s q) l,
        is_false (is_struct t (row_name s q)) (λ u. no_struct ((structs-are s acc (row_name s q)).0 u)),
        is_true (is_rust t (row_name s q) || is_alias t (row_name s q)) (of by),
      )
    where
      of : Borne s RustType (row_name s q) ⊎ Borne s TypeAlias (row_name s q) → T (is_rust t (row_name s q) || is_alias t (row_name s q))
      of (inl b) = or_left (is_rust t (row_name s q)) (is_alias t (row_name s q)) ((rust-are s acc (row_name s q)).1 b)
      of (inr b) = or_right (is_rust t (row_name s q)) (is_alias t (row_name s q)) ((aliases-are s acc (row_name s q)).1 b)

  -- ## The names

  fields-some : (n k : ℕ) → k < looks_fields s t n → struct_of t n ≢ 255
  unfolding looks_fields if'◌then◌else◌
  fields-some n k l e = at (eqb (struct_of t n) no_item) refl l
    where
      at : (b : Bool) → eqb (struct_of t n) no_item ≡ b → k < (if' b then 0 else field_count s (struct_of t n)) → ⊥
      at true _ m = omega arith
      at false d _ = subst T d (subst (λ (x : ℕ). T (eqb x 255)) (sym e) (eqb_refl 255))

  fields-are : (n : ℕ) → struct_of t n ≢ 255 → looks_fields s t n ≡ field_count s (struct_of t n)
  unfolding looks_fields if'◌then◌else◌
  fields-are n ne = rw (no_eq (struct_of t n) 255 ne)

  -- field k of name n's last struct, looked through to q
  record At (n k : ℕ) : Type 0 where
    last-struct : LastStruct s n (struct_of t n)
    is_field : k < field_count s (struct_of t n)
    row : ℕ
    through : Through s (field s (struct_of t n) k) row
    is-look : looks_look s t n k ≡ look_here row

  at_field : (n k : ℕ) → k < looks_fields s t n → At n k
  unfolding looks_look
  at_field n k l =
      let ne = fields-some n k l in
      let w = of-last s n (struct_of t n) refl ne in
      let m : k < field_count s (struct_of t n) = subst (λ (x : ℕ). k < x) (fields-are n ne) l in
      let b = field_row s acc (struct_of t n) k w.struct m in
      let q = through-some (rows s) (field s (struct_of t n) k) b b in
      record { last-struct = w; is_field = m; row = q.0; through = q.1; is-look = through-look (rows s) q.1 b b }

  improper-to : {n : ℕ} → Improper (looks_of s t) n → R.Improper s n
  improper-to {n} (here k l e) = let a = at_field n k l in ends k a.last-struct a.is_field a.through (here-bad a.row (sym a.is-look ∙ e))
  improper-to {n} (there {j = j} k l e p) =
      let a = at_field n k l in
      let h = here-to a.row j (sym a.is-look ∙ e) in
      goes k a.last-struct a.is_field a.through h.0 h.1 (subst (λ (x : ℕ). R.Improper s x) (sym h.2) (improper-to p))

  -- the field of a last struct, as the search sees it
  seen : (n i j r : ℕ) → LastStruct s n i → j < field_count s i → Through s (field s i j) r → (j < looks_fields s t n) × (looks_look s t n j ≡ look_here r)
  unfolding looks_look
  seen n i j r w l h =
      let e = last_of s acc n i w in
      let b = field_row s acc i j w.struct l in
      let ne : struct_of t n ≢ 255 = λ q. omega (arith, e, w.struct.below, few-items s acc) in (
        subst (λ (x : ℕ). j < x) (sym (fields-are n ne ∙ ap (field_count s) e)) l,
        ap (λ x. look_row s t (rows s) (field s x j)) e ∙ through-look (rows s) h b b,
      )

  improper-borne : {n : ℕ} → R.Improper s n → Borne s Struct n
  improper-borne (ends {i = i} j w _ _ _) = record { item = i; below = w.struct.below; is_kind = w.struct.is_struct; bears = w.bears }
  improper-borne (goes {i = i} j w _ _ _ _ _) = record { item = i; below = w.struct.below; is_kind = w.struct.is_struct; bears = w.bears }

  improper-from : {n : ℕ} → R.Improper s n → Improper (looks_of s t) n
  improper-from {n} (ends {i = i} {r = r} j w l h b) = let a = seen n i j r w l h in here j a.0 (a.1 ∙ bad-here r b)
  improper-from {n} (goes {i = i} {r = r} j w l h k m p) =
      let a = seen n i j r w l h in
      there j a.0 (a.1 ∙ struct-here r k m ((structs-are s acc (row_name s r)).1 (improper-borne p))) (improper-from p)

  closed : (i j k : ℕ) → k < looks_fields s t i → looks_look s t i k ≡ to j → j < 256
  closed i j k l e =
      let a = at_field i k l in
      let h = here-to a.row j (sym a.is-look ∙ e) in
      subst (λ (x : ℕ). x < 256) h.2 (borne-small s acc Struct tt (row_name s a.row) ((structs-are s acc (row_name s a.row)).0 h.3))

  pub improper-is : (n : ℕ) → n < 256 → T (improper_of s t ∋ n) ↔ R.Improper s n
  unfolding improper_of
  improper-is n l = let r = improper-found (looks_of s t) (λ i j k. closed i j k) n l in (λ u. improper-to (r.0 u), λ p. r.1 (improper-from p))
