-- The reasons to be Unpin are those that the words of the sheet say, of each accepted sheet (`unpin-rule`). Tests are words (`asked_is`, `over-of`, `is-over`).
-- Each of the three passes leaves its last find, or what there was (`leaves`), and the three together leave what stands (`together`). The number of a reason
-- fits two bytes and gives it back, since an accepted sheet has few rows and items (`unpin-back`).
-- Assumes nothing.
use Prim.Native.Nat.{ℕ, ◌+◌, ◌≤◌, ◌<◌}
use mathlib.Core.Path.{◌≡◌, refl, sym, ap, ◌∙◌, subst}
use mathlib.Core.Logic.{◌⊎◌, inl, inr, ◌↔◌}
use mathlib.Core.Bool.{Bool, true, not, ◌&&◌}
use mathlib.Core.List.{List, ◌++◌}
use native.Mathlib.Omega.{arith}
use lib.ListN.{length, get_or}
use borrow.Author.Tests.{eqb-true, eq-eqb, not-true}
use Rattle.rules.specs.Numbers.{Ident, Ref, SliceRef, name_count, item_reasons}
use Rattle.rules.specs.declared.UnpinReason.{UnpinReason}
use Rattle.std.proofs.Common.{Option, Some, None}
use Rattle.rules.specs.declared.UnpinReason.TheVariants.{Row, Item}
use Rattle.rules.specs.Format.{Accepted}
use Rattle.rules.specs.Count.{place}
use Rattle.rules.specs.View.{flag1, flag2, kind, is, rows, row_name, row_flags, inner, items, is_function, is_method, form, self_type}
use Rattle.rules.specs.View.{receiver_mutable, receiver_pinned}
use Rattle.rules.specs.Trivial.{extern_in}
use Rattle.rules.specs.Types.{Types, types_of, is_struct, is_enum, is_cxx, is_extern}
use Rattle.rules.specs.Reach.{Reached}
use Rattle.rules.specs.Unpin.{over_extern, is_mut_slice, is_mut_ref, is_mut_method, find_row, find_item, find_rows, find_items, finds}
use Rattle.rules.specs.Unpin.{last_for, reason_for, unpin_of, reason_number, reason_of, NumbersBack}
use Rattle.rules.specs.UnpinRule.{No, standing, Asked, Over, MutSlice, MutRef, MutMethod, Stands, by_ref, by_method, by_slice, without, not_asked}
use Rattle.rules.specs.UnpinRule.{UnpinRule}
use Rattle.laws.proofs.Base.Counts.{place-lt, place-get, place_of, count-get}
use Rattle.laws.proofs.Base.Tests.{never, both, holds, fails, is_true, is_false, both-are, and_is}
use Rattle.laws.proofs.Names.SetMembers.{structs-are, enums-are, cxx-are}
use Rattle.laws.proofs.Unpin.LastFinds.{last-append, all-get, Pass, kept, last, pass-is}
use Rattle.laws.proofs.Unpin.ReasonNumbers.{none-back, row_back, item_back}
use Rattle.laws.proofs.Sheet.Accepted.Sheet.{sheet-of}
use Rattle.laws.proofs.Sheet.Collect.{all-is, all_once, collected-is, collected-below}
use Rattle.laws.proofs.Report.Book.Targets.{is_kind}

kind-is : (s : List ℕ) (k r : ℕ) → kind s r ≡ k → is s k r ≡ true
unfolding is
kind-is s k r e = eq-eqb (kind s r) k e

module _ (s : List ℕ) (acc : Accepted s) where
  abbrev t : Types
  t = types_of s

  -- ## Tests as words

  asked_is : (n : ℕ) → (is_extern t n ≡ true) ↔ Asked s n
  unfolding is_extern extern_in is_struct is_enum is_cxx
  asked_is n = (to, from)
    where
      to : (is_cxx t n && not (is_struct t n) && not (is_enum t n)) ≡ true → Asked s n
      to h =
          let a = both-are (is_cxx t n && not (is_struct t n)) (not (is_enum t n)) h in
          let b = both-are (is_cxx t n) (not (is_struct t n)) a.0 in
          record {
            cxx = (cxx-are s acc n).0 (holds b.0);
            no_struct = λ x. fails (not-true (is_struct t n) b.1) ((structs-are s acc n).1 x);
            no_enum = λ x. fails (not-true (is_enum t n) a.1) ((enums-are s acc n).1 x);
          }

      from : Asked s n → (is_cxx t n && not (is_struct t n) && not (is_enum t n)) ≡ true
      from h =
          and_is
          (and_is (is_true (is_cxx t n) ((cxx-are s acc n).1 h.cxx)) (ap not (is_false (is_struct t n) (λ x. h.no_struct ((structs-are s acc n).0 x)))))
          (ap not (is_false (is_enum t n) (λ x. h.no_enum ((enums-are s acc n).0 x))))

  module _ (n : ℕ) where
    asks : (m : ℕ) → is_extern t m ≡ true → m ≡ n → Asked s n
    asks m h e = subst (λ (x : ℕ). Asked s x) e ((asked_is m).0 h)

    asked : (m : ℕ) → Asked s n → m ≡ n → is_extern t m ≡ true
    asked m h e = (asked_is m).1 (subst (λ (x : ℕ). Asked s x) (sym e) h)

    over-of : (k r : ℕ) → Reached s (items s) r → over_extern s t k r ≡ true → row_name s (inner s r) ≡ n → Asked s n × Over s n k r
    unfolding over_extern
    over-of k r c h e =
        let a = both-are (is s k r && is s Ident (inner s r)) (is_extern t (row_name s (inner s r))) h in
        let b = both-are (is s k r) (is s Ident (inner s r)) a.0 in (
          asks (row_name s (inner s r)) a.1 e,
          record { collected = c; is_kind = is_kind s k r b.0; plain = is_kind s Ident (inner s r) b.1; bears = e },
        )

    is-over : (k r : ℕ) → Asked s n → Over s n k r → over_extern s t k r ≡ true
    unfolding over_extern
    is-over k r a h = and_is (and_is (kind-is s k r h.is_kind) (kind-is s Ident (inner s r) h.plain)) (asked (row_name s (inner s r)) a h.bears)

    slice_of : (r : ℕ) → Reached s (items s) r → is_mut_slice s t r ≡ true → row_name s (inner s r) ≡ n → Asked s n × MutSlice s n r
    unfolding is_mut_slice
    slice_of r c h e =
        let a = both-are (over_extern s t SliceRef r) (flag1 (row_flags s r)) h in
        let b = over-of SliceRef r c a.0 e in
        (b.0, record { slice = b.1; mutable = a.1 })

    is_slice : (r : ℕ) → Asked s n → MutSlice s n r → is_mut_slice s t r ≡ true
    unfolding is_mut_slice
    is_slice r a h = and_is (is-over SliceRef r a h.slice) h.mutable

    ref-of : (r : ℕ) → Reached s (items s) r → is_mut_ref s t r ≡ true → row_name s (inner s r) ≡ n → Asked s n × MutRef s n r
    unfolding is_mut_ref
    ref-of r c h e =
        let a = both-are (over_extern s t Ref r && flag1 (row_flags s r)) (not (flag2 (row_flags s r))) h in
        let d = both-are (over_extern s t Ref r) (flag1 (row_flags s r)) a.0 in
        let b = over-of Ref r c d.0 e in
        (b.0, record { reference = b.1; mutable = d.1; unpinned = not-true (flag2 (row_flags s r)) a.1 })

    is-ref : (r : ℕ) → Asked s n → MutRef s n r → is_mut_ref s t r ≡ true
    unfolding is_mut_ref
    is-ref r a h = and_is (and_is (is-over Ref r a h.reference) h.mutable) (ap not h.unpinned)

    method-of : (i : ℕ) → i < items s → is_mut_method s t i ≡ true → self_type s i ≡ n → Asked s n × MutMethod s n i
    unfolding is_mut_method is_method
    method-of i l h e =
        let a = both-are (is_function s i && is_method s i && receiver_mutable s i && not (receiver_pinned s i)) (is_extern t (self_type s i)) h in
        let b = both-are (is_function s i && is_method s i && receiver_mutable s i) (not (receiver_pinned s i)) a.0 in
        let d = both-are (is_function s i && is_method s i) (receiver_mutable s i) b.0 in
        let f = both-are (is_function s i) (is_method s i) d.0 in (
          asks (self_type s i) a.1 e,
          record {
            below = l;
            is_function = f.0;
            method = eqb-true (form s i) 2 f.1;
            mutable = d.1;
            unpinned = not-true (receiver_pinned s i) b.1;
            bears = e;
          },
        )

    is-method : (i : ℕ) → Asked s n → MutMethod s n i → is_mut_method s t i ≡ true
    unfolding is_mut_method is_method
    is-method i a h =
        and_is (and_is (and_is (and_is h.is_function (eq-eqb (form s i) 2 h.method)) h.mutable) (ap not h.unpinned))
        (asked (self_type s i) a h.bears)

    -- ## What a pass leaves, in words

    -- the last such one, by where it stands, or what there was
    data Leaves (Is : ℕ → Type 0) (at : ℕ → ℕ) (val : ℕ → UnpinReason) (old : Option UnpinReason) : Option UnpinReason → Type 0 where
      finds-last : {x : ℕ} → Asked s n → Is x → ((y : ℕ) → Is y → at y ≤ at x) → Leaves Is at val old (Some (val x))
      finds-none : (Asked s n → No Is) → Leaves Is at val old old

    -- of k places, each with a row or an item
    module _ (Is : ℕ → Type 0) (at : ℕ → ℕ) (val : ℕ → UnpinReason) (k : ℕ) (el : ℕ → ℕ) (p : ℕ → Bool) (name : ℕ → ℕ) where
      leaves : ((j : ℕ) → j < k → p (el j) ≡ true → name (el j) ≡ n → Asked s n × Is (el j))
          → ((x : ℕ) → Asked s n → Is x → (p x ≡ true) × (name x ≡ n))
          → ((x : ℕ) → Is x → (j : ℕ) × (j < k) × (el j ≡ x))
          → ((j : ℕ) → j < k → at (el j) ≡ j)
          → {old u : Option UnpinReason} → Pass (λ j. p (el j)) (λ j. name (el j)) (λ j. val (el j)) k n old u → Leaves Is at val old u
      leaves to from spot stands (kept f) = finds-none λ a x h.
          let q = spot x h in
          let w = from x a h in
          f q.0 q.1 (ap p q.2 ∙ w.0) (ap name q.2 ∙ w.1)
      leaves to from spot stands (last {j} l c e f) =
          let a = to j l c e in
          finds-last {x = el j} a.0 a.1 λ x h.
          let q = spot x h in
          let w = from x a.0 h in
          let o : q.0 ≤ j = f q.0 q.1 (ap p q.2 ∙ w.0) (ap name q.2 ∙ w.1) in
          let z : at x ≡ q.0 = ap at (sym q.2) ∙ stands q.0 q.1 in
          omega (arith, z, stands j l, o)

    together : {u v w : Option UnpinReason} → Leaves (MutSlice s n) (standing s) Row None u → Leaves (MutMethod s n) (λ i. i) Item u v
        → Leaves (MutRef s n) (standing s) Row v w → Stands s n w
    together a b (finds-last d m f) = by_ref d m f
    together a (finds-last d m f) (finds-none g) = by_method d m f (g d)
    together (finds-last d m f) (finds-none b) (finds-none g) = by_slice d m f (b d) (g d)
    together (finds-none a) (finds-none b) (finds-none g) =
        both (is_extern t n) (λ h. let d = (asked_is n).0 h in without d (a d) (b d) (g d)) (λ h. not_asked (λ d. never (sym h ∙ (asked_is n).1 d)))

    -- ## The three passes

    -- collected row k, and where a row stands
    abbrev row_at : ℕ → ℕ
    row_at k = get_or t.all k 0

    reached-at : (k : ℕ) → k < length t.all → Reached s (items s) (row_at k)
    reached-at k l = (all-is s acc (row_at k)).0 (count-get t.all k l)

    stands_at : (k : ℕ) → k < length t.all → standing s (row_at k) ≡ k
    unfolding types_of
    stands_at k l = place_of t.all k l (all_once s acc (row_at k))

    spot : (r : ℕ) → Reached s (items s) r → (k : ℕ) × (k < length t.all) × (row_at k ≡ r)
    spot r c = let i = (all-is s acc r).1 c in (place t.all r, place-lt t.all r i, place-get t.all r i)

    slices : (old : Option UnpinReason) → Leaves (MutSlice s n) (standing s) Row old (last_for n old (find_rows s t (is_mut_slice s t)))
    unfolding find_rows find_row
    slices old =
        leaves (MutSlice s n) (standing s) Row (length t.all) row_at (is_mut_slice s t) (λ r. row_name s (inner s r))
        (λ j l c e. slice_of (row_at j) (reached-at j l) c e) (λ r a h. (is_slice r a h, h.slice.bears)) (λ r h. spot r h.slice.collected) stands_at
        (pass-is _ _ _ old (length t.all) n)

    methods : (old : Option UnpinReason) → Leaves (MutMethod s n) (λ i. i) Item old (last_for n old (find_items s t))
    unfolding find_items find_item
    methods old =
        leaves (MutMethod s n) (λ i. i) Item (items s) (λ i. i) (is_mut_method s t) (self_type s) method-of (λ i a h. (is-method i a h, h.bears))
        (λ i h. (i, h.below, refl)) (λ j l. refl) (pass-is _ _ _ old (items s) n)

    refs : (old : Option UnpinReason) → Leaves (MutRef s n) (standing s) Row old (last_for n old (find_rows s t (is_mut_ref s t)))
    unfolding find_rows find_row
    refs old =
        leaves (MutRef s n) (standing s) Row (length t.all) row_at (is_mut_ref s t) (λ r. row_name s (inner s r))
        (λ j l c e. ref-of (row_at j) (reached-at j l) c e) (λ r a h. (is-ref r a h, h.reference.bears)) (λ r h. spot r h.reference.collected) stands_at
        (pass-is _ _ _ old (length t.all) n)

    three : last_for n None (finds s t)
        ≡ last_for n (last_for n (last_for n None (find_rows s t (is_mut_slice s t))) (find_items s t)) (find_rows s t (is_mut_ref s t))
    unfolding finds
    three =
        last-append n None (find_rows s t (is_mut_slice s t) ++ find_items s t) (find_rows s t (is_mut_ref s t))
        ∙ ap (λ (u : Option UnpinReason). last_for n u (find_rows s t (is_mut_ref s t)))
        (last-append n None (find_rows s t (is_mut_slice s t)) (find_items s t))

  reason-stands : (n : ℕ) → n < name_count → Stands s n (reason_for (unpin_of s t) n)
  unfolding unpin_of
  reason-stands n l =
      subst (Stands s n) (sym (all-get (finds s t) n l ∙ three n)) (together n (slices n None) (methods n _) (refs n _))

-- ## What is shown, and what is not

-- rows, items and no reason never meet
row-item : {A : Type 0} {r i : ℕ} → Some (Row r) ≡ Some (Item i) → A
row-item e = absurd (let z : ◌≡◌ {A = ℕ} 0 1 = cc in omega arith)

none_row : {A : Type 0} {r : ℕ} → None ≡ Some (Row r) → A
none_row e = absurd (let z : ◌≡◌ {A = ℕ} 0 1 = cc in omega arith)

none-item : {A : Type 0} {i : ℕ} → None ≡ Some (Item i) → A
none-item e = absurd (let z : ◌≡◌ {A = ℕ} 0 1 = cc in omega arith)

module _ (s : List ℕ) (n : ℕ) where
  row-shown : {u : Option UnpinReason} (r : ℕ) → Stands s n u → u ≡ Some (Row r) → Asked s n × (MutSlice s n r ⊎ MutRef s n r)
  row-shown r (by_ref {r = q} a m l) e = let d : q ≡ r = cc in (a, inr (subst (MutRef s n) d m))
  row-shown r (by_method a m l f) e = row-item (sym e)
  row-shown r (by_slice {r = q} a m l f g) e = let d : q ≡ r = cc in (a, inl (subst (MutSlice s n) d m))
  row-shown r (without a f g h) e = none_row e
  row-shown r (not_asked f) e = none_row e

  item-shown : {u : Option UnpinReason} (i : ℕ) → Stands s n u → u ≡ Some (Item i) → Asked s n × MutMethod s n i
  item-shown i (by_ref a m l) e = row-item e
  item-shown i (by_method {i = j} a m l f) e = let d : j ≡ i = cc in (a, subst (MutMethod s n) d m)
  item-shown i (by_slice a m l f g) e = row-item e
  item-shown i (without a f g h) e = none-item e
  item-shown i (not_asked f) e = none-item e

  none-there : {u : Option UnpinReason} → Asked s n → Stands s n u → u ≡ None → No (MutSlice s n) × No (MutMethod s n) × No (MutRef s n)
  none-there w (by_ref a m l) e = none_row (sym e)
  none-there w (by_method a m l f) e = none-item (sym e)
  none-there w (by_slice a m l f g) e = none_row (sym e)
  none-there w (without a f g h) e = (f, g, h)
  none-there w (not_asked f) e = absurd (f w)

  other_none : {u : Option UnpinReason} → (Asked s n → ⊥) → Stands s n u → u ≡ None
  other_none w (by_ref a m l) = absurd (w a)
  other_none w (by_method a m l f) = absurd (w a)
  other_none w (by_slice a m l f g) = absurd (w a)
  other_none w (without a f g h) = refl
  other_none w (not_asked f) = refl

-- what is due
pub unpin-rule : (s : List ℕ) → Accepted s → UnpinRule s (unpin_of s (types_of s))
unpin-rule s acc =
    record {
      stands = reason-stands s acc;
      shown_row = λ n r l e. row-shown s n r (reason-stands s acc n l) e;
      shown_item = λ n i l e. item-shown s n i (reason-stands s acc n l) e;
      silent = λ n l a e. none-there s n a (reason-stands s acc n l) e;
      others = λ n l f. other_none s n f (reason-stands s acc n l);
    }

-- ## The number of a reason gives it back

module _ (s : List ℕ) (acc : Accepted s) where
  reached-below : (r : ℕ) → Reached s (items s) r → r < rows s
  reached-below r h = collected-below s acc (items s) (omega arith) r ((collected-is s acc (items s) (omega arith) r).1 h)

  row_small : {n k r : ℕ} → Over s n k r → r + 1 < item_reasons
  row_small {r = r} h = let l : r < rows s = reached-below r h.collected in omega (arith, (sheet-of s acc).few-rows)

  stands-back : {n : ℕ} {u : Option UnpinReason} → Stands s n u → (reason_number u < 65536) × (reason_of (reason_number u) ≡ u)
  stands-back (by_ref {r = r} a m l) = row_back r (row_small m.reference)
  stands-back (by_method {i = i} a m l f) = item_back i (let h : i < items s = m.below in omega (arith, (sheet-of s acc).few-items))
  stands-back (by_slice {r = r} a m l f g) = row_back r (row_small m.slice)
  stands-back (without a f g h) = none-back
  stands-back (not_asked f) = none-back

  pub unpin-back : NumbersBack (unpin_of s (types_of s))
  unpin-back n l = stands-back ((unpin-rule s acc).stands n l)
