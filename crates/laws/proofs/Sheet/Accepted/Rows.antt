-- The type rows of an accepted sheet, by kinds: each refers to smaller rows only.
-- Assumes nothing.
use Prim.Native.Nat.{ℕ, zero, suc, ◌+◌, ◌*◌, ◌≤◌, ◌<◌}
use mathlib.Core.Path.{◌≡◌, refl, sym, ap, ◌∙◌}
use mathlib.Core.List.{List, [], ◌∷◌}
use mathlib.Core.Bool.{Bool, true, false}
use native.Mathlib.Omega.{arith}
use lib.ListN.{get_or}
use borrow.Author.Tests.{lt-leb, le-leb}
use Rattle.rules.specs.Numbers.{Ident, Ref, Ptr, SliceRef, Fn}
use Rattle.std.specs.Prelude.{Ok}
use Rattle.rules.specs.Base.{if'◌then◌else◌}
use Rattle.rules.specs.declared.Fault.TheVariants.{BadValue, BadRow}
use Rattle.rules.specs.Format.{Step, end, pair_at, offset, limited, with_flags, signature, row_kinds, body_of, row, Accepted}
use Rattle.rules.specs.View.{rows, kind, row_name, row_flags, inner, fn_return, fn_arg_count, fn_arg, past}
use Rattle.laws.specs.Kinds.{RowOrNone}
use Rattle.laws.proofs.Sheet.Accepted.Steps.{after_is, Reads, ◌then◌, nothing_read, ListAt, limited-reads, or_none-reads, list-reads}
use Rattle.laws.proofs.Sheet.Accepted.Sheet.{bodies_of}
use Rattle.laws.proofs.Base.Tests.{never}

-- kinds 1 to 8, 10 and 11: one row stands inside
abbrev pub has_inner : (kind : ℕ) → Bool
has_inner k = get_or (false ∷ true ∷ true ∷ true ∷ true ∷ true ∷ true ∷ true ∷ true ∷ false ∷ true ∷ true ∷ []) k false

pub record RowOf (s : List ℕ) (r : ℕ) : Type 0 where
  pub known : kind s r < 14
  pub named : kind s r ≡ Ident → row_name s r < 256
  pub inner-falls : (k : ℕ) → has_inner k ≡ true → kind s r ≡ k → inner s r < r
  pub ref-flags : kind s r ≡ Ref → row_flags s r < 4
  pub ptr-flags : kind s r ≡ Ptr → row_flags s r < 2
  pub slice-flags : kind s r ≡ SliceRef → row_flags s r < 2
  pub fn-flags : kind s r ≡ Fn → row_flags s r < 4
  pub return-falls : kind s r ≡ Fn → RowOrNone r (fn_return s r)
  pub few-args : kind s r ≡ Fn → fn_arg_count s r ≤ 16
  pub arg-falls : kind s r ≡ Fn → (j : ℕ) → j < fn_arg_count s r → fn_arg s r j < r

-- ## What stands behind the kind

module _ (s : List ℕ) (r : ℕ) where
  record SignatureAt (at : ℕ) : Type 0 where
    flags : pair_at s at < 4
    returns : RowOrNone r (pair_at s (at + 2))
    args : ListAt s 16 r (at + 4)

  signature-reads : Reads (signature s r) (λ at q. SignatureAt at × (q ≡ past s (at + 4)))
  unfolding signature
  signature-reads =
      record {
        of = λ at h.
            let a = (limited-reads s BadValue 4 then or_none-reads s r then list-reads s 16 BadRow r).of at h in
            let p : a.1.0 ≡ at + 2 = a.1.1.1 in
            let q : a.0 ≡ at + 4 = omega (arith, a.1.2.1) in
            (record { flags = a.1.1.0; returns = rw p at a.1.2.0; args = rw q at a.2.0 }, rw q at a.2.1);
      }

  flagged-reads : (n : ℕ) → Reads (with_flags s n r) (λ at q. ((pair_at s at < n) × (pair_at s (at + 2) < r)) × (q ≡ at + 4))
  unfolding with_flags
  flagged-reads n =
      record {
        of = λ at h.
            let a = (limited-reads s BadValue n then limited-reads s BadRow r).of at h in
            ((a.1.0, rw a.1.1 at a.2.0), omega (arith, a.1.1, a.2.1));
      }

-- the five shapes that a row's body has, by its kind
module _ (s : List ℕ) where
  pub data Shape (k : ℕ) : Type 0 where
    named : k ≡ Ident → ((r : ℕ) → body_of s r k ≡ limited s BadValue 256) → Shape k
    near : has_inner k ≡ true → k ≤ 6 → ((r : ℕ) → body_of s r k ≡ limited s BadRow r) → Shape k
    far : (n : ℕ) → has_inner k ≡ true → 6 < k → ((r : ℕ) → body_of s r k ≡ with_flags s n r) → Shape k
    bare : has_inner k ≡ false → ((r : ℕ) → body_of s r k ≡ end) → Shape k
    fn : k ≡ Fn → ((r : ℕ) → body_of s r k ≡ signature s r) → Shape k

  pub shape : (k : ℕ) → k < 14 → Shape k
  unfolding body_of row_kinds
  shape zero l = named refl (λ r. refl)
  shape (suc zero) l = near refl (omega arith) (λ r. refl)
  shape (suc (suc zero)) l = near refl (omega arith) (λ r. refl)
  shape (suc (suc (suc zero))) l = near refl (omega arith) (λ r. refl)
  shape (suc (suc (suc (suc zero)))) l = near refl (omega arith) (λ r. refl)
  shape (suc (suc (suc (suc (suc zero))))) l = near refl (omega arith) (λ r. refl)
  shape (suc (suc (suc (suc (suc (suc zero)))))) l = near refl (omega arith) (λ r. refl)
  shape (suc (suc (suc (suc (suc (suc (suc zero))))))) l = far 4 refl (omega arith) (λ r. refl)
  shape (suc (suc (suc (suc (suc (suc (suc (suc zero)))))))) l = far 2 refl (omega arith) (λ r. refl)
  shape (suc (suc (suc (suc (suc (suc (suc (suc (suc zero))))))))) l = bare refl (λ r. refl)
  shape (suc (suc (suc (suc (suc (suc (suc (suc (suc (suc zero)))))))))) l = far 2 refl (omega arith) (λ r. refl)
  shape (suc (suc (suc (suc (suc (suc (suc (suc (suc (suc (suc zero))))))))))) l = far 65536 refl (omega arith) (λ r. refl)
  shape (suc (suc (suc (suc (suc (suc (suc (suc (suc (suc (suc (suc zero)))))))))))) l = fn refl (λ r. refl)
  shape (suc (suc (suc (suc (suc (suc (suc (suc (suc (suc (suc (suc (suc zero))))))))))))) l = bare refl (λ r. refl)
  shape (suc (suc (suc (suc (suc (suc (suc (suc (suc (suc (suc (suc (suc (suc k)))))))))))))) l = absurd (omega arith)

-- ## Row r of an accepted sheet

module _ (s : List ℕ) (acc : Accepted s) (r : ℕ) (l : r < rows s) where
  from : ℕ
  from = offset s r + 2

  ending : ℕ
  ending = (bodies_of s acc).start (suc r)

  row-steps : (kind s r < 14) × (body_of s r (kind s r) from ≡ Ok ending)
  unfolding row kind from ending
  row-steps =
      let b = bodies_of s acc in
      let h : row s r (offset s r) ≡ Ok (b.start (suc r)) = rw (b.row-at r l) (b.row_read r l) in
      let a = after_is (limited s BadValue 14 (offset s r)) (body_of s r (pair_at s (offset s r))) h in
      let c = (limited-reads s BadValue 14).of (offset s r) a.1 in
      (c.0, rw c.1 at a.2)

  by_kind : (k : ℕ) {m : ℕ → Step} {P : ℕ → ℕ → Type 0} → Reads m P → body_of s r k ≡ m → kind s r ≡ k → P from ending
  by_kind k reads b e = reads.of from (rw (e, b) at row-steps.1)

  named-is : kind s r ≡ Ident → row_name s r < 256
  unfolding body_of row_kinds row_name from
  named-is e = (by_kind Ident (limited-reads s BadValue 256) refl e).0

  -- the row inside stands next to the kind
  inner-near : (k : ℕ) → body_of s r k ≡ limited s BadRow r → k ≤ 6 → kind s r ≡ k → inner s r < r
  unfolding inner if'◌then◌else◌ from
  inner-near k b g e = rw (le-leb (kind s r) 6 (rw e g), inner) (by_kind k (limited-reads s BadRow r) b e).0

  -- or behind flags or a length
  flags-are : (k n : ℕ) → body_of s r k ≡ with_flags s n r → kind s r ≡ k → row_flags s r < n
  unfolding row_flags from
  flags-are k n b e = (by_kind k (flagged-reads s r n) b e).0.0

  inner-far : (k n : ℕ) → body_of s r k ≡ with_flags s n r → 6 < k → kind s r ≡ k → inner s r < r
  unfolding inner if'◌then◌else◌ from
  inner-far k n b g e =
      let z : offset s r + 2 + 2 ≡ offset s r + 4 = omega arith in
      rw (lt-leb (kind s r) 6 (rw e g), inner) (rw z at (by_kind k (flagged-reads s r n) b e).0.1)

  falls : (k : ℕ) → has_inner k ≡ true → kind s r ≡ k → inner s r < r
  falls k h e = go (shape s k (rw e at row-steps.0))
    where
      go : Shape s k → inner s r < r
      go (named n b) = never (sym (ap has_inner n) ∙ h)
      go (near _ g b) = inner-near k (b r) g e
      go (far n _ g b) = inner-far k n (b r) g e
      go (bare n b) = never (sym n ∙ h)
      go (fn n b) = never (sym (ap has_inner n) ∙ h)

  fn_is : kind s r ≡ Fn → SignatureAt s r from × (ending ≡ past s (from + 4))
  unfolding body_of row_kinds
  fn_is = by_kind Fn (signature-reads s r) refl

  pub row_of : RowOf s r
  unfolding body_of row_kinds row_flags fn_return fn_arg_count fn_arg from
  row_of =
      let y : offset s r + 2 + 2 ≡ offset s r + 4 = omega arith in
      let z : offset s r + 2 + 4 ≡ offset s r + 6 = omega arith in
      record {
        known = row-steps.0;
        named = named-is;
        inner-falls = falls;
        ref-flags = flags-are Ref 4 refl;
        ptr-flags = flags-are Ptr 2 refl;
        slice-flags = flags-are SliceRef 2 refl;
        fn-flags = λ e. (fn_is e).0.flags;
        return-falls = λ e. rw y at (fn_is e).0.returns;
        few-args = λ e. rw z at (fn_is e).0.args.few;
        arg-falls = λ e. rw z at (fn_is e).0.args.each;
      }

  -- ## How long it is, by its shape

  pub named-long : (k : ℕ) → body_of s r k ≡ limited s BadValue 256 → kind s r ≡ k → (bodies_of s acc).start (suc r) ≡ offset s r + 4
  unfolding from ending
  named-long k b e = omega (arith, (by_kind k (limited-reads s BadValue 256) b e).1)

  pub near-long : (k : ℕ) → body_of s r k ≡ limited s BadRow r → kind s r ≡ k → (bodies_of s acc).start (suc r) ≡ offset s r + 4
  unfolding from ending
  near-long k b e = omega (arith, (by_kind k (limited-reads s BadRow r) b e).1)

  pub far-long : (k n : ℕ) → body_of s r k ≡ with_flags s n r → kind s r ≡ k → (bodies_of s acc).start (suc r) ≡ offset s r + 6
  unfolding from ending
  far-long k n b e = omega (arith, (by_kind k (flagged-reads s r n) b e).1)

  pub bare-long : (k : ℕ) → body_of s r k ≡ end → kind s r ≡ k → (bodies_of s acc).start (suc r) ≡ offset s r + 2
  unfolding from ending
  bare-long k b e = omega (arith, by_kind k nothing_read b e)

  pub fn-size : kind s r ≡ Fn → (bodies_of s acc).start (suc r) ≡ offset s r + 8 + 2 * fn_arg_count s r
  unfolding from ending past fn_arg_count
  fn-size e = let z : offset s r + 2 + 4 ≡ offset s r + 6 = omega arith in let h = rw z at (fn_is e).1 in omega arith

  pub row-size : offset s r + 2 ≤ (bodies_of s acc).start (suc r)
  row-size = go (shape s (kind s r) row-steps.0)
    where
      go : Shape s (kind s r) → offset s r + 2 ≤ (bodies_of s acc).start (suc r)
      go (named n b) = omega (arith, named-long (kind s r) (b r) refl)
      go (near _ g b) = omega (arith, near-long (kind s r) (b r) refl)
      go (far n _ g b) = omega (arith, far-long (kind s r) n (b r) refl)
      go (bare n b) = omega (arith, bare-long (kind s r) (b r) refl)
      go (fn n b) = omega (arith, fn-size n)
