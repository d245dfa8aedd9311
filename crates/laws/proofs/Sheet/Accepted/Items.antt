-- The items of an accepted sheet, by kinds: names, counts and rows within their limits.
-- Assumes nothing.
use Prim.Native.Nat.{ℕ, zero, suc, ◌+◌, ◌*◌, ◌≤◌, ◌<◌}
use mathlib.Core.Path.{◌≡◌, refl, sym, ap, ◌∙◌}
use mathlib.Core.List.{List}
use mathlib.Core.Logic.{◌⊎◌, inl, inr}
use mathlib.Core.Bool.{Bool, true, false}
use native.Mathlib.Omega.{arith}
use lib.ListN.{length}
use lib.Dec.{eqb}
use borrow.Author.Tests.{eqb-true}
use Rattle.rules.specs.Numbers.{Ident, Struct, Enum, CxxType, RustType, CxxFunction, RustFunction, TypeAlias, Impl}
use Rattle.std.specs.Prelude.{Ok}
use Rattle.rules.specs.Base.{if'◌then◌else◌}
use Rattle.rules.specs.declared.Fault.TheVariants.{BadValue, BadRow}
use Rattle.rules.specs.Format.{Step, pair_at, offset, limited, function, item_kinds, item_of, item, Accepted}
use Rattle.rules.specs.View.{type_kind, function_kind, rows, kind, items, item_place, item_kind}
use Rattle.rules.specs.View.{item_is, is_type, is_function, item_name, past, lifetimes_place, lifetime_count, lifetime, derives_place, derive_count}
use Rattle.rules.specs.View.{derive, rest}
use Rattle.rules.specs.View.{field_count, field, enum_repr, enum_variants, enum_defaults, receiver_place, form, self_type, return_place, return, arg_count, arg}
use Rattle.rules.specs.View.{impl_row}
use Rattle.laws.specs.Kinds.{RowOrNone}
use Rattle.laws.proofs.Sheet.Accepted.Steps.{after_is, Reads, ◌then◌, nothing_read, ListAt, HeadAt, ReceiverAt, limited-reads, or_none-reads}
use Rattle.laws.proofs.Sheet.Accepted.Steps.{list-reads, head-reads, repr-reads, variants-reads, receiver-reads}
use Rattle.laws.proofs.Sheet.Accepted.Sheet.{bodies_of}
use Rattle.laws.proofs.Base.Tests.{never, or_is}

module _ (s : List ℕ) (i : ℕ) where
  pub record LifetimesOf : Type 0 where
    pub few : lifetime_count s i ≤ 8
    pub small : (j : ℕ) → j < lifetime_count s i → lifetime s i j < 256

  -- a struct, enum, CxxType, RustType or alias
  pub record TypeOf : Type 0 where
    pub named : item_name s i < 256
    pub lifetimes : LifetimesOf
    pub few-derives : derive_count s i ≤ 16
    pub derive-known : (j : ℕ) → j < derive_count s i → derive s i j < 15

  pub record StructOf : Type 0 where
    pub few-fields : field_count s i ≤ 64
    pub field_below : (j : ℕ) → j < field_count s i → field s i j < rows s
    pub fields-inside : (j : ℕ) → j < field_count s i → rest s i + 4 + 2 * j ≤ length s

  pub record EnumOf : Type 0 where
    pub repr-below : enum_repr s i < rows s
    pub repr-plain : kind s (enum_repr s i) ≡ Ident
    pub few-variants : enum_variants s i ≤ 255
    pub few-defaults : enum_defaults s i ≤ enum_variants s i

  pub record FunctionOf : Type 0 where
    pub named : item_name s i < 256
    pub lifetimes : LifetimesOf
    pub form-known : form s i < 3
    pub self-named : (form s i ≡ 0 → ⊥) → self_type s i < 256
    pub return-below : RowOrNone (rows s) (return s i)
    pub few-args : arg_count s i ≤ 16
    pub arg-below : (j : ℕ) → j < arg_count s i → arg s i j < rows s
    pub args-inside : (j : ℕ) → j < arg_count s i → return_place s i + 2 + 4 + 2 * j ≤ length s

  pub record ImplOf : Type 0 where
    pub row_below : impl_row s i < rows s
    pub lifetimes : LifetimesOf

  pub record ItemOf : Type 0 where
    pub known : item_kind s i < 9
    pub as-type : is_type s i ≡ true → TypeOf
    pub as_struct : item_kind s i ≡ Struct → StructOf
    pub as_enum : item_kind s i ≡ Enum → EnumOf
    pub as_function : is_function s i ≡ true → FunctionOf
    pub as-impl : item_kind s i ≡ Impl → ImplOf

  -- in bytes: `next` is the place behind the item
  pub record Sizes (next : ℕ) : Type 0 where
    pub struct : item_kind s i ≡ Struct → next ≡ item_place s i + 10 + 2 * lifetime_count s i + 2 * derive_count s i + 2 * field_count s i
    pub enum : item_kind s i ≡ Enum → next ≡ item_place s i + 16 + 2 * lifetime_count s i + 2 * derive_count s i
    pub opaque : (item_kind s i ≡ CxxType) ⊎ (item_kind s i ≡ RustType) → next ≡ item_place s i + 10 + 2 * lifetime_count s i + 2 * derive_count s i
    pub function : (item_kind s i ≡ CxxFunction) ⊎ (item_kind s i ≡ RustFunction)
        → next ≡ item_place s i + 14 + 2 * lifetime_count s i + 2 * form s i + 2 * arg_count s i
    pub alias : item_kind s i ≡ TypeAlias → next ≡ item_place s i + 8 + 2 * lifetime_count s i + 2 * derive_count s i
    pub impl : item_kind s i ≡ Impl → next ≡ item_place s i + 8 + 2 * lifetime_count s i
    pub include : item_kind s i ≡ 0 → next ≡ item_place s i + 2

-- ## From a kind to a test

pub kind-type : (s : List ℕ) (i k : ℕ) → item_kind s i ≡ k → is_type s i ≡ type_kind k
unfolding is_type
kind-type s i k e = ap type_kind e

pub kind-function : (s : List ℕ) (i k : ℕ) → item_kind s i ≡ k → is_function s i ≡ function_kind k
unfolding is_function item_is
kind-function s i k e = ap function_kind e

-- ## What stands behind the kind

module _ (s : List ℕ) (T : ℕ) where
  record FunctionAt (at q : ℕ) : Type 0 where
    name : pair_at s at < 256
    lifetimes : ListAt s 8 256 (at + 4)
    receiver : ReceiverAt s (past s (at + 4))
    -- where the return stands
    return : ℕ
    there : return ≡ past s (at + 4) + 2 + 2 * pair_at s (past s (at + 4))
    returns : RowOrNone T (pair_at s return)
    args : ListAt s 16 T (return + 2)
    ends : q ≡ past s (return + 2)

  function-reads : (flags : ℕ) → Reads (function s flags T) FunctionAt
  unfolding function
  function-reads flags =
      record {
        of = λ at h.
            let named-flagged = limited-reads s BadValue 256 then limited-reads s BadValue flags in
            let a = (named-flagged then list-reads s 8 BadValue 256 then receiver-reads s then or_none-reads s T then list-reads s 16 BadRow T).of at h in
            let b = a.1.1.1 in
            let lifetimes = b.2 in
            let receiver = a.1.1.2 in
            let returns = a.1.2 in
            let args = a.2 in
            let p : b.0 ≡ at + 4 = omega (arith, b.1.1.1, b.1.2.1) in
            let q : a.1.1.0 ≡ past s (at + 4) = rw p at lifetimes.1 in
            let e : a.0 ≡ a.1.0 + 2 = returns.1 in
            record {
              name = b.1.1.0;
              lifetimes = rw p at lifetimes.0;
              receiver = rw q at receiver.0;
              return = a.1.0;
              there = rw q at receiver.1;
              returns = returns.0;
              args = rw e at args.0;
              ends = rw e at args.1;
            };
      }

-- ## Item i of an accepted sheet

module _ (s : List ℕ) (acc : Accepted s) (i : ℕ) (l : i < items s) where
  from : ℕ
  from = item_place s i + 2

  ending : ℕ
  ending = (bodies_of s acc).start (suc (rows s + i))

  item-steps : (item_kind s i < 9) × (item_of s (rows s) (item_kind s i) from ≡ Ok ending)
  unfolding item item_kind item_place from ending
  item-steps =
      let b = bodies_of s acc in
      let at = offset s (rows s + i) in
      let h : item s (rows s) at ≡ Ok (b.start (suc (rows s + i))) = rw (b.item-at i l) (b.item-read i l) in
      let a = after_is (limited s BadValue 9 at) (item_of s (rows s) (pair_at s at)) h in
      let c = (limited-reads s BadValue 9).of at a.1 in
      (c.0, rw c.1 at a.2)

  by_kind : (k : ℕ) {m : ℕ → Step} {P : ℕ → ℕ → Type 0} → Reads m P → item_of s (rows s) k ≡ m → item_kind s i ≡ k → P from ending
  by_kind k reads b e = reads.of from (rw (e, b) at item-steps.1)

  -- ### Types

  -- the place behind the derives
  head-ends : past s (past s (from + 2)) ≡ rest s i
  unfolding rest derives_place from
  head-ends = let z : item_place s i + 2 + 2 ≡ item_place s i + 4 = omega arith in rw z

  head-is : (k : ℕ) → k < 9 → type_kind k ≡ true → item_kind s i ≡ k → HeadAt s from
  unfolding item_of item_kinds
  head-is zero l t e = never t
  head-is (suc zero) l t e = (by_kind 1 (head-reads s then list-reads s 64 BadRow (rows s)) refl e).1.0
  head-is (suc (suc zero)) l t e = (by_kind 2 (head-reads s then repr-reads s (rows s) then limited-reads s BadValue 2 then variants-reads s) refl e).1.1.1.0
  head-is (suc (suc (suc zero))) l t e = (by_kind 3 (head-reads s then limited-reads s BadValue 4) refl e).1.0
  head-is (suc (suc (suc (suc zero)))) l t e = (by_kind 4 (head-reads s then limited-reads s BadValue 4) refl e).1.0
  head-is (suc (suc (suc (suc (suc zero))))) l t e = never t
  head-is (suc (suc (suc (suc (suc (suc zero)))))) l t e = never t
  head-is (suc (suc (suc (suc (suc (suc (suc zero))))))) l t e = (by_kind 7 (head-reads s) refl e).0
  head-is (suc (suc (suc (suc (suc (suc (suc (suc zero)))))))) l t e = never t
  head-is (suc (suc (suc (suc (suc (suc (suc (suc (suc k))))))))) l t e = absurd (omega arith)

  lifetimes-place : (b : Bool) → is_type s i ≡ b → lifetimes_place s i ≡ (if' b then item_place s i + 4 else item_place s i + 6)
  unfolding lifetimes_place
  lifetimes-place b e = rw e

  lifetimes-are : (at : ℕ) → lifetimes_place s i ≡ at → ListAt s 8 256 at → LifetimesOf s i
  unfolding lifetime_count lifetime
  lifetimes-are at e a = record { few = rw e a.few; small = rw e a.each }

  type-is : is_type s i ≡ true → TypeOf s i
  unfolding item_name derive_count derive derives_place if'◌then◌else◌ from
  type-is t =
      let z : item_place s i + 2 + 2 ≡ item_place s i + 4 = omega arith in
      let h = head-is (item_kind s i) item-steps.0 (sym (kind-type s i (item_kind s i) refl) ∙ t) refl in
      record {
        named = h.name;
        lifetimes = lifetimes-are (item_place s i + 4) (lifetimes-place true t) (rw z at h.lifetimes);
        few-derives = rw z at h.derives.few;
        derive-known = rw z at h.derives.each;
      }

  struct_is : item_kind s i ≡ Struct → StructOf s i
  unfolding item_of item_kinds field_count field
  struct_is k =
      let a = by_kind Struct (head-reads s then list-reads s 64 BadRow (rows s)) refl k in
      let e : a.0 ≡ rest s i = a.1.1 ∙ head-ends in
      record { few-fields = rw e at a.2.0.few; field_below = rw e at a.2.0.each; fields-inside = rw e at a.2.0.inside }

  enum_is : item_kind s i ≡ Enum → EnumOf s i
  unfolding item_of item_kinds enum_repr enum_variants enum_defaults
  enum_is k =
      let a = by_kind Enum (head-reads s then repr-reads s (rows s) then limited-reads s BadValue 2 then variants-reads s) refl k in
      let e : a.1.1.0 ≡ rest s i = a.1.1.1.1 ∙ head-ends in
      let v : a.0 ≡ rest s i + 4 = omega (arith, a.1.1.2.1, a.1.2.1) in
      let w : rest s i + 4 + 2 ≡ rest s i + 6 = omega arith in
      record {
        repr-below = rw e at a.1.1.2.0.0;
        repr-plain = rw e at a.1.1.2.0.1;
        few-variants = rw v at a.2.0.0;
        few-defaults = rw (v, w) at a.2.0.1;
      }

  -- ### Functions and impls

  function-kinds : is_function s i ≡ true → (item_kind s i ≡ CxxFunction) ⊎ (item_kind s i ≡ RustFunction)
  unfolding is_function item_is
  function-kinds t = by (or_is (eqb (item_kind s i) 5) (eqb (item_kind s i) 6) t)
    where
      by : (eqb (item_kind s i) 5 ≡ true) ⊎ (eqb (item_kind s i) 6 ≡ true) → (item_kind s i ≡ CxxFunction) ⊎ (item_kind s i ≡ RustFunction)
      by (inl e) = inl (eqb-true (item_kind s i) 5 e)
      by (inr e) = inr (eqb-true (item_kind s i) 6 e)

  -- the lifetimes of what is no type stand behind a pair more
  lifetimes-far : (k : ℕ) → item_kind s i ≡ k → type_kind k ≡ false → lifetimes_place s i ≡ item_place s i + 6
  unfolding if'◌then◌else◌
  lifetimes-far k e n = lifetimes-place false (kind-type s i k e ∙ n)

  function-at : (k : ℕ) → type_kind k ≡ false → item_kind s i ≡ k → FunctionAt s (rows s) from ending → FunctionOf s i
  unfolding item_name form self_type return arg_count arg receiver_place return_place from
  function-at k n e h =
      let z : item_place s i + 2 + 4 ≡ item_place s i + 6 = omega arith in
      let there : h.return ≡ past s (item_place s i + 6) + 2 + 2 * pair_at s (past s (item_place s i + 6)) = rw z at h.there in
      record {
        named = h.name;
        lifetimes = lifetimes-are (item_place s i + 6) (lifetimes-far k e n) (rw z at h.lifetimes);
        form-known = rw z at h.receiver.known;
        self-named = rw z at h.receiver.named;
        return-below = rw there at h.returns;
        few-args = rw there at h.args.few;
        arg-below = rw there at h.args.each;
        args-inside = rw there at h.args.inside;
      }

  function-is : (item_kind s i ≡ CxxFunction) ⊎ (item_kind s i ≡ RustFunction) → FunctionOf s i
  unfolding item_of item_kinds
  function-is (inl e) = function-at 5 refl e (by_kind 5 (function-reads s (rows s) 8) refl e)
  function-is (inr e) = function-at 6 refl e (by_kind 6 (function-reads s (rows s) 4) refl e)

  impl-is : item_kind s i ≡ Impl → ImplOf s i
  unfolding item_of item_kinds impl_row from
  impl-is k =
      let a = by_kind Impl (limited-reads s BadRow (rows s) then limited-reads s BadValue 2 then list-reads s 8 BadValue 256) refl k in
      let e : a.0 ≡ item_place s i + 6 = omega (arith, a.1.1.1, a.1.2.1) in
      record { row_below = a.1.1.0; lifetimes = lifetimes-are (item_place s i + 6) (lifetimes-far 8 k refl) (rw e at a.2.0) }

  pub item-of : ItemOf s i
  item-of =
      record {
        known = item-steps.0;
        as-type = type-is;
        as_struct = struct_is;
        as_enum = enum_is;
        as_function = λ t. function-is (function-kinds t);
        as-impl = impl-is;
      }

  -- ## How long it is

  -- the place behind the derives, in numbers
  rest-is : is_type s i ≡ true → rest s i ≡ item_place s i + 8 + 2 * lifetime_count s i + 2 * derive_count s i
  unfolding rest derives_place past lifetime_count derive_count if'◌then◌else◌
  rest-is t = rw (lifetimes-place true t) (omega arith)

  struct-size : item_kind s i ≡ Struct → ending ≡ item_place s i + 10 + 2 * lifetime_count s i + 2 * derive_count s i + 2 * field_count s i
  unfolding item_of item_kinds field_count past
  struct-size k =
      let a = by_kind Struct (head-reads s then list-reads s 64 BadRow (rows s)) refl k in
      let e : a.0 ≡ rest s i = a.1.1 ∙ head-ends in
      let q : ending ≡ rest s i + 2 + 2 * pair_at s (rest s i) = rw e at a.2.1 in
      omega (arith, rest-is (kind-type s i 1 k))

  enum-size : item_kind s i ≡ Enum → ending ≡ item_place s i + 16 + 2 * lifetime_count s i + 2 * derive_count s i
  unfolding item_of item_kinds
  enum-size k =
      let a = by_kind Enum (head-reads s then repr-reads s (rows s) then limited-reads s BadValue 2 then variants-reads s) refl k in
      let e : a.1.1.0 ≡ rest s i = a.1.1.1.1 ∙ head-ends in
      omega (arith, a.1.1.2.1, a.1.2.1, a.2.1, rest-is (kind-type s i 2 k))

  opaque-size : (item_kind s i ≡ CxxType) ⊎ (item_kind s i ≡ RustType) → ending ≡ item_place s i + 10 + 2 * lifetime_count s i + 2 * derive_count s i
  unfolding item_of item_kinds
  opaque-size = by
    where
      of : (k : ℕ) → type_kind k ≡ true → item_kind s i ≡ k
          → (p : ℕ) × (HeadAt s from × (p ≡ past s (past s (from + 2)))) × ((pair_at s p < 4) × (ending ≡ p + 2))
          → ending ≡ item_place s i + 10 + 2 * lifetime_count s i + 2 * derive_count s i
      of k t e a = omega (arith, a.1.1 ∙ head-ends, a.2.1, rest-is (kind-type s i k e ∙ t))

      by : (item_kind s i ≡ CxxType) ⊎ (item_kind s i ≡ RustType) → ending ≡ item_place s i + 10 + 2 * lifetime_count s i + 2 * derive_count s i
      by (inl e) = of 3 refl e (by_kind 3 (head-reads s then limited-reads s BadValue 4) refl e)
      by (inr e) = of 4 refl e (by_kind 4 (head-reads s then limited-reads s BadValue 4) refl e)

  alias-size : item_kind s i ≡ TypeAlias → ending ≡ item_place s i + 8 + 2 * lifetime_count s i + 2 * derive_count s i
  unfolding item_of item_kinds
  alias-size e = omega (arith, (by_kind 7 (head-reads s) refl e).1 ∙ head-ends, rest-is (kind-type s i 7 e))

  function-size : (item_kind s i ≡ CxxFunction) ⊎ (item_kind s i ≡ RustFunction)
      → ending ≡ item_place s i + 14 + 2 * lifetime_count s i + 2 * form s i + 2 * arg_count s i
  unfolding item_of item_kinds past lifetime_count form arg_count receiver_place return_place from
  function-size = by
    where
      of : (k : ℕ) → type_kind k ≡ false → item_kind s i ≡ k → FunctionAt s (rows s) from ending
          → ending ≡ item_place s i + 14 + 2 * lifetime_count s i + 2 * form s i + 2 * arg_count s i
      of k n e h =
          let z : item_place s i + 2 + 4 ≡ item_place s i + 6 = omega arith in
          let there : h.return ≡ past s (item_place s i + 6) + 2 + 2 * pair_at s (past s (item_place s i + 6)) = rw z at h.there in
          let q : ending ≡ past s (past s (item_place s i + 6) + 2 + 2 * pair_at s (past s (item_place s i + 6)) + 2) = rw there at h.ends in
          rw (lifetimes-far k e n) (omega arith)

      by : (item_kind s i ≡ CxxFunction) ⊎ (item_kind s i ≡ RustFunction)
          → ending ≡ item_place s i + 14 + 2 * lifetime_count s i + 2 * form s i + 2 * arg_count s i
      by (inl e) = of 5 refl e (by_kind 5 (function-reads s (rows s) 8) refl e)
      by (inr e) = of 6 refl e (by_kind 6 (function-reads s (rows s) 4) refl e)

  impl-size : item_kind s i ≡ Impl → ending ≡ item_place s i + 8 + 2 * lifetime_count s i
  unfolding item_of item_kinds past lifetime_count from
  impl-size k =
      let a = by_kind Impl (limited-reads s BadRow (rows s) then limited-reads s BadValue 2 then list-reads s 8 BadValue 256) refl k in
      let e : a.0 ≡ item_place s i + 6 = omega (arith, a.1.1.1, a.1.2.1) in
      let q : ending ≡ item_place s i + 6 + 2 + 2 * pair_at s (item_place s i + 6) = rw e at a.2.1 in
      rw (lifetimes-far 8 k refl) (omega arith)

  pub item-sizes : Sizes s i ((bodies_of s acc).start (suc (rows s + i)))
  unfolding item_of item_kinds from ending
  item-sizes =
      record {
        struct = struct-size;
        enum = enum-size;
        opaque = opaque-size;
        function = function-size;
        alias = alias-size;
        impl = impl-size;
        include = by_kind 0 nothing_read refl;
      }
