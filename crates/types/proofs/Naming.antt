-- What is known of the names with one item more: the item's tests by its kind are the rules' (`is_struct` ..), and the columns are entered one after another,
-- the first c of them with the item and the others still without (`Partly`). With all of them entered, each is that of one item more; and of every column the
-- set is the rules' (`set_is`).
-- Assumes nothing.
use Prim.Native.Nat.{ℕ, zero, suc, ◌+◌, ◌≤◌, ◌<◌}
use mathlib.Core.Path.{◌≡◌, refl, sym, ◌∙◌}
use mathlib.Core.Logic.{◌⊎◌, inl, inr}
use mathlib.Core.Bool.{Bool, true, false, not, ◌&&◌, ◌||◌}
use mathlib.Core.List.{List}
use native.Mathlib.Omega.{arith}
use lib.ListN.{length, replicate, length-replicate}
use lib.Dec.{T, eqb, eqb→eq}
use denote.Enum.Declared.{tag_of}
use Rattle.rules.specs.contracts.item.ItemKind.{the_type}
use Rattle.rules.specs.declared.item.ItemKind.{ItemKind}
use Rattle.rules.specs.declared.item.ItemKind.TheVariants as variant
use Rattle.rules.specs.Kinds.{item_number}
use Rattle.rules.specs.Numbers.{Struct, Enum, CxxType, RustType, TypeAlias, name_count, most_items}
use Rattle.rules.specs.Format.{Accepted}
use Rattle.rules.specs.View.{type_kind, enum_kind, function_kind, items, item_kind, item_is, is_enum_item, is_type, is_function, item_name, type_trusted}
use Rattle.rules.specs.Collect.{names_to, enters_structs, enters_enums, enters_cxx, enters_rust, enters_aliases, enters_untrusted}
use Rattle.laws.proofs.Base.Counts.{Eq?, same, other, eq?}
use Rattle.laws.proofs.Base.Tests.{holds, or_cases, and_left}
use Rattle.laws.proofs.Sheet.Accepted.{type-named}
use Rattle.laws.proofs.Sheet.Accepted.Sheet.{sheet-of}
use Rattle.laws.proofs.Names.LastItems.{kind-type}
use Rattle.names.specs.Known.{column_count, table_size, names_in, LastColumn, entered}
use Rattle.names.proofs.Columns.{entered-long}
use Rattle.names.proofs.LastColumns.{names-are, column-start, column-skip, column-there, column-here}
use Rattle.types.specs.Named.{Item, enters_column, Named}

-- ## The tests by kinds

-- `==` compares the numbers
pub tag-is : (k : ItemKind) → tag_of the_type k ≡ item_number k
tag-is variant.Include = refl
tag-is variant.Struct = refl
tag-is variant.Enum = refl
tag-is variant.CxxType = refl
tag-is variant.RustType = refl
tag-is variant.CxxFunction = refl
tag-is variant.RustFunction = refl
tag-is variant.TypeAlias = refl
tag-is variant.Impl = refl

pub same-kind : (k : ItemKind) (n : ℕ) {b : Bool} → b ≡ eqb (tag_of the_type k) n → b ≡ eqb (item_number k) n
same-kind k n e = rw (tag-is k) at e

module _ {s : List ℕ} {i k n : ℕ} (h : Item s i k n) where
  pub is_struct : eqb k Struct ≡ enters_structs s i
  unfolding enters_structs item_is
  is_struct = rw h.kind

  pub is-enum : {b : Bool} → b ≡ enum_kind k → b ≡ enters_enums s i
  unfolding enters_enums is_enum_item
  is-enum e = rw h.kind at e

  pub is-cxx : {b : Bool} → b ≡ (eqb k CxxType || eqb k TypeAlias) → b ≡ enters_cxx s i
  unfolding enters_cxx item_is
  is-cxx e = rw h.kind at e

  pub is-rust : eqb k RustType ≡ enters_rust s i
  unfolding enters_rust item_is
  is-rust = rw h.kind

  pub is-alias : eqb k TypeAlias ≡ enters_aliases s i
  unfolding enters_aliases item_is
  is-alias = rw h.kind

  pub is-untrusted : {b t : Bool} → t ≡ type_trusted s i → b ≡ (eqb k CxxType && not t) → b ≡ enters_untrusted s i
  unfolding enters_untrusted item_is
  is-untrusted e q = rw (h.kind, e) at q

  pub is-type : {b : Bool} → b ≡ type_kind k → b ≡ is_type s i
  unfolding is_type
  is-type e = rw h.kind at e

  pub is_function_lem : {b : Bool} → b ≡ function_kind k → b ≡ is_function s i
  unfolding is_function
  is_function_lem e = rw h.kind at e

  pub few : i < most_items
  few = let f = (sheet-of s h.accepted).few-items in let b = h.below in omega arith

-- what enters a column is a type, and so it has a name
enters-type : (s : List ℕ) (k i : ℕ) → T (enters_column s k i) → T (is_type s i)
unfolding enters_structs enters_enums is_enum_item enters_cxx enters_rust enters_aliases enters_untrusted item_is
enters-type s zero i t = kind-type s Struct tt i (eqb→eq (item_kind s i) Struct t)
enters-type s (suc zero) i t = kind-type s Enum tt i (eqb→eq (item_kind s i) Enum t)
enters-type s (suc (suc zero)) i t = by (or_cases (eqb (item_kind s i) CxxType) (eqb (item_kind s i) TypeAlias) t)
  where
    by : T (eqb (item_kind s i) CxxType) ⊎ T (eqb (item_kind s i) TypeAlias) → T (is_type s i)
    by (inl u) = kind-type s CxxType tt i (eqb→eq (item_kind s i) CxxType u)
    by (inr u) = kind-type s TypeAlias tt i (eqb→eq (item_kind s i) TypeAlias u)
enters-type s (suc (suc (suc zero))) i t = kind-type s RustType tt i (eqb→eq (item_kind s i) RustType t)
enters-type s (suc (suc (suc (suc zero)))) i t = kind-type s TypeAlias tt i (eqb→eq (item_kind s i) TypeAlias t)
enters-type s (suc (suc (suc (suc (suc zero))))) i t =
    kind-type s CxxType tt i (eqb→eq (item_kind s i) CxxType (and_left (eqb (item_kind s i) CxxType) (not (type_trusted s i)) t))
enters-type s (suc (suc (suc (suc (suc (suc zero)))))) i t = absurd t
enters-type s (suc (suc (suc (suc (suc (suc (suc zero))))))) i t = t
enters-type s (suc (suc (suc (suc (suc (suc (suc (suc k)))))))) i t = absurd t

enters-named : (s : List ℕ) → Accepted s → (k i : ℕ) → i < items s → T (enters_column s k i) → item_name s i < name_count
enters-named s acc k i l t = type-named s acc i l (enters-type s k i t)

-- ## What is known

-- of no items: a table of zeros
pub named_none : (s : List ℕ) (m : ℕ) → m ≡ table_size → Named s 0 (replicate m 0)
named_none s m e = record { long = length-replicate {A = ℕ} m 0 ∙ e; column = λ k l. column-start s (enters_column s k) m k l }

module _ {s : List ℕ} (acc : Accepted s) {i : ℕ} (l : i ≤ items s) {w : List ℕ} (h : Named s i w) (k : ℕ) (c : k < column_count) where
  pub set_is : names_in w k ≡ names_to s (enters_column s k) i
  set_is =
      names-are s (enters_column s k) i (let f = (sheet-of s acc).few-items in omega arith) (λ j m t. enters-named s acc k j (omega arith) t) (h.column k c)

-- ## One item more

-- the first c columns have item i too
pub record Partly (s : List ℕ) (i c : ℕ) (w : List ℕ) : Type 0 where
  pub long : length w ≡ table_size
  pub done : (k : ℕ) → k < c → LastColumn s (enters_column s k) (i + 1) w k
  pub left : (k : ℕ) → c ≤ k → k < column_count → LastColumn s (enters_column s k) i w k

pub enter-first : {s : List ℕ} {i : ℕ} {w : List ℕ} → Named s i w → Partly s i 0 w
enter-first h = record { long = h.long; done = λ k l. absurd (omega arith); left = λ k _ l. h.column k l }

pub enter-last : {s : List ℕ} {i : ℕ} {w : List ℕ} → Partly s i column_count w → Named s (i + 1) w
enter-last h = record { long = h.long; column = h.done }

-- no item enters the column of the reasons
pub enter-none : {s : List ℕ} {i : ℕ} {w : List ℕ} (c : ℕ) → c < column_count → enters_column s c i ≡ false → Partly s i c w → Partly s i (c + 1) w
enter-none {s} {i} {w} c l e h = record { long = h.long; done = λ k m. go k m (eq? k c); left = λ k m o. h.left k (omega arith) o }
  where
    go : (k : ℕ) → k < c + 1 → Eq? k c → LastColumn s (enters_column s k) (i + 1) w k
    go k m (same _ q) = rw q (column-skip s (enters_column s c) i e (h.left c (omega arith) l))
    go k m (other _ q) = h.done k (omega arith)

-- a column is entered
pub enter-next : {s : List ℕ} {i k n : ℕ} {w u : List ℕ} {so : Bool} {x : ℕ} (c : ℕ) → c < column_count → Item s i k n → Partly s i c w
    → so ≡ enters_column s c i
    → x ≡ i + 1
    → u ≡ entered w c so n x
    → Partly s i (c + 1) u
enter-next {s} {i} {k} {n} {w} {u} {so} {x} c l item h e d q =
    rw (q, d)
    (record {
      long = entered-long w c n (i + 1) so ∙ h.long;
      done = λ j m. go j m (eq? j c);
      left = λ j m o. there j o (λ t. omega arith) (h.left j (omega arith) o);
    })
  where
    there : (j : ℕ) → j < column_count → (j ≡ c → ⊥) → {p : ℕ → Bool} {r : ℕ} → LastColumn s p r w j → LastColumn s p r (entered w c so n (i + 1)) j
    there j o ne {p} {r} a = column-there w h.long c l s p r so n (i + 1) j ne o a

    small : so ≡ true → n < name_count
    small t = rw item.name (enters-named s item.accepted c i item.below (holds (sym e ∙ t)))

    go : (j : ℕ) → j < c + 1 → Eq? j c → LastColumn s (enters_column s j) (i + 1) (entered w c so n (i + 1)) j
    go j m (same _ t) = rw t (column-here w h.long c l s (enters_column s c) i so e n item.name small (few item) (h.left c (omega arith) l))
    go j m (other _ t) = there j (omega arith) t (h.done j (omega arith))
