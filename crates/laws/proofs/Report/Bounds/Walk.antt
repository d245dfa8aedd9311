-- The visits that the walk makes, in the words of the sheet: one for each struct item, and one for each plain field of a struct item that bears a struct's
-- name. At most so many of message 2, less the struct items.
-- Assumes nothing.
use Prim.Native.Nat.{ℕ, zero, suc, ◌+◌, ◌*◌, ◌≤◌}
use mathlib.Core.Path.{◌≡◌, refl, ap, ◌∙◌}
use mathlib.Core.Bool.{Bool, true, false, not, ◌&&◌}
use mathlib.Core.List.{List}
use native.Mathlib.Omega.{arith}
use lib.Dec.{eqb, ltb}
use lib.ListN.{length, get_or, set, replicate, length-append}
use Rattle.rules.specs.Numbers.{Ident, Struct, no_item}
use Rattle.rules.specs.Diagnostics.{bit}
use Rattle.rules.specs.Graph.{Graph}
use Rattle.rules.specs.Walk.{Out, still, blame, blamed, seen, finished, field_out, fields_out, visit_out, item_out, items_out, sort_out}
use Rattle.laws.proofs.Base.Sums.{sum_to, sum_same, sum-add, sum-cut}
use Rattle.rules.specs.View.{is, row_name, items, item_kind, item_is, field_count, field}
use Rattle.rules.specs.Base.{if'◌then◌else◌}
use Rattle.rules.specs.Collect.{enters_structs}
use Rattle.rules.specs.Types.{Types, types_of, is_struct, struct_of}
use Rattle.rules.specs.Order.{graph_of, walk_of, plain_lead}
use Rattle.rules.specs.Collect.{structs_to}
use Rattle.rules.specs.Rule3.{Borne}
use Rattle.laws.proofs.Base.Counts.{Eq?, same, other, eq?}
use Rattle.laws.proofs.Base.Tests.{bit_le, holds, fails}
use Rattle.laws.proofs.Names.LastItems.{Last, no_one, last, last-is, of-last, enters-struct}
use Rattle.laws.proofs.Rule3.PlainFields.{good}
use Rattle.laws.proofs.Graph.WalkCalls.{leading, work, calls_are}
use Rattle.laws.specs.Visits.{struct_named, named_fields, named_to}
use borrow.Author.Tests.{lt-ltb, ltb-true, eqb-true}
use Rattle.rules.specs.Format.{Accepted}
use Rattle.laws.proofs.Sheet.Accepted.{few-items}
use Rattle.laws.proofs.Sheet.Accepted.Items.{item-of}
use Rattle.laws.proofs.Names.SetMembers.{structs-are, borne-small}

-- ## Over any graph: a failed field was visited

module _ (G : Graph) where
  -- the visits pay for the messages, and for one more where the visit failed
  Paid : Out → Type 0
  Paid a = length a.errors + bit (not a.ok) ≤ a.calls

  blame-length : (b : Bool) (i k : ℕ) → length (blame b i k) ≡ bit (not b)
  blame-length true i k = refl
  blame-length false i k = refl

  field-paid : (v : List ℕ → ℕ → Out) → ((m : List ℕ) (j : ℕ) → Paid (v m j)) → (i k : ℕ) (m : List ℕ)
      → length (field_out v G i k m).errors ≤ (field_out v G i k m).calls
  unfolding field_out Paid
  field-paid v h i k m = go (eqb (G.to i k) 255)
    where
      go : (b : Bool) → length (elim b as (λ _. Out) [ true ↦ still m | false ↦ blamed i k (v m (G.to i k)) ]).errors
          ≤ (elim b as (λ _. Out) [ true ↦ still m | false ↦ blamed i k (v m (G.to i k)) ]).calls
      go true = omega arith
      go false = let a = v m (G.to i k) in omega (arith, h m (G.to i k), length-append a.errors (blame a.ok i k), blame-length a.ok i k)

  fields-paid : (v : List ℕ → ℕ → Out) → ((m : List ℕ) (j : ℕ) → Paid (v m j)) → (i k : ℕ) (m : List ℕ)
      → length (fields_out v G i k m).errors ≤ (fields_out v G i k m).calls
  unfolding fields_out
  fields-paid v h i zero m = omega arith
  fields-paid v h i (suc k) m =
      let a = fields_out v G i k m in
      let b = field_out v G i k a.marks in
      omega (arith, fields-paid v h i k m, field-paid v h i k a.marks, length-append a.errors b.errors)

  -- a visit with fuel
  visit-pays : (f : ℕ) → ((m : List ℕ) (j : ℕ) → Paid (visit_out f G m j)) → (m : List ℕ) (i : ℕ)
      → length (visit_out (suc f) G m i).errors + 1 ≤ (visit_out (suc f) G m i).calls
  unfolding visit_out
  visit-pays f h m i = go (eqb (get_or m i 0) 0)
    where
      all : Out
      all = fields_out (visit_out f G) G i (G.fields i) (set m i 1)

      go : (b : Bool) → length (elim b as (λ _. Out) [ true ↦ finished i all | false ↦ seen (eqb (get_or m i 0) 2) m ]).errors + 1
          ≤ (elim b as (λ _. Out) [ true ↦ finished i all | false ↦ seen (eqb (get_or m i 0) 2) m ]).calls
      go true = omega (arith, fields-paid (visit_out f G) h i (G.fields i) (set m i 1))
      go false = omega arith

  visit-paid : (f : ℕ) (m : List ℕ) (j : ℕ) → Paid (visit_out f G m j)
  unfolding visit_out Paid
  visit-paid zero m j = omega arith
  visit-paid (suc f) m j = omega (arith, visit-pays f (visit-paid f) m j, bit_le (not (visit_out (suc f) G m j).ok))

  item-pays : (f i : ℕ) (m : List ℕ) → length (item_out (suc f) G i m).errors + bit (G.struct i) ≤ (item_out (suc f) G i m).calls
  unfolding item_out
  item-pays f i m = go (G.struct i)
    where
      go : (b : Bool) → length (elim b as (λ _. Out) [ true ↦ visit_out (suc f) G m i | false ↦ still m ]).errors + bit b
          ≤ (elim b as (λ _. Out) [ true ↦ visit_out (suc f) G m i | false ↦ still m ]).calls
      go true = visit-pays f (visit-paid f) m i
      go false = omega arith

  items-pay : (f k : ℕ) (m : List ℕ) → length (items_out (suc f) G k m).errors + sum_to k (λ x. bit (G.struct x)) ≤ (items_out (suc f) G k m).calls
  unfolding items_out sum_to
  items-pay f zero m = omega arith
  items-pay f (suc k) m =
      let a = items_out (suc f) G k m in
      let b = item_out (suc f) G k a.marks in
      omega (arith, items-pay f k m, item-pays f k a.marks, length-append a.errors b.errors)

  pub errors-few : (n : ℕ) → length (sort_out G n).errors + sum_to n (λ x. bit (G.struct x)) ≤ (sort_out G n).calls
  unfolding sort_out
  errors-few n = items-pay n n (replicate n 0)

-- ## In the words of the sheet

module _ (s : List ℕ) (acc : Accepted s) where
  abbrev t : Types
  t = types_of s

  abbrev G : Graph
  G = graph_of s (types_of s)

  -- a name has a last struct exactly where it is in the set of structs
  pub struct_known : (n : ℕ) → not (eqb (struct_of t n) no_item) ≡ is_struct t n
  unfolding struct_of types_of
  struct_known n = go (eq? (struct_of t n) no_item) (is_struct t n) refl
    where
      borne : Borne s Struct n → struct_of t n ≡ no_item → ⊥
      borne b e = by (struct_of t n) e (last-is s (enters_structs s) (items s) n (borne-small s acc Struct tt n b))
        where
          by : (r : ℕ) → r ≡ no_item → Last s (enters_structs s) (items s) n r → ⊥
          by r q (no_one f) = f b.item b.below (enters-struct s b.item b.is_kind) b.bears
          by r q (last l _ _ _) = omega (arith, few-items s acc)

      go : Eq? (struct_of t n) no_item → (b : Bool) → is_struct t n ≡ b → not (eqb (struct_of t n) no_item) ≡ b
      go (same e q) true h = absurd (borne ((structs-are s acc n).0 (holds h)) q)
      go (same e q) false h = rw e refl
      go (other e q) true h = rw e refl
      go (other e q) false h =
          let w = of-last s n (struct_of t n) refl q in
          absurd (fails h ((structs-are s acc n).1 (record { item = struct_of t n; below = w.struct.below; is_kind = w.struct.is_struct; bears = w.bears })))

  leads-named : (i k : ℕ) → bit (not (eqb (plain_lead s t (field s i k)) no_item)) ≡ bit (struct_named s i k)
  unfolding plain_lead struct_named if'◌then◌else◌
  leads-named i k = go (is s Ident (field s i k))
    where
      n : ℕ
      n = row_name s (field s i k)

      go : (b : Bool) → bit (not (eqb (if' b then struct_of t n else no_item) no_item)) ≡ bit (b && is_struct t n)
      go true = ap bit (struct_known n)
      go false = refl

  leading-is : (i k : ℕ) → leading G i k ≡ named_fields s i k
  unfolding sum_to named_fields
  leading-is i zero = refl
  leading-is i (suc k) = omega (arith, leading-is i k, leads-named i k)

  -- a sum over the struct items of the walk
  structs-sum : (h : ℕ → ℕ) → sum_to 255 (λ x. bit (G.struct x) * h x) ≡ sum_to (items s) (λ x. bit (item_is s Struct x) * h x)
  structs-sum h =
      sum-cut (items s) 255 (λ x. bit (G.struct x) * h x) (few-items s acc) (λ x l. above x l (ltb x (items s)) refl)
      ∙ sum_same (items s) (λ x. bit (G.struct x) * h x) (λ x. bit (item_is s Struct x) * h x) (λ x l. rw (lt-ltb x (items s) l) refl)
    where
      above : (x : ℕ) → items s ≤ x → (b : Bool) → ltb x (items s) ≡ b → bit (b && item_is s Struct x) * h x ≡ 0
      above x l true e = let k = ltb-true x (items s) e in absurd (omega arith)
      above x l false e = omega arith

  structs-are-counted : (n : ℕ) → sum_to n (λ x. bit (item_is s Struct x) * 1) ≡ structs_to s n
  unfolding sum_to structs_to
  structs-are-counted zero = refl
  structs-are-counted (suc n) = omega (arith, structs-are-counted n)

  fields-are-counted : (n : ℕ) → sum_to n (λ x. bit (item_is s Struct x) * leading G x (field_count s x)) ≡ named_to s n
  unfolding sum_to named_to
  fields-are-counted zero = refl
  fields-are-counted (suc n) = rw (leading-is n (field_count s n), fields-are-counted n)

  -- the visits: one for each struct item, and one for each struct-named plain field of one
  pub visits-are : (walk_of s t).calls ≡ structs_to s (items s) + named_to s (items s)
  unfolding walk_of work
  visits-are =
      let structs : ℕ → ℕ = λ x. bit (item_is s Struct x) * 1 in
      let fields : ℕ → ℕ = λ x. bit (item_is s Struct x) * leading G x (field_count s x) in
      let all : ℕ → ℕ = λ x. bit (item_is s Struct x) * suc (leading G x (field_count s x)) in
      calls_are G 255 (good s acc) ∙ structs-sum (λ x. suc (leading G x (field_count s x)))
      ∙ sum_same (items s) all (λ x. structs x + fields x) (λ x _. omega arith) ∙ sum-add (items s) structs fields
      ∙ omega (arith, structs-are-counted (items s), fields-are-counted (items s))

  -- no more of message 2 than struct-named plain fields
  pub cyclic-few : length (walk_of s t).errors ≤ named_to s (items s)
  unfolding walk_of
  cyclic-few =
      let a : (walk_of s t).calls ≡ structs_to s (items s) + named_to s (items s) = visits-are in
      let b : sum_to 255 (λ x. bit (G.struct x) * 1) ≡ structs_to s (items s) = structs-sum (λ _. 1) ∙ structs-are-counted (items s) in
      let c : sum_to 255 (λ x. bit (G.struct x) * 1) ≡ sum_to 255 (λ x. bit (G.struct x)) =
      sum_same 255 (λ x. bit (G.struct x) * 1) (λ x. bit (G.struct x)) (λ x _. omega arith) in
      omega (arith, errors-few G 255)

module _ (s : List ℕ) where
  named-few : (i k : ℕ) → named_fields s i k ≤ k
  unfolding named_fields
  named-few i zero = omega arith
  named-few i (suc k) = omega (arith, named-few i k, bit_le (struct_named s i k))

  pub named-fields : (n : ℕ) → named_to s n ≤ sum_to n (λ i. bit (item_is s Struct i) * field_count s i)
  unfolding named_to sum_to
  named-fields zero = omega arith
  named-fields (suc n) = omega (arith, named-fields n, times (bit (item_is s Struct n)) (bit_le (item_is s Struct n)))
    where
      times : (b : ℕ) → b ≤ 1 → b * named_fields s n (field_count s n) ≤ b * field_count s n
      times zero l = omega arith
      times (suc zero) l = omega (arith, named-few n (field_count s n))
      times (suc (suc b)) l = absurd (omega arith)

  pub structs-few : (n : ℕ) → structs_to s n ≤ n
  unfolding structs_to
  structs-few zero = omega arith
  structs-few (suc n) = omega (arith, structs-few n, bit_le (item_is s Struct n))

  fields-few : Accepted s → (n : ℕ) → n ≤ items s → sum_to n (λ i. bit (item_is s Struct i) * field_count s i) ≤ n * 64
  unfolding sum_to item_is
  fields-few acc zero l = omega arith
  fields-few acc (suc n) l = omega (arith, fields-few acc n (omega arith), of (eqb (item_kind s n) Struct) refl)
    where
      of : (b : Bool) → eqb (item_kind s n) Struct ≡ b → bit b * field_count s n ≤ 64
      of true e = omega (arith, ((item-of s acc n (omega arith)).as_struct (eqb-true (item_kind s n) Struct e)).few-fields)
      of false e = omega arith

  pub visits-few : Accepted s → (walk_of s (types_of s)).calls ≤ 16575
  visits-few acc =
      omega (arith, visits-are s acc, structs-few (items s), named-fields (items s), fields-few acc (items s) (omega arith), few-items s acc)
