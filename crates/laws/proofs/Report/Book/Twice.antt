-- A name that a RustType and another type item declare always has message 1: so the shapes where book and source part over opaque Rust types, and over slices,
-- never stand alone.
-- Assumes nothing.
use Prim.Native.Nat.{ℕ, zero, suc, ◌≤◌, ◌<◌}
use mathlib.Core.Path.{◌≡◌, refl, sym, ap, ◌∙◌, subst}
use mathlib.Core.Logic.{◌≢◌, ◌⊎◌, inl, inr}
use mathlib.Core.Bool.{Bool, true, false, not, ◌&&◌, ◌||◌}
use mathlib.Core.List.{List, ◌++◌}
use native.Mathlib.Omega.{arith}
use native.Mathlib.Decide.{dec_lt}
use lib.Dec.{T, eqb, ltb, eqb→eq, eqb_refl, ltb→lt, lt→ltb}
use Rattle.rules.specs.Numbers.{Struct, Enum, CxxType, RustType, TypeAlias}
use Rattle.rules.specs.declared.Place.TheVariants.{I}
use Rattle.rules.specs.declared.Diagnostic.{Diagnostic}
use Rattle.rules.specs.Base.{if'◌then◌else◌, over}
use Rattle.rules.specs.Diagnostics.{say, when}
use Rattle.rules.specs.Names.{◌∋◌}
use Rattle.rules.specs.Format.{Accepted}
use Rattle.rules.specs.View.{type_kind, items, item_kind, item_is, is_enum_item, is_type, item_name}
use Rattle.rules.specs.Collect.{names_to, enters_structs, enters_enums, enters_cxx, duplicate_type, duplicate, duplicates}
use Rattle.rules.specs.Types.{types_of}
use Rattle.rules.specs.Order.{walk_of}
use Rattle.rules.specs.Check.{check_type, check_api}
use Rattle.rules.specs.Report.{report_of, report}
use lib.ListN.{length, get_or}
use Rattle.rules.specs.Rule3.{Borne}
use Rattle.laws.specs.Tells.{has, tells}
use Rattle.laws.proofs.Report.Tells.{has_left, has-among}
use Rattle.laws.proofs.Base.Tests.{is_true, is_false, holds, fails, and_left, and_right, and_both, or_cases}
use Rattle.laws.proofs.Names.LastItems.{kind-type}
use Rattle.laws.proofs.Sheet.Accepted.{type-named}
use Rattle.laws.proofs.Names.SetMembers.{member_is}

-- ## The first number that passes

pub record Least (p : ℕ → Bool) (n : ℕ) : Type 0 where
  pub first : ℕ
  pub within : first ≤ n
  pub passes : T (p first)
  pub none_before : (k : ℕ) → k < first → T (p k) → ⊥

least : (p : ℕ → Bool) (n : ℕ) → T (p n) → Least p n
least p zero t = record { first = 0; within = omega arith; passes = t; none_before = λ k l _. omega arith }
least p (suc n) t = go (p 0) refl (least (λ k. p (suc k)) n t)
  where
    go : (b : Bool) → p 0 ≡ b → Least (λ k. p (suc k)) n → Least p (suc n)
    go true e h = record { first = 0; within = omega arith; passes = holds e; none_before = λ k l _. omega arith }
    go false e h = record { first = suc h.first; within = omega (arith, h.within); passes = h.passes; none_before = before }
      where
        before : (k : ℕ) → k < suc h.first → T (p k) → ⊥
        before zero l u = fails e u
        before (suc k) l u = h.none_before k (omega arith) u

-- ## Message 1 at an item

module _ (s : List ℕ) (acc : Accepted s) where
  -- a type item before this one bears its name
  earlier : (i j : ℕ) → i < items s → j < i → T (is_type s j) → item_name s j ≡ item_name s i → names_to s (is_type s) i ∋ item_name s i ≡ true
  earlier i j l m t e =
      is_true (names_to s (is_type s) i ∋ item_name s i)
      ((member_is s (is_type s) i (λ k b u. type-named s acc k (omega arith) u) (item_name s i)).1 (record { item = j; below = m; passes = t; bears = e }))

  -- no item before this one that passes bears its name
  nobody : (p : ℕ → Bool) → ((k : ℕ) → T (p k) → T (is_type s k)) → (i : ℕ) → i < items s → ((k : ℕ) → k < i → T (p k) → item_name s k ≢ item_name s i)
      → names_to s p i ∋ item_name s i ≡ false
  nobody p types i l h =
      is_false (names_to s p i ∋ item_name s i)
      (λ t. let m = (member_is s p i (λ k b u. type-named s acc k (omega arith) (types k u)) (item_name s i)).0 t in h m.item m.below m.passes
      m.bears)

  -- a RustType whose name was declared
  rust-twice : (i : ℕ) → item_kind s i ≡ RustType → names_to s (is_type s) i ∋ item_name s i ≡ true → duplicate s i ≡ true
  unfolding duplicate duplicate_type item_is is_enum_item if'◌then◌else◌
  rust-twice i k e = rw (is_true (is_type s i) (kind-type s RustType tt i k), e, k) refl

  -- a type whose name was declared, and by no struct, enum, CxxType or alias
  first-twice : (i : ℕ) → T (is_type s i) → names_to s (is_type s) i ∋ item_name s i ≡ true → names_to s (enters_structs s) i ∋ item_name s i ≡ false
      → names_to s (enters_enums s) i ∋ item_name s i ≡ false → names_to s (enters_cxx s) i ∋ item_name s i ≡ false → duplicate s i ≡ true
  unfolding duplicate duplicate_type if'◌then◌else◌
  first-twice i t e a b c = rw (is_true (is_type s i) t, e, a, b, c) (all (item_is s Struct i || is_enum_item s i) (item_is s CxxType i))
    where
      all : (x y : Bool) → (if' x then not false || false || false else if' y then false || (not false && not false) else true) ≡ true
      all true y = refl
      all false true = refl
      all false false = refl

  -- what enters the structs, enums and cxx is a type, and no RustType
  no-rust : (c k : ℕ) → T (type_kind c) → c ≢ RustType → T (item_is s c k) → T (is_type s k) × (item_kind s k ≢ RustType)
  unfolding item_is
  no-rust c k tc ne t = let e = eqb→eq (item_kind s k) c t in (kind-type s c tc k e, λ q. ne (sym e ∙ q))

  enters-struct : (k : ℕ) → T (enters_structs s k) → T (is_type s k) × (item_kind s k ≢ RustType)
  unfolding enters_structs
  enters-struct k t = no-rust Struct k tt (λ e. omega arith) t

  enters-enum : (k : ℕ) → T (enters_enums s k) → T (is_type s k) × (item_kind s k ≢ RustType)
  unfolding enters_enums is_enum_item item_is
  enters-enum k t = no-rust Enum k tt (λ e. omega arith) t

  enters-cxx : (k : ℕ) → T (enters_cxx s k) → T (is_type s k) × (item_kind s k ≢ RustType)
  unfolding enters_cxx
  enters-cxx k t = by (or_cases (item_is s CxxType k) (item_is s TypeAlias k) t)
    where
      by : T (item_is s CxxType k) ⊎ T (item_is s TypeAlias k) → T (is_type s k) × (item_kind s k ≢ RustType)
      by (inl u) = no-rust CxxType k tt (λ e. omega arith) u
      by (inr u) = no-rust TypeAlias k tt (λ e. omega arith) u

  -- ## Two declarations of one name

  module _ (n : ℕ) where
    bears : ℕ → Bool
    bears k = is_type s k && eqb (item_name s k) n

    of-bears : (k : ℕ) → T (bears k) → T (is_type s k) × (item_name s k ≡ n)
    unfolding bears
    of-bears k t = (and_left (is_type s k) (eqb (item_name s k) n) t, eqb→eq (item_name s k) n (and_right (is_type s k) (eqb (item_name s k) n) t))

    to-bears : (k : ℕ) → T (is_type s k) → item_name s k ≡ n → T (bears k)
    unfolding bears
    to-bears k t e = and_both (is_type s k) (eqb (item_name s k) n) t (subst (λ (x : ℕ). T (eqb x n)) (sym e) (eqb_refl n))

    after : ℕ → ℕ → Bool
    after a k = bears k && ltb a k

    -- the first that bears the name is a RustType, and j is the next that does
    next-twice : (a j : ℕ) → j < items s → item_kind s a ≡ RustType → item_name s a ≡ n → ((k : ℕ) → k < a → T (bears k) → ⊥) → Least (after a) j
        → (i : ℕ) × (i < items s) × (duplicate s i ≡ true)
    unfolding after
    next-twice a j l ka ea early h = (
      i,
      omega (arith, h.within),
      first-twice i b.0 named (no_one (enters_structs s) enters-struct) (no_one (enters_enums s) enters-enum)
          (no_one (enters_cxx s) enters-cxx),
    )
      where
        i : ℕ
        i = h.first

        b : T (is_type s i) × (item_name s i ≡ n)
        b = of-bears i (and_left (bears i) (ltb a i) h.passes)

        above : a < i
        above = ltb→lt a i (and_right (bears i) (ltb a i) h.passes)

        named : names_to s (is_type s) i ∋ item_name s i ≡ true
        named = earlier i a (omega (arith, h.within)) above (kind-type s RustType tt a ka) (ea ∙ sym b.1)

        -- before it, only the RustType bears the name
        alone : (k : ℕ) → k < i → T (is_type s k) → item_name s k ≡ item_name s i → k ≡ a
        alone k m t e = by (dec_lt k a) (dec_lt a k)
          where
            it : T (bears k)
            it = to-bears k t (e ∙ b.1)

            by : Dec (k < a) → Dec (a < k) → k ≡ a
            by (yes p) q = absurd (early k p it)
            by (no p) (yes q) = absurd (h.none_before k m (and_both (bears k) (ltb a k) it (lt→ltb a k q)))
            by (no p) (no q) = omega arith

        no_one : (p : ℕ → Bool) → ((k : ℕ) → T (p k) → T (is_type s k) × (item_kind s k ≢ RustType)) → names_to s p i ∋ item_name s i ≡ false
        no_one p f =
            nobody p (λ k t. (f k t).0) i (omega (arith, h.within))
            (λ k m t e. (f k t).1 (ap (item_kind s) (alone k m (f k t).0 e) ∙ ka))

    -- a RustType bears the name, and another item too
    pub twice : (a b : ℕ) → a < items s → b < items s → item_kind s a ≡ RustType → item_name s a ≡ n → T (is_type s b) → item_name s b ≡ n → b ≢ a
        → (i : ℕ) × (i < items s) × (duplicate s i ≡ true)
    unfolding after
    twice a b la lb ka ea tb eb ne = by (dec_lt f.first a)
      where
        f : Least bears a
        f = least bears a (to-bears a (kind-type s RustType tt a ka) ea)

        p : T (is_type s f.first) × (item_name s f.first ≡ n)
        p = of-bears f.first f.passes

        by : Dec (f.first < a) → (i : ℕ) × (i < items s) × (duplicate s i ≡ true)
        by (yes l) = (a, la, rust-twice a ka (earlier a f.first la l p.0 (p.1 ∙ sym ea)))
        by (no l) = next-twice a b lb ka ea early (least (after a) b (later (dec_lt a b)))
          where
            early : (k : ℕ) → k < a → T (bears k) → ⊥
            early k m = f.none_before k (omega (arith, f.within))

            later : Dec (a < b) → T (after a b)
            later (yes m) = and_both (bears b) (ltb a b) (to-bears b tb eb) (lt→ltb a b m)
            later (no m) = absurd (early b (omega arith) (to-bears b tb eb))

  -- so the full report has message 1
  pub twice-told : (n k : ℕ) → T (type_kind k) → k ≢ RustType → Borne s RustType n → Borne s k n → tells 1 (report s) ≡ true
  unfolding report report_of duplicates has when
  twice-told n k tk ne a b =
      let d = twice n a.item b.item a.below b.below a.is_kind a.bears (kind-type s k tk b.item b.is_kind) b.bears
      (λ e. ne (sym b.is_kind ∙ ap (item_kind s) e ∙ a.is_kind)) in
      let ones = over (items s) (λ i. when (duplicate s i) (say 1 (I i))) in
      let t = types_of s in
      let rows = over (length t.all) (λ k. check_type s t (get_or t.all k 0)) in
      let h : tells 1 ones ≡ true =
      has-among one (items s) (λ i. when (duplicate s i) (say 1 (I i))) d.0 d.1 (ap (λ (c : Bool). tells 1 (when c (say 1 (I d.0)))) d.2) in
      has_left one (ones ++ (walk_of s t).errors ++ rows) (over (items s) (check_api s t))
      (has_left one (ones ++ (walk_of s t).errors) rows (has_left one ones (walk_of s t).errors h))
    where
      one : Diagnostic → Bool
      one x = eqb x.message 1
