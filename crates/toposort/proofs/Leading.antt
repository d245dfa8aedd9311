-- A loop over the fields that lead to a struct, read off a word: a turn skips the fields that lead nowhere, which change nothing, and goes on behind the field
-- that it is for; when the word is 0 no field that leads somewhere is left. What a loop makes of the fields is any fact of how many are done.
-- Assumes nothing.
use Prim.Native.Nat.{ℕ, zero, suc, ◌+◌, ◌-◌, ◌*◌, ◌^◌, ◌≤◌, ◌<◌}
use mathlib.Core.Path.{◌≡◌, refl, sym, ◌∙◌}
use mathlib.Core.Bool.{Bool, true, false, not}
use mathlib.Core.List.{List}
use native.Mathlib.Omega.{arith}
use borrow.Author.Tests.{eqb-true, eq-eqb}
use lib.Dec.{eqb}
use Rattle.std.specs.Prelude.{Option, Some, None}
use Rattle.rules.specs.Numbers.{no_item}
use Rattle.rules.specs.Graph.{Graph}
use Rattle.rules.specs.View.{field_count, rest, entry}
use Rattle.rules.specs.Rule3.{IsStruct}
use Rattle.laws.specs.Word.{word_of}
use Rattle.laws.proofs.Base.Tests.{never}
use Rattle.laws.proofs.Base.Words.{NextOf, next_of, none_left, word_same}
use Rattle.row_tables.specs.Listed.{LowestOut, told_at}
use Rattle.toposort.specs.Leads.{Led, table_graph, FieldLeads}
use Rattle.toposort.proofs.Edges.{few-fields, leads-struct, told_is}

-- field k of item i leads to a struct
abbrev pub leading : Graph → (i k : ℕ) → Bool
leading G i k = not (eqb (G.to i k) no_item)

leads-nowhere : (x : ℕ) → not (eqb x no_item) ≡ false → x ≡ no_item
leads-nowhere x e = eqb-true x no_item (go (eqb x no_item) e)
  where
    go : (b : Bool) → not b ≡ false → b ≡ true
    go true e = refl
    go false e = sym e

leads-on : (x : ℕ) → not (eqb x no_item) ≡ true → x ≡ no_item → ⊥
leads-on x e q = never (rw (eq-eqb x no_item q) at e)

-- a field that leads nowhere changes nothing: what is known of the fields before it is known of one more
abbrev pub Skips : Graph → (i n : ℕ) → (Known : ℕ → Type 0) → Type 0
Skips G i n P = (k : ℕ) → k < n → G.to i k ≡ no_item → P k → P (k + 1)

-- k of the n fields of item i are done, and the word has the bits of those of the others that lead to a struct
pub record Turning (G : Graph) (i n k left : ℕ) : Type 0 where
  pub all : n ≡ G.fields i
  pub upto : k ≤ n
  pub few : n ≤ 64
  pub word : left ≡ 2 ^ k * word_of (leading G i) k (n - k)

module _ {G : Graph} {i n k left : ℕ} (t : Turning G i n k left) where
  module _ {Known : ℕ → Type 0} (skips : Skips G i n Known) (known : Known k) where
    skip : (z : ℕ) → ((j : ℕ) → j < z → G.to i (k + j) ≡ no_item) → k + z ≤ n → Known (k + z)
    skip zero f l = let here : k + 0 ≡ k = omega arith in rw here known
    skip (suc z) f l =
        let next : k + suc z ≡ k + z + 1 = omega arith in
        rw next (skips (k + z) (omega arith) (f z (omega arith)) (skip z (λ j h. f j (omega arith)) (omega arith)))

    -- nothing is left
    pub turned : left ≡ 0 → Known (G.fields i)
    turned e =
        let none = none_left (leading G i) k (n - k) (sym t.word ∙ e) in
        let end : k + (n - k) ≡ G.fields i = omega (arith, t.upto, t.all) in
        rw end at (skip (n - k) (λ j l. leads-nowhere (G.to i (k + j)) (none j l)) (omega (arith, t.upto)))

  -- a turn is for the next field that leads to a struct
  module _ {rest field : ℕ} (out : LowestOut left rest field) where
    next : NextOf (leading G i) k n rest field
    next = next_of (leading G i) k n left rest field t.few t.upto t.word out.some out.lowest out.others

    pub turn_below : field < n
    turn_below = next.within

    pub turn-leads : G.to i field ≡ no_item → ⊥
    turn-leads = leads-on (G.to i field) next.passes

    -- the fields before it are skipped
    pub turn-known : {Known : ℕ → Type 0} → Skips G i n Known → Known k → Known field
    turn-known skips known =
        let here : k + (field - k) ≡ field = omega (arith, next.from) in
        let none : (j : ℕ) → j < field - k → leading G i (k + j) ≡ false = λ j l. next.before (k + j) (omega arith) (omega arith) in
        let at : k + (field - k) ≤ n = omega (arith, next.from, next.within) in
        rw here at (skip skips known (field - k) (λ j l. leads-nowhere (G.to i (k + j)) (none j l)) at)

    pub turn_on : Turning G i n (field + 1) rest
    turn_on = record { all = t.all; upto = omega (arith, next.within); few = t.few; word = next.behind }

module _ {s : List ℕ} {d : List (Option ℕ)} (own : Led s d) {i : ℕ} (h : IsStruct s i) {at : ℕ} (a : at ≡ rest s i) {n : ℕ} where
  -- the word that the code begins with
  pub all-leading : {w : ℕ} → n ≡ field_count s i → w ≡ word_of (told_at s d at) 0 n → w ≡ word_of (leading (table_graph s d) i) 0 (n - 0)
  all-leading q e =
      let all : n - 0 ≡ n = omega arith in
      let same = word_same (told_at s d at) (leading (table_graph s d) i) 0 n (λ j _ l. told_is own i j at (entry s at j) h a (omega (arith, q)) refl) in
      rw all (e ∙ same)

  -- as the loop begins
  pub turning-none : {w : ℕ} → n ≡ field_count s i → w ≡ word_of (told_at s d at) 0 n → Turning (table_graph s d) i n 0 w
  turning-none {w} q e =
      let few = few-fields own i h in
      let word = all-leading q e in
      record { all = q; upto = omega arith; few = omega (arith, q, few); word = omega (arith, word) }

  -- where the field of a turn leads, as the code reads it
  module _ {k left : ℕ} (t : Turning (table_graph s d) i n k left) {others field : ℕ} (out : LowestOut left others field) where
    within : field < field_count s i
    within = let q : n ≡ field_count s i = t.all in omega (arith, turn_below t out, q)

    pub nowhere : FieldLeads s d at field None → ⊥
    nowhere f = turn-leads t out (sym (f i h a within))

    module _ {x : ℕ} (f : FieldLeads s d at field (Some x)) where
      pub there : x ≡ (table_graph s d).to i field
      there = f i h a within

      pub to-struct : IsStruct s x
      to-struct = leads-struct own i field x within there (λ e. turn-leads t out (sym there ∙ e))
