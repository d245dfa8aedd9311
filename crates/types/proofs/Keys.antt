-- The table of functions: a bit is set exactly where a function before had that self type and name, so what it says is what the rules say of all pairs.
-- Assumes nothing.
use Prim.Native.Nat.{ℕ, zero, suc, ◌+◌, ◌*◌, ◌/◌, ◌<◌, ◌≤◌}
use mathlib.Core.Path.{◌≡◌, refl, sym, ap, ◌∙◌}
use mathlib.Core.Bool.{Bool, true, false, not, ◌&&◌, ◌||◌}
use mathlib.Core.List.{List}
use native.Mathlib.Omega.{arith}
use native.Mathlib.Numerals.{add-one}
use lib.Dec.{eqb}
use lib.ListN.{length, length-replicate}
use borrow.Author.Tests.{eq-eqb, eqb-true, eqb-false}
use Rattle.rules.specs.Numbers.{name_self, name_count}
use Rattle.rules.specs.Base.{if'◌then◌else◌, some}
use Rattle.rules.specs.Format.{Accepted}
use Rattle.rules.specs.Names.{Words, add, ◌∋◌}
use Rattle.rules.specs.View.{items, is_function, item_name, form, is_free, self_type}
use Rattle.rules.specs.Collect.{same_function, duplicate_function}
use Rattle.laws.proofs.Names.NameSets.{length-add}
use Rattle.laws.proofs.Base.Tests.{never, both, both-are}
use Rattle.laws.proofs.Sheet.Accepted.Items.{item-of}
use Rattle.types.specs.Named.{key_count, key_words, of_self, key_of, enters_keys, keys_to}
use Rattle.types.proofs.AboutRules.{has-added, has-none, some_same}

-- ## Two keys

test-same : (x y : Bool) → (x ≡ true → y ≡ true) → (y ≡ true → x ≡ true) → x ≡ y
test-same true true f g = refl
test-same true false f g = sym (f refl)
test-same false true f g = g refl
test-same false false f g = refl

both_true : {a b : Bool} → a ≡ true → b ≡ true → (a && b) ≡ true
both_true p q = rw (p, q) refl

-- equal keys are those of the same name and the same self type, or none, where the self type looked for is not Self
same_key : (a b : Bool) {m n p q : ℕ} → m < name_count → n < name_count → (a ≡ false → p < name_count) → (b ≡ false → q < name_count)
    → (not a && eqb p name_self) ≡ false
    → (not (not b && eqb q name_self) && eqb (name_count * (if' a then name_count else p) + m) (name_count * (if' b then name_count else q) + n))
    ≡ (eqb n m && (if' a then b else not b && eqb q p))
unfolding if'◌then◌else◌
same_key true true {m} {n} l k f g h =
    test-same (eqb (name_count * name_count + m) (name_count * name_count + n)) (eqb n m && true)
    (λ e. let z = eqb-true (name_count * name_count + m) (name_count * name_count + n) e in both_true (eq-eqb n m (omega arith)) refl)
    (λ e. let z = eqb-true n m (both-are (eqb n m) true e).0 in eq-eqb (name_count * name_count + m) (name_count * name_count + n) (omega arith))
same_key true false {m} {n} {p} {q} l k f g h =
    test-same (not (eqb q name_self) && eqb (name_count * name_count + m) (name_count * q + n)) (eqb n m && false)
    (λ e. absurd
    (let both = both-are (not (eqb q name_self)) (eqb (name_count * name_count + m) (name_count * q + n)) e in
    let z = eqb-true (name_count * name_count + m) (name_count * q + n) both.1 in
    let r = g refl in
    omega arith))
    (λ e. never (both-are (eqb n m) false e).1)
same_key false true {m} {n} {p} {q} l k f g h =
    test-same (eqb (name_count * p + m) (name_count * name_count + n)) (eqb n m && false)
    (λ e. absurd (let z = eqb-true (name_count * p + m) (name_count * name_count + n) e in let r = f refl in omega arith))
    (λ e. never (both-are (eqb n m) false e).1)
same_key false false {m} {n} {p} {q} l k f g h =
    test-same (not (eqb q name_self) && eqb (name_count * p + m) (name_count * q + n)) (eqb n m && eqb q p)
    (λ e.
    let z = eqb-true (name_count * p + m) (name_count * q + n) (both-are (not (eqb q name_self)) (eqb (name_count * p + m) (name_count * q + n)) e).1 in
    both_true (eq-eqb n m (omega arith)) (eq-eqb q p (omega arith)))
    (λ e.
    let y = eqb-true n m (both-are (eqb n m) (eqb q p) e).0 in
    let z = eqb-true q p (both-are (eqb n m) (eqb q p) e).1 in
    both_true (ap (λ (x : ℕ). not (eqb x name_self)) z ∙ ap not h) (eq-eqb (name_count * p + m) (name_count * q + n) (omega arith)))

-- ## The table

module _ (s : List ℕ) where
  pub keys-long : (k : ℕ) → length (keys_to s k) ≡ key_words
  unfolding keys_to
  keys-long zero = length-replicate {A = ℕ} key_words 0
  keys-long (suc k) = both (enters_keys s k) (λ e. rw (e, keys_to) (length-add (keys_to s k) (key_of s k) ∙ keys-long k)) (λ e. rw (e, keys_to) (keys-long k))

  enters-function : (k : ℕ) → enters_keys s k ≡ true → is_function s k ≡ true
  unfolding enters_keys
  enters-function k e = (both-are (is_function s k) (not (of_self s k)) e).0

  module _ (acc : Accepted s) where
    self-small : (i : ℕ) → i < items s → is_function s i ≡ true → is_free s i ≡ false → self_type s i < name_count
    unfolding is_free
    self-small i l h e = ((item-of s acc i l).as_function h).self-named (eqb-false (form s i) 0 e)

    pub key-small : (i : ℕ) → i < items s → is_function s i ≡ true → key_of s i < key_count
    unfolding key_of if'◌then◌else◌
    key-small i l h = by (is_free s i) (self-small i l h)
      where
        by : (b : Bool) → (b ≡ false → self_type s i < name_count) → name_count * (if' b then name_count else self_type s i) + item_name s i < key_count
        by true e = let n = ((item-of s acc i l).as_function h).named in omega arith
        by false e = let n = ((item-of s acc i l).as_function h).named in let m = e refl in omega arith

    keys-have : (k : ℕ) → k ≤ items s → (x : ℕ) → (keys_to s k ∋ x) ≡ some k (λ j. enters_keys s j && eqb x (key_of s j))
    unfolding keys_to some
    keys-have zero l x = has-none key_words x
    keys-have (suc k) l x = both (enters_keys s k)
        (λ e. rw (e, keys_to, some) (has-added (keys_to s k) (key_of s k) x (fits e) ∙ or_elim (eqb x (key_of s k)) (keys-have k (omega arith) x)))
        (λ e. rw (e, keys_to, some) (keys-have k (omega arith) x))
      where
        fits : enters_keys s k ≡ true → key_of s k / 64 < length (keys_to s k)
        fits e = let m = key-small k (omega arith) (enters-function k e) in omega (arith, keys-long k)

        or_elim : (b : Bool) {c d : Bool} → c ≡ d → (b || c) ≡ elim b as (λ _. Bool) [ true ↦ true | false ↦ d ]
        or_elim true e = refl
        or_elim false e = e

    pair_same : (i j : ℕ) → i < items s → j < items s → is_function s i ≡ true → of_self s i ≡ false
        → (enters_keys s j && eqb (key_of s i) (key_of s j)) ≡ same_function s i j
    unfolding enters_keys same_function of_self key_of
    pair_same i j l k h o = both (is_function s j)
        (λ e.
        rw e
        (same_key (is_free s i) (is_free s j) ((item-of s acc i l).as_function h).named ((item-of s acc j k).as_function e).named (self-small i l h)
        (self-small j k e) o))
        (λ e. rw e refl)

    pub function-known : (i : ℕ) {n : ℕ} {w : Words} → i < items s → is_function s i ≡ true → of_self s i ≡ false → w ≡ keys_to s i → n ≡ key_of s i
        → (w ∋ n) ≡ duplicate_function s i
    unfolding duplicate_function of_self if'◌then◌else◌
    function-known i l h o e q =
        rw (e, q, o)
        (keys-have i (omega arith) (key_of s i) ∙ some_same i (λ j. enters_keys s j && eqb (key_of s i) (key_of s j)) (same_function s i)
        (λ j m. pair_same i j l (omega arith) h o))

  pub function-self : (i : ℕ) → of_self s i ≡ true → false ≡ duplicate_function s i
  unfolding duplicate_function of_self if'◌then◌else◌
  function-self i o = rw o refl

  -- ## One item more

  pub keys_none : (i : ℕ) {w : Words} → enters_keys s i ≡ false → w ≡ keys_to s i → w ≡ keys_to s (i + 1)
  unfolding keys_to
  keys_none i e q = rw (add-one i, e, keys_to) q

  pub keys-more : (i : ℕ) {n : ℕ} {w w' : Words} → enters_keys s i ≡ true → w ≡ keys_to s i → n ≡ key_of s i → w' ≡ add w n → w' ≡ keys_to s (i + 1)
  unfolding keys_to
  keys-more i e q k h = rw (add-one i, e, keys_to, ← q, ← k) h
