-- Sets of names, once for all sets: a set is four words below 2 ^ 64, `add` keeps it so, its size is the count of its names below 256, and two sets with the
-- same names are the same words. All sets of a sheet are sets.
-- Assumes nothing.
use mathlib.Core.Path.{◌≡◌, refl, sym, ap, ◌∙◌}
use mathlib.Core.Logic.{◌≢◌}
use mathlib.Core.Bool.{Bool, true, false, ◌&&◌, ◌||◌}
use mathlib.Core.List.{List, [], ◌∷◌}
use Prim.Native.Nat.{ℕ, zero, suc, ◌+◌, ◌*◌, ◌/◌, ◌%◌, ◌^◌, ◌≤◌, ◌<◌}
use native.Mathlib.Omega.{arith}
use native.Mathlib.Decide.{dec_lt}
use lib.Bits.{bit_or, or_lt}
use lib.Count.{ones_in}
use lib.Pow.{pow-lt, shr-shr}
use lib.Dec.{eqb, ltb}
use borrow.Author.Tests.{le-ltb, lt-ltb}
use lib.ListN.{length, get_or, set}
use lib.Seq.{get_or-set_same, get_or-set_other, set_out, ext_get_or}
use Rattle.rules.specs.Diagnostics.{bit}
use Rattle.rules.specs.View.{items, item_name}
use Rattle.rules.specs.Collect.{names_to, enters_structs, enters_enums, enters_cxx, enters_rust, enters_aliases, enters_untrusted}
use Rattle.rules.specs.Trivial.{required_of}
use Rattle.rules.specs.Types.{types_of}
use Rattle.rules.specs.Improper.{Looks, looks_of, is_new, pass_to, search, improper_of}
use Rattle.rules.specs.Names.{Words, empty, bit_of, ◌∋◌, add, size, names_below}
use Rattle.laws.proofs.Base.Counts.{Eq?, same, other, eq?}
use Rattle.laws.proofs.Base.Sums.{sum_to, sum_same, sum-bits, sum_first, sum-split}
use Rattle.laws.proofs.Names.NameSets.{has-add, has-empty, length-add, empty-get}

pub record IsSet (w : Words) : Type 0 where
  pub four : length w ≡ 4
  pub small : (j : ℕ) → get_or w j 0 < 2 ^ 64

pub empty-set : IsSet empty
empty-set = record { four = refl; small = λ j. rw (empty-get j) (omega arith) }

pub add-set : (w : Words) (n : ℕ) → IsSet w → IsSet (add w n)
unfolding add
add-set w n h = record { four = length-add w n ∙ h.four; small = small }
  where
    word : ℕ
    word = bit_or (get_or w (n / 64) 0) (2 ^ (n % 64))

    fits : word < 2 ^ 64
    fits = or_lt 64 (get_or w (n / 64) 0) (2 ^ (n % 64)) (h.small (n / 64)) (pow-lt (let l : n % 64 < 64 = omega arith in l))

    small : (j : ℕ) → get_or (add w n) j 0 < 2 ^ 64
    small j = go (eq? j (n / 64)) (dec_lt (n / 64) (length w))
      where
        go : Eq? j (n / 64) → Dec (n / 64 < length w) → get_or (set w (n / 64) word) j 0 < 2 ^ 64
        go e (no l) = rw (set_out w (n / 64) word (omega arith)) (h.small j)
        go (same _ e) (yes l) = rw (e, get_or-set_same w (n / 64) word 0 l) fits
        go (other _ e) (yes l) = rw (get_or-set_other w (n / 64) j word 0 e) (h.small j)

-- ## The size

bit-half : (n k : ℕ) → bit_of (n / 2) k ≡ bit_of n (suc k)
unfolding bit_of
bit-half n k = ap (λ m. m % 2) (shr-shr n 1 k ∙ ap (λ e. n / 2 ^ e) (let e : 1 + k ≡ suc k = omega arith in e))

lowest : (n : ℕ) → n % 2 ≡ bit_of n 0
unfolding bit_of
lowest n = let e : n / 1 ≡ n = omega arith in rw e

ones-sum : (d n : ℕ) → ones_in d n ≡ sum_to d (bit_of n)
unfolding ones_in sum_to
ones-sum zero n = refl
ones-sum (suc d) n =
    ap (λ m. n % 2 + m) (ones-sum d (n / 2) ∙ sum_same d (bit_of (n / 2)) (λ k. bit_of n (suc k)) (λ k _. bit-half n k))
    ∙ ap (λ m. m + sum_to d (λ k. bit_of n (suc k))) (lowest n) ∙ sym (sum_first d (bit_of n))

bit_is : (w k : ℕ) → bit (eqb (bit_of w k) 1) ≡ bit_of w k
unfolding bit_of
bit_is w k = of (w / 2 ^ k % 2) (omega arith)
  where
    of : (b : ℕ) → b < 2 → bit (eqb b 1) ≡ b
    of zero l = refl
    of (suc zero) l = refl
    of (suc (suc b)) l = absurd (omega arith)

in-first : (w n : ℕ) (ws : Words) → n < 64 → bit_of w n ≡ bit ((w ∷ ws) ∋ n)
unfolding ◌∋◌
in-first w n ws l =
    let q : n / 64 ≡ 0 = omega arith in
    let r : n % 64 ≡ n = omega arith in
    rw (q, r) (sym (bit_is w n))

in-later : (w n : ℕ) (ws : Words) → bit (ws ∋ n) ≡ bit ((w ∷ ws) ∋ (64 + n))
unfolding ◌∋◌
in-later w n ws =
    let q : (64 + n) / 64 ≡ suc (n / 64) = omega arith in
    let r : (64 + n) % 64 ≡ n % 64 = omega arith in
    rw (q, r)

size-sum : (w : Words) → size w ≡ sum_to (64 * length w) (λ n. bit (w ∋ n))
unfolding size sum_to
size-sum [] = refl
size-sum (w ∷ ws) =
    let z : 64 * length (w ∷ ws) ≡ 64 + 64 * length ws = omega arith in
    rw (z, sum-split 64 (64 * length ws) (λ n. bit ((w ∷ ws) ∋ n)), size-sum ws)
    (ap (λ m. m + sum_to (64 * length ws) (λ n. bit (ws ∋ n))) (ones-sum 64 w ∙ sum_same 64 (bit_of w) (λ n. bit ((w ∷ ws) ∋ n)) (λ n l. in-first w n ws l))
    ∙ ap (λ m. sum_to 64 (λ n. bit ((w ∷ ws) ∋ n)) + m)
    (sum_same (64 * length ws) (λ n. bit (ws ∋ n)) (λ n. bit ((w ∷ ws) ∋ (64 + n))) (λ n _. in-later w n ws)))

-- how many names below 256 it has
pub size_is : (w : Words) → IsSet w → size w ≡ sum_to 256 (λ n. bit (w ∋ n))
size_is w h = size-sum w ∙ ap (λ k. sum_to (64 * k) (λ n. bit (w ∋ n))) h.four

pub size_few : (w : Words) → IsSet w → size w ≤ 256
size_few w h = omega (arith, size_is w h, sum-bits 256 (λ n. w ∋ n))

-- ## The same names, the same words

-- a word is its bits
word_same : (k a b : ℕ) → a < 2 ^ k → b < 2 ^ k → ((j : ℕ) → j < k → bit_of a j ≡ bit_of b j) → a ≡ b
word_same zero a b l m h = omega arith
word_same (suc k) a b l m h =
    let halves = word_same k (a / 2) (b / 2) (half a l) (half b m) (λ j n. bit-half a j ∙ h (suc j) (omega arith) ∙ sym (bit-half b j)) in
    let lows : a % 2 ≡ b % 2 = lowest a ∙ h 0 (omega arith) ∙ sym (lowest b) in
    omega arith
  where
    half : (n : ℕ) → n < 2 ^ suc k → n / 2 < 2 ^ k
    half n l = omega arith

member-bit : (w : Words) (j k : ℕ) → k < 64 → bit (w ∋ (64 * j + k)) ≡ bit_of (get_or w j 0) k
unfolding ◌∋◌
member-bit w j k l =
    let q : (64 * j + k) / 64 ≡ j = omega arith in
    let r : (64 * j + k) % 64 ≡ k = omega arith in
    rw (q, r) (bit_is (get_or w j 0) k)

pub set_same : (v w : Words) → IsSet v → IsSet w → ((n : ℕ) → n < 256 → v ∋ n ≡ w ∋ n) → v ≡ w
set_same v w a b h = ext_get_or 0 v w (a.four ∙ sym b.four) (λ j l. word_same 64 (get_or v j 0) (get_or w j 0) (a.small j) (b.small j) (λ k m. bits j l k m))
  where
    bits : (j : ℕ) → j < length v → (k : ℕ) → k < 64 → bit_of (get_or v j 0) k ≡ bit_of (get_or w j 0) k
    bits j l k m = sym (member-bit v j k m) ∙ ap bit (h (64 * j + k) (omega (arith, a.four))) ∙ member-bit w j k m

-- ## The sets of a sheet

-- the names of items that pass a test
pub names-set : (s : List ℕ) (p : ℕ → Bool) (k : ℕ) → IsSet (names_to s p k)
unfolding names_to
names-set s p zero = empty-set
names-set s p (suc k) = go (p k) (names-set s p k)
  where
    go : (b : Bool) → IsSet (names_to s p k) → IsSet (elim b as (λ _. Words) [ true ↦ add (names_to s p k) (item_name s k) | false ↦ names_to s p k ])
    go true h = add-set (names_to s p k) (item_name s k) h
    go false h = h

-- the names below k that pass a test
pub below_set : (p : ℕ → Bool) (k : ℕ) → IsSet (names_below p k)
unfolding names_below
below_set p zero = empty-set
below_set p (suc k) = go (p k) (below_set p k)
  where
    go : (b : Bool) → IsSet (names_below p k) → IsSet (elim b as (λ _. Words) [ true ↦ add (names_below p k) k | false ↦ names_below p k ])
    go true h = add-set (names_below p k) k h
    go false h = h

pub below-is : (p : ℕ → Bool) (k n : ℕ) → k ≤ 256 → names_below p k ∋ n ≡ (ltb n k && p n)
unfolding names_below
below-is p zero n l = has-empty n ∙ sym (ap (λ b. b && p n) (le-ltb n 0 (omega arith)))
below-is p (suc k) n l = go (p k) refl (eq? n k) (below-is p k n (omega arith))
  where
    w : Words
    w = names_below p k

    here : n ≡ k → (b : Bool) → p k ≡ b → (ltb n (suc k) && p n) ≡ b
    here q b e = ap (λ c. c && p n) (lt-ltb n (suc k) (omega arith)) ∙ ap p q ∙ e

    there : n ≢ k → (ltb n k && p n) ≡ (ltb n (suc k) && p n)
    there q = ap (λ c. c && p n) (of (dec_lt n k))
      where
        of : Dec (n < k) → ltb n k ≡ ltb n (suc k)
        of (yes l) = lt-ltb n k l ∙ sym (lt-ltb n (suc k) (omega arith))
        of (no l) = le-ltb n k (omega arith) ∙ sym (le-ltb n (suc k) (omega arith))

    go : (b : Bool) → p k ≡ b → Eq? n k → w ∋ n ≡ (ltb n k && p n) → (elim b as (λ _. Words) [ true ↦ add w k | false ↦ w ]) ∋ n ≡ (ltb n (suc k) && p n)
    go true e (same d q) ih = has-add w k n (below_set p k).four (omega arith) ∙ ap (λ b. b || w ∋ n) d ∙ sym (here q true e)
    go true e (other d q) ih = has-add w k n (below_set p k).four (omega arith) ∙ ap (λ b. b || w ∋ n) d ∙ ih ∙ there q
    go false e (same d q) ih = ih ∙ ap (λ c. c && p n) (le-ltb n k (omega arith)) ∙ sym (here q false e)
    go false e (other d q) ih = ih ∙ there q

-- the improper names
pass-set : (g : Looks) (k : ℕ) (w : Words) → IsSet w → IsSet (pass_to g k w).0
unfolding pass_to
pass-set g zero w h = h
pass-set g (suc k) w h = go (is_new g (pass_to g k w).0 k) (pass-set g k w h)
  where
    r : Words × Bool
    r = pass_to g k w

    go : (b : Bool) → IsSet r.0 → IsSet (elim b as (λ _. Words × Bool) [ true ↦ (add r.0 k, true) | false ↦ r ]).0
    go true h = add-set r.0 k h
    go false h = h

search-set : (g : Looks) (f : ℕ) (w : Words) → IsSet w → IsSet (search g f w)
unfolding search
search-set g zero w h = h
search-set g (suc f) w h = go (pass_to g 256 w).1 (search-set g f (pass_to g 256 w).0 pass)
  where
    pass : IsSet (pass_to g 256 w).0
    pass = pass-set g 256 w h

    go : (b : Bool) → IsSet (search g f (pass_to g 256 w).0)
        → IsSet (elim b as (λ _. Words) [ true ↦ search g f (pass_to g 256 w).0 | false ↦ (pass_to g 256 w).0 ])
    go true ih = ih
    go false ih = pass

-- all eight, for every list of bytes
pub record SetsOf (s : List ℕ) : Type 0 where
  pub structs : IsSet (types_of s).structs
  pub enums : IsSet (types_of s).enums
  pub cxx : IsSet (types_of s).cxx
  pub rust : IsSet (types_of s).rust
  pub aliases : IsSet (types_of s).aliases
  pub untrusted : IsSet (types_of s).untrusted
  pub required_trivial : IsSet (types_of s).required_trivial
  pub improper : IsSet (improper_of s (types_of s))

pub sets_of : (s : List ℕ) → SetsOf s
unfolding types_of required_of improper_of
sets_of s =
    record {
      structs = names-set s (enters_structs s) (items s);
      enums = names-set s (enters_enums s) (items s);
      cxx = names-set s (enters_cxx s) (items s);
      rust = names-set s (enters_rust s) (items s);
      aliases = names-set s (enters_aliases s) (items s);
      untrusted = names-set s (enters_untrusted s) (items s);
      required_trivial = below_set (λ n. ltb 0 (get_or (types_of s).reasons n 0)) 256;
      improper = search-set (looks_of s (types_of s)) 257 empty empty-set;
    }

-- a name is required trivial exactly where it has a reason
pub required-is : (s : List ℕ) (n : ℕ) → n < 256 → (types_of s).required_trivial ∋ n ≡ ltb 0 (get_or (types_of s).reasons n 0)
unfolding types_of required_of
required-is s n l =
    below-is (λ n. ltb 0 (get_or (types_of s).reasons n 0)) 256 n (omega arith) ∙ ap (λ b. b && ltb 0 (get_or (types_of s).reasons n 0)) (lt-ltb n 256 l)
