-- Sets of names without a common name: where no word of the one has a bit that the same word of the other has. A bit of `&` is the smaller of the two bits, so
-- where `&` is 0 no bit is in both; and a name is a bit of one of the four words.
-- Assumes nothing.
use Prim.Native.Nat.{ℕ, ◌/◌, ◌%◌, ◌^◌, ◌<◌, min}
use mathlib.Core.Path.{◌≡◌, sym, ap, ◌∙◌}
use mathlib.Core.Logic.{◌≢◌}
use mathlib.Core.Bool.{Bool, true, false, not}
use native.Mathlib.Nat.{zero-div}
use native.Mathlib.Omega.{arith}
use native.Mathlib.Decide.{dec_lt}
use borrow.Author.Tests.{eqb-true, ne_eqb, not-false}
use lib.Arith.{digits_mod}
use lib.Bits.{bit_and, and_step, and_shr}
use lib.Dec.{eqb}
use lib.ListN.{length, get_or}
use Rattle.rules.specs.Names.{Words, bit_of, ◌∋◌}
use Rattle.laws.proofs.Base.Tests.{never}
use Rattle.names.proofs.Laws.{contains-not}
use Rattle.improper.specs.Targets.{Apart}

-- ## Bits

and-mod2 : (a b : ℕ) → bit_and a b % 2 ≡ min (a % 2) (b % 2)
and-mod2 a b = ap (λ n. n % 2) (and_step a b) ∙ digits_mod (bit_and (a / 2) (b / 2)) (small a b)
  where
    small : (a b : ℕ) → min (a % 2) (b % 2) < 2
    small a b = omega arith

and-bit : (a b k : ℕ) → bit_of (bit_and a b) k ≡ min (bit_of a k) (bit_of b k)
unfolding bit_of
and-bit a b k = ap (λ n. n % 2) (and_shr a b k) ∙ and-mod2 (a / 2 ^ k) (b / 2 ^ k)

bit-zero : (k : ℕ) → bit_of 0 k ≡ 0
unfolding bit_of
bit-zero k = ap (λ n. n % 2) (zero-div (2 ^ k))

not-one : (x y : ℕ) → min x y ≡ 0 → x ≡ 1 → y ≢ 1
not-one x y e h q = omega arith

-- ## Words

apart-word : (a b k : ℕ) → bit_and a b ≡ 0 → eqb (bit_of a k) 1 ≡ true → eqb (bit_of b k) 1 ≡ false
apart-word a b k e h =
    let none : min (bit_of a k) (bit_of b k) ≡ 0 = sym (and-bit a b k) ∙ ap (λ w. bit_of w k) e ∙ bit-zero k in
    ne_eqb (bit_of b k) 1 (not-one (bit_of a k) (bit_of b k) none (eqb-true (bit_of a k) 1 h))

-- the two sets share a name of word q, as the code asks
abbrev pub shares : (a b : Words) (q : ℕ) → Bool
shares a b q = not (eqb (bit_and (get_or a q 0) (get_or b q 0)) 0)

-- ## Sets

module _ (a b : Words) (long : length a ≡ 4) where
  pub apart : ((q : ℕ) → q < 4 → shares a b q ≡ false) → Apart a b
  unfolding ◌∋◌
  apart none j h = go (dec_lt (j / 64) 4)
    where
      go : Dec (j / 64 < 4) → b ∋ j ≡ false
      go (yes l) =
          let e = eqb-true (bit_and (get_or a (j / 64) 0) (get_or b (j / 64) 0)) 0 (not-false _ (none (j / 64) l)) in
          apart-word (get_or a (j / 64) 0) (get_or b (j / 64) 0) (j % 64) e h
      go (no m) = never (contains-not a long j (omega arith) ∙ h)
