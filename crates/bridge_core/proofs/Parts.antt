-- An answer made of its parts is the one that the rules give: a set by its words, a size by its set, the reasons one after another.
-- Assumes nothing.
use mathlib.Core.Path.{◌≡◌, refl, sym, ◌∙◌, ap}
use Prim.Native.Nat.{ℕ, ◌+◌, ◌<◌}
use native.Mathlib.Omega.{arith}
use mathlib.Core.List.{List, [], ◌∷◌, ◌++◌, append-nil}
use lib.ListN.{length, get_or, take, set, replicate, length-replicate, drop_of_length-le}
use lib.Seq.{sets, sets-eq, take_all, length-take-le}
use Rattle.std.specs.Prelude.{Ok, Err, Option, None}
use Rattle.rules.specs.Numbers.{name_count, set_count, most_items, struct_set, enum_set, cxx_set, rust_set, alias_set, untrusted_set, required_trivial_set}
use Rattle.rules.specs.declared.Refusal.{Refusal}
use Rattle.rules.specs.declared.NameSet.{NameSet}
use Rattle.rules.specs.declared.UnpinReason.{UnpinReason}
use Rattle.rules.specs.declared.Answer.{Answer}
use Rattle.rules.specs.Names.{Words, empty, size}
use Rattle.rules.specs.Answer.{name_set, refused}
use Rattle.laws.proofs.Base.Lists.{over-length}
use Rattle.laws.proofs.Base.Flat.{take_more}
use Rattle.laws.proofs.Base.Stores.{sets-append}
use Rattle.names.specs.Known.{entry_at, names_in, counts_in}
use Rattle.names.proofs.Columns.{count-is as entry-is}
use Rattle.bridge_core.specs.Run.{answer_with}

-- ## Refused

-- of a set's words
abbrev none : Refusal → Words → Answer
none r w =
    record {
      verdict = Err r;
      sets = replicate set_count (name_set w);
      sizes = replicate set_count 0;
      reasons = replicate name_count 0;
      unpin = replicate name_count None;
      structs = 0;
      order = replicate most_items 0;
      tiers = replicate most_items 0;
      total = 0;
    }

pub refused-is : (r : Refusal) (x : NameSet) → x.words ≡ empty → none r x.words ≡ refused r
unfolding refused
refused-is r x e = ap (none r) e

-- ## Reasons

module _ (w : List ℕ) where
  abbrev counts : List ℕ
  counts = counts_in w required_trivial_set

  counts-long : length counts ≡ name_count
  unfolding counts_in
  counts-long = over-length (λ n. entry_at w required_trivial_set n) name_count

  -- those of the names below n
  unfoldable pub counted_to : ℕ → List ℕ
  counted_to n = sets (replicate name_count 0) 0 (take n counts)

  pub counted_start : replicate name_count 0 ≡ counted_to 0
  unfolding counted_to
  counted_start = refl

  pub counted-more : (n : ℕ) {x : ℕ} → n < name_count → x ≡ entry_at w required_trivial_set n → set (counted_to n) n x ≡ counted_to (n + 1)
  unfolding counted_to
  counted-more n h e =
      let long : length counts ≡ name_count = counts-long in
      let at : n ≡ 0 + length (take n counts) = omega (arith, length-take-le n counts (omega arith)) in
      ap (λ (y : ℕ). set (counted_to n) n y) (e ∙ sym (entry-is w required_trivial_set n))
      ∙ ap (λ (k : ℕ). sets (counted_to n) k (get_or counts n 0 ∷ [])) at
      ∙ sets-append (replicate name_count 0) 0 (take n counts) (get_or counts n 0 ∷ [])
      ∙ ap (λ (l : List ℕ). sets (replicate name_count 0) 0 l) (take_more counts n 0 (omega arith))

  pub counted-all : (n : ℕ) → n ≡ name_count → counted_to n ≡ counts
  unfolding counted_to
  counted-all n e =
      let long : length counts ≡ name_count = counts-long in
      let zeros : length (replicate {A = ℕ} name_count 0) ≡ name_count = length-replicate {A = ℕ} name_count 0 in
      ap (λ (l : List ℕ). sets (replicate name_count 0) 0 l) (take_all n counts (omega arith))
      ∙ sets-eq counts (replicate name_count 0) 0 (omega arith)
      ∙ ap (λ (l : List ℕ). counts ++ l) (drop_of_length-le (replicate name_count 0) {i = 0 + length counts} (omega arith))
      ∙ append-nil counts

-- ## Accepted

-- a set with its size
pub record Sized (w : Words) (x : NameSet) (n : ℕ) : Type 0 where
  pub set : x.words ≡ w
  pub count : n ≡ size x.words

module _ {w : Words} {x : NameSet} {n : ℕ} (h : Sized w x n) where
  set_is : x ≡ name_set w
  set_is = ap name_set h.set

  count-is : n ≡ size w
  count-is = h.count ∙ ap size h.set

module _ (w : List ℕ) (unpin : List (Option UnpinReason)) (structs : ℕ) (order tiers : List ℕ) (total : ℕ) where
  pub accepted-is : {a b c d e f g h : NameSet} {i j k l m n o p : ℕ} {reasons : List ℕ} → Sized (names_in w struct_set) a i → Sized (names_in w enum_set) b j
      → Sized (names_in w cxx_set) c k → Sized (names_in w rust_set) d l → Sized (names_in w alias_set) e m → Sized (names_in w untrusted_set) f n
      → Sized (names_in w required_trivial_set) g o → p ≡ size h.words → reasons ≡ counts_in w required_trivial_set
      → record {
        verdict = Ok tt;
        sets = a ∷ b ∷ c ∷ d ∷ e ∷ f ∷ g ∷ h ∷ [];
        sizes = i ∷ j ∷ k ∷ l ∷ m ∷ n ∷ o ∷ p ∷ [];
        reasons = reasons;
        unpin = unpin;
        structs = structs;
        order = order;
        tiers = tiers;
        total = total;
      } ≡ answer_with w unpin h.words structs order tiers total
  unfolding answer_with
  accepted-is A B C D E F G H R =
      rw (
        set_is A,
        set_is B,
        set_is C,
        set_is D,
        set_is E,
        set_is F,
        set_is G,
        count-is A,
        count-is B,
        count-is C,
        count-is D,
        count-is E,
        count-is F,
        count-is G,
        H,
        R,
      )
