-- The parts of the text, as the code joins them.
-- Assumes nothing.
use Prim.Native.Nat.{ℕ, zero, suc, ◌+◌, ◌≤◌, min}
use mathlib.Core.Path.{◌≡◌, refl, sym, ap, ◌∙◌}
use mathlib.Core.Bool.{Bool, true, false}
use mathlib.Core.List.{List, [], ◌∷◌, ◌++◌, flat_map, append_assoc}
use native.Mathlib.Omega.{arith}
use native.Mathlib.Decide.{dec_le}
use lib.ListN.{length, get_or, take}
use lib.Seq.{take_all, take-take}
use Rattle.rules.specs.declared.Place.{Place}
use Rattle.rules.specs.declared.Place.TheVariants.{R, G, I, F, A, O, D, L}
use Rattle.rules.specs.declared.Diagnostic.{Diagnostic}
use Rattle.rules.specs.Base.{if'◌then◌else◌, over}
use Rattle.rules.specs.Names.{Words, ◌∋◌}
use Rattle.rules.specs.Diagnostics.{letter_of, numbers_of}
use Rattle.std.specs.Prelude.{Some, None, slice_get}
use Rattle.rules.specs.Text.{ascii, decimal, spaced, line, tiers_along, members_to, place_text, record_line, printed}
use Rattle.laws.proofs.Base.Flat.{flat-one, flat-over}
use Rattle.laws.proofs.Base.Digits.{short}
use Rattle.lines.specs.declared.Text.{Text}
use Rattle.lines.specs.Appends.{Appends, Short}
use Rattle.lines.proofs.Laws.{none, also, meant}

pub few-digits : {w n : ℕ} → Short w n → length (decimal n) ≤ w
few-digits {w = zero} h = absurd (omega arith)
few-digits {w = suc w} {n} h = short w n h.1

-- ## The first line

pub total-is : (n : ℕ) → (ascii "accepted" ++ spaced n) ++ ascii "\n" ≡ line "accepted" (n ∷ [])
unfolding line
total-is n = ap (λ (t : List ℕ). ascii "accepted" ++ t ++ ascii "\n") (flat-one spaced n)

-- ## Tiers

pub along : (tiers l : List ℕ) → flat_map (λ (i : ℕ). spaced (get_or tiers i 0)) l ≡ flat_map spaced (tiers_along tiers l)
unfolding tiers_along flat_map
along tiers [] = refl
along tiers (i ∷ l) = ap (λ (t : List ℕ). spaced (get_or tiers i 0) ++ t) (along tiers l)

-- ## Names

pub if_yes : (b : Bool) (n : ℕ) → b ≡ true → spaced n ≡ flat_map spaced (if' b then n ∷ [] else [])
unfolding if'◌then◌else◌
if_yes true n e = flat-one spaced n
if_yes false n e = cc

pub if_no : (b : Bool) (n : ℕ) → b ≡ false → [] ≡ flat_map spaced (if' b then n ∷ [] else [])
unfolding if'◌then◌else◌ flat_map
if_no true n e = cc
if_no false n e = refl

pub members-start : (t : Text) (w : Words) → Appends t 0 (flat_map spaced (members_to 0 w)) t
unfolding members_to over flat_map
members-start t w = none t

pub members-turn : {t t' t'' : Text} {m : ℕ} (k : ℕ) (w : Words) (x : Bool) → x ≡ (w ∋ k) → Appends t m (flat_map spaced (members_to k w)) t'
    → Appends t' 4 (flat_map spaced (if' x then k ∷ [] else [])) t'' → Appends t (m + 4) (flat_map spaced (members_to (k + 1) w)) t''
unfolding members_to
members-turn k w x e p q =
    meant (also p q) (ap (λ (y : Bool). flat_map spaced (members_to k w) ++ flat_map spaced (if' y then k ∷ [] else [])) e
    ∙ flat-over spaced (λ j. if' w ∋ j then j ∷ [] else []) k)

-- ## A place

numbers-one : (p : Place) → slice_get (numbers_of p) 1 ≡ None → get_or (numbers_of p) 0 0 ∷ [] ≡ numbers_of p
numbers-one (R r) e = refl
numbers-one (G r j) e = cc
numbers-one (I i) e = refl
numbers-one (F i j) e = cc
numbers-one (A i j) e = cc
numbers-one (O i) e = refl
numbers-one (D i j) e = cc
numbers-one (L i j) e = cc

numbers-two : (p : Place) {j : ℕ} → slice_get (numbers_of p) 1 ≡ Some j → get_or (numbers_of p) 0 0 ∷ j ∷ [] ≡ numbers_of p
numbers-two (R r) e = cc
numbers-two (G r j) e = cc
numbers-two (I i) e = cc
numbers-two (F i j) e = cc
numbers-two (A i j) e = cc
numbers-two (O i) e = cc
numbers-two (D i j) e = cc
numbers-two (L i j) e = cc

module _ (p : Place) {q : Place} (is : q ≡ p) {x a : ℕ} (e : x ≡ letter_of q) (f : a ≡ get_or (numbers_of q) 0 0) where
  abbrev head : List ℕ
  head = ascii " " ++ (letter_of p ∷ [])

  pub place_one : slice_get (numbers_of q) 1 ≡ None → (ascii " " ++ (x ∷ [])) ++ spaced a ≡ place_text p
  unfolding place_text
  place_one h = rw (e, f, is) (ap (λ (l : List ℕ). head ++ l) (flat-one spaced _ ∙ ap (flat_map spaced) (numbers-one p (rw is at h))))

  pub place_two : {j : ℕ} → slice_get (numbers_of q) 1 ≡ Some j → ((ascii " " ++ (x ∷ [])) ++ spaced a) ++ spaced j ≡ place_text p
  unfolding place_text flat_map
  place_two {j} h =
      let first : ℕ = get_or (numbers_of p) 0 0 in
      rw (e, f, is)
      (append_assoc head (spaced first) (spaced j)
      ∙ ap (λ (l : List ℕ). head ++ (spaced first ++ l)) (flat-one spaced j)
      ∙ ap (λ (l : List ℕ). head ++ flat_map spaced l) (numbers-two p (rw is at h)))

-- ## Counts that are cut

pub cut : (ds : List Diagnostic) → length ds ≤ printed → flat_map record_line ds ≡ flat_map record_line (take printed ds)
cut ds h = ap (flat_map record_line) (sym (take_all printed ds h))

-- before another cut
pub take_twice : {A : Type 0} (l : List A) (n m : ℕ) → take m (take (min n m) l) ≡ take m (take n l)
take_twice {A} l n m = go (dec_le m n)
  where
    go : Dec (m ≤ n) → take m (take (min n m) l) ≡ take m (take n l)
    go (yes g) = take-take m (min n m) l (omega arith) ∙ sym (take-take m n l g)
    go (no g) = ap (λ (k : ℕ). take m (take k l)) (let e : min n m ≡ n = omega arith in e)
