-- A list of one entry for each number below n: its length, and entry x of it; and one of several for each, without the numbers that give none. The list as the
-- call leaves it and the answer's 255 places, a list and then zeros, are runs of stores from the first place on (Stores); the places stand here by entries too.
-- Assumes nothing.
use mathlib.Core.Path.{◌≡◌, refl, sym, ap, ◌∙◌}
use mathlib.Core.List.{List, [], ◌∷◌, ◌++◌, append-nil}
use Prim.Native.Nat.{ℕ, zero, suc, ◌+◌, ◌-◌, ◌≤◌, ◌<◌}
use native.Mathlib.Omega.{arith}
use native.Mathlib.Decide.{dec_lt}
use lib.ListN.{length, get_or, take, drop, replicate, length-append, length-replicate, get_or-append, get_or-eq_default}
use lib.Seq.{sets, length-sets, take_all, take_at, get_or-append_seam, get_or-append-add}
use Rattle.rules.specs.declared.Diagnostic.{Diagnostic}
use Rattle.rules.specs.Base.{over}
use Rattle.rules.specs.Answer.{places, filled}
use Rattle.laws.proofs.Base.Counts.{Eq?, same, other, eq?}
use Rattle.laws.proofs.Base.Stores.{sets_first}

-- numbers of which none gives anything
pub over_nothing : {A : Type 0} (n : ℕ) (f : ℕ → List A) → ((x : ℕ) → f x ≡ []) → over n f ≡ []
unfolding over
over_nothing zero f h = refl
over_nothing (suc n) f h = rw (over_nothing n f h, h n)

-- two functions that give the same
pub over-same : {A : Type 0} (n : ℕ) (f g : ℕ → List A) → ((k : ℕ) → k < n → f k ≡ g k) → over n f ≡ over n g
unfolding over
over-same zero f g h = refl
over-same (suc n) f g h = rw (h n (omega arith), over-same n f g (λ k l. h k (omega arith)))

-- entries that give nothing
pub over_skip : {A : Type 0} (f : ℕ → List A) (k z : ℕ) → ((j : ℕ) → j < z → f (k + j) ≡ []) → over k f ≡ over (k + z) f
unfolding over
over_skip f k zero h = let e : k + 0 ≡ k = omega arith in rw e
over_skip f k (suc z) h =
    let e : k + suc z ≡ suc (k + z) = omega arith in
    rw (e, h z (omega arith)) (over_skip f k z (λ j l. h j (omega arith)) ∙ sym (append-nil _))

module _ {A : Type 0} (f : ℕ → A) where
  pub over-length : (n : ℕ) → length (over n (λ j. f j ∷ [])) ≡ n
  unfolding over
  over-length zero = refl
  over-length (suc n) = length-append (over n (λ j. f j ∷ [])) (f n ∷ []) ∙ omega (arith, over-length n)

  pub over-get : (d : A) (n x : ℕ) → x < n → get_or (over n (λ j. f j ∷ [])) x d ≡ f x
  unfolding over
  over-get d zero x l = absurd (omega arith)
  over-get d (suc n) x l = go (eq? x n) (over-get d n x)
    where
      all : List A
      all = over n (λ j. f j ∷ [])

      size : length all ≡ n
      size = over-length n

      go : Eq? x n → (x < n → get_or all x d ≡ f x) → get_or (all ++ f n ∷ []) x d ≡ f x
      go (same _ e) ih = ap (λ (k : ℕ). get_or (all ++ f n ∷ []) k d) (e ∙ sym size) ∙ get_or-append_seam all (f n) [] d ∙ ap f (sym e)
      go (other _ e) ih = get_or-append all (f n ∷ []) d x (omega (arith, size)) ∙ ih (omega arith)

pub zeros-get : (k x : ℕ) → get_or (replicate k 0) x 0 ≡ length {A = ℕ} []
zeros-get zero x = refl
zeros-get (suc k) zero = refl
zeros-get (suc k) (suc x) = zeros-get k x

-- ## A list, and then zeros

zeros-drop : (k n : ℕ) → drop k (replicate n 0) ≡ replicate {A = ℕ} (n - k) 0
zeros-drop zero n = let e : n ≡ n - 0 = omega arith in ap (λ (m : ℕ). replicate {A = ℕ} m 0) e
zeros-drop (suc k) zero = let e : 0 ≡ 0 - suc k = omega arith in ap (λ (m : ℕ). replicate {A = ℕ} m 0) e
zeros-drop (suc k) (suc n) = let e : n - k ≡ suc n - suc k = omega arith in zeros-drop k n ∙ ap (λ (m : ℕ). replicate {A = ℕ} m 0) e

-- it is what storing it over zeros gives
padded-sets : (n : ℕ) (l : List ℕ) → take n l ++ replicate (n - length l) 0 ≡ sets (replicate n 0) 0 l
padded-sets n l =
    sym (sets_first (replicate n 0) l ∙ ap (λ (k : ℕ). take k l ++ drop (length l) (replicate n 0)) (length-replicate {A = ℕ} n 0)
    ∙ ap (λ (m : List ℕ). take n l ++ m) (zeros-drop (length l) n))

-- where the list is short enough, it stands there whole
padded-front : (n : ℕ) (l : List ℕ) → length l ≤ n → take n l ++ replicate (n - length l) 0 ≡ l ++ replicate (n - length l) 0
padded-front n l h = ap (λ (m : List ℕ). m ++ replicate (n - length l) 0) (take_all n l h)

padded-get : (n : ℕ) (l : List ℕ) → length l ≤ n → (x : ℕ) → get_or (take n l ++ replicate (n - length l) 0) x 0 ≡ get_or l x 0
padded-get n l h x = ap (λ (m : List ℕ). get_or m x 0) (padded-front n l h) ∙ go (dec_lt x (length l))
  where
    zeros : List ℕ
    zeros = replicate (n - length l) 0

    go : Dec (x < length l) → get_or (l ++ zeros) x 0 ≡ get_or l x 0
    go (yes k) = get_or-append l zeros 0 x k
    go (no k) =
        let e : length l + (x - length l) ≡ x = omega arith in
        ap (λ (y : ℕ). get_or (l ++ zeros) y 0) (sym e) ∙ get_or-append-add l zeros (x - length l) 0 ∙ zeros-get (n - length l) (x - length l)
        ∙ sym (get_or-eq_default l 0 (omega arith))

padded-take : (n : ℕ) (l : List ℕ) → length l ≤ n → take (length l) (take n l ++ replicate (n - length l) 0) ≡ l
padded-take n l h = ap (take (length l)) (padded-front n l h) ∙ take_at l (replicate (n - length l) 0) (length l) refl

-- ## The list as the call leaves it, and the answer's 255 places

pub filled-sets : (list report : List Diagnostic) → filled list report ≡ sets list 0 report
unfolding filled
filled-sets list report = sym (sets_first list report)

module _ (l : List ℕ) where
  pub places-sets : places l ≡ sets (replicate 255 0) 0 l
  unfolding places
  places-sets = padded-sets 255 l

  pub places-length : length (places l) ≡ 255
  places-length = ap length places-sets ∙ length-sets (replicate 255 0) 0 l ∙ length-replicate {A = ℕ} 255 0

  module _ (h : length l ≤ 255) where
    pub places-get : (x : ℕ) → get_or (places l) x 0 ≡ get_or l x 0
    unfolding places
    places-get x = padded-get 255 l h x

    pub places-take : take (length l) (places l) ≡ l
    unfolding places
    places-take = padded-take 255 l h
