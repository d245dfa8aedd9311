-- A list whose first n entries became 0. The number of them stays a variable: so many zeros are never written out.
-- Assumes nothing.
use Prim.Native.Nat.{ℕ, zero, suc, ◌<◌, ◌≤◌}
use mathlib.Core.Path.{◌≡◌, refl, sym, ap, ◌∙◌}
use mathlib.Core.List.{List, ◌++◌}
use native.Mathlib.Omega.{arith}
use Rattle.std.proofs.Common.{length-take-le}
use lib.ListN.{length, get_or, take, drop, replicate, length-append, length-replicate, length-drop}
use Rattle.rules.specs.Numbers.{scratch_size}
use Rattle.rules.specs.Answer.{cleared}

unfoldable pub zeroed : (n : ℕ) → List ℕ → List ℕ
zeroed n b = replicate n 0 ++ drop n b

pub cleared-is : (b : List ℕ) → zeroed scratch_size b ≡ cleared b
unfolding zeroed cleared
cleared-is b = refl

-- the first n entries are filled with 0
pub zeroed-by : (n : ℕ) (b d : List ℕ) → n ≤ length b → d ≡ replicate (length (take n b)) 0 → d ++ drop n b ≡ zeroed n b
unfolding zeroed
zeroed-by n b d l e = rw (e, length-take-le n b l) refl

zeroed-length : (n : ℕ) (b : List ℕ) → n ≤ length b → length (zeroed n b) ≡ length b
unfolding zeroed
zeroed-length n b l = length-append (replicate n 0) (drop n b) ∙ omega (arith, length-replicate {A = ℕ} n 0, length-drop n b)

zeros-at : (n i : ℕ) (d : List ℕ) → i < n → get_or (replicate n 0 ++ d) i 0 ≡ 0
zeros-at zero i d l = absurd (omega arith)
zeros-at (suc n) zero d l = refl
zeros-at (suc n) (suc i) d l = zeros-at n i d (omega arith)

zeroed-at : (n i : ℕ) (b : List ℕ) → i < n → get_or (zeroed n b) i 0 ≡ 0
unfolding zeroed
zeroed-at n i b l = zeros-at n i (drop n b) l

pub cleared-length : (b : List ℕ) → scratch_size ≤ length b → length (cleared b) ≡ length b
cleared-length b l = ap length (sym (cleared-is b)) ∙ zeroed-length scratch_size b l

pub cleared_at : (b : List ℕ) (i : ℕ) → i < scratch_size → get_or (cleared b) i 0 ≡ 0
cleared_at b i l = ap (λ (d : List ℕ). get_or d i 0) (sym (cleared-is b)) ∙ zeroed-at scratch_size i b l
