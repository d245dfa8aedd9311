-- The digits that crate itoa writes are those of the rules: both definitions have one digit below 10, and one more at the end of the digits of a tenth.
-- Assumes nothing.
use Prim.Native.Nat.{ℕ, ◌+◌, ◌/◌, ◌%◌, ◌^◌, ◌≤◌, ◌<◌}
use mathlib.Core.Path.{◌≡◌, sym, ap, ◌∙◌}
use mathlib.Core.List.{List, [], ◌∷◌, ◌++◌}
use native.Mathlib.Omega.{arith}
use Rattle.std.specs.Fmt.{decimal as printed}
use Rattle.std.proofs.lemmas.Fmt.{decimal_by_steps}
use Rattle.rules.specs.Text.{digit, decimal}
use Rattle.laws.proofs.Base.Digits.{decimal-small, decimal-more}

abbrev Same : ℕ → List ℕ → Type 0
Same n ds = ds ≡ decimal n

one : (n : ℕ) → n < 10 → Same n ((48 + n) ∷ [])
one n h = let e : 48 + n ≡ digit (n % 10) = omega arith in ap (λ (d : ℕ). d ∷ []) e ∙ sym (decimal-small n h)

more : (n : ℕ) (ds : List ℕ) → 10 ≤ n → Same (n / 10) ds → Same n (ds ++ ((48 + n % 10) ∷ []))
more n ds h e = ap (λ (l : List ℕ). l ++ (digit (n % 10) ∷ [])) e ∙ sym (decimal-more n h)

pub decimal-is : (n : ℕ) → n < 2 ^ 64 → printed n ≡ decimal n
decimal-is n h = decimal_by_steps Same one more n h
