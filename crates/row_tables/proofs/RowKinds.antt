-- What the kind that was read of a row says of the number: it is that kind's, or none's, which differs from all.
-- Assumes nothing.
use Prim.Native.Nat.{ℕ, ◌<◌}
use mathlib.Core.Path.{◌≡◌, refl, sym, ap, ◌∙◌}
use mathlib.Core.Bool.{Bool, false}
use native.Mathlib.Omega.{arith}
use lib.Dec.{eqb}
use borrow.Author.Tests.{ne_eqb}
use Rattle.std.specs.Prelude.{Option, Some, None}
use Rattle.std.specs.Option.{MatchOption}
use Rattle.rules.specs.declared.row.RowKind.{RowKind}
use Rattle.rules.specs.Kinds.{row_kind, row_number}
use Rattle.rules.proofs.KindLaws.{row_kind-back, row_kind-past}
use Rattle.laws.specs.Kinds.{leaf, is_through}
use Rattle.laws.specs.RowSteps.{improper_kind}

pub kind-of : {n : ℕ} {o : Option RowKind} {k : RowKind} → o ≡ row_kind n → o ≡ Some k → n ≡ row_number k
kind-of {n} e h = row_kind-back n (sym e ∙ h)

pub no-kind : (n : ℕ) {o : Option RowKind} → o ≡ row_kind n → o ≡ None → (k : ℕ) → k < 14 → eqb n k ≡ false
no-kind n e h k l = let p = row_kind-past n (sym e ∙ h) in ne_eqb n k (λ q. omega arith)

kind_in : RowKind → Option RowKind → RowKind
kind_in d (Some k) = k
kind_in d None = d

-- a kind that is not x has not its number j
pub other-kind : (x : RowKind) (n : ℕ) {o : Option RowKind} {k : RowKind} → o ≡ row_kind n → o ≡ Some k → (k ≡ x → ⊥) → (j : ℕ) → row_kind j ≡ Some x
    → eqb n j ≡ false
unfolding kind_in
other-kind x n e h differs j q = ne_eqb n j (λ p. differs (ap (kind_in x) (sym h ∙ e ∙ ap row_kind p ∙ q)))

pub no-leaf : (n : ℕ) {o : Option RowKind} → o ≡ row_kind n → o ≡ None → leaf n ≡ false
no-leaf n e h =
    let not = no-kind n e h in
    rw (not 0 (omega arith), not 9 (omega arith), not 13 (omega arith))

pub no-through : (n : ℕ) {o : Option RowKind} → o ≡ row_kind n → o ≡ None → is_through n ≡ false
no-through n e h =
    let not = no-kind n e h in
    rw (not 7 (omega arith), not 8 (omega arith), not 11 (omega arith))

pub no-improper : (n : ℕ) {o : Option RowKind} → o ≡ row_kind n → o ≡ None → improper_kind n ≡ false
no-improper n e h =
    let not = no-kind n e h in
    rw (not 1 (omega arith), not 2 (omega arith), not 9 (omega arith), not 12 (omega arith), not 13 (omega arith), not 10 (omega arith))

-- a test of a row's kind, by whether its number is a kind's; of a kind the test gives what P says
pub kind_passes :
    (test : ℕ → Bool) (n : ℕ) (o : Option RowKind) (x : Bool) (P : RowKind → Type 0) → o ≡ row_kind n → MatchOption o (x ≡ false) P
    → ((k : RowKind) → P k → x ≡ test (row_number k)) → (o ≡ None → test n ≡ false) → x ≡ test n
kind_passes test n None x P e h some none = h ∙ sym (none refl)
kind_passes test n (Some k) x P e h some none = some k h ∙ ap test (sym (row_kind-back n (sym e)))
