-- `==` on the kind of a row, which may be none, says whether the row's number is that kind's.
-- Assumes nothing.
use Prim.Native.Nat.{ℕ, zero, suc, ◌<◌}
use mathlib.Core.Path.{◌≡◌, refl, sym}
use mathlib.Core.Bool.{Bool, false}
use native.Mathlib.Omega.{arith}
use Rattle.std.specs.Prelude.{eqb, Option, Some}
use Rattle.std.specs.Option.{option_eq}
use Rattle.rules.specs.contracts.row.RowKindPartialEq.TheImpl as equal
use Rattle.rules.specs.declared.row.RowKind.{RowKind}
use Rattle.rules.specs.declared.row.RowKind.TheVariants as row
use Rattle.rules.specs.Numbers.{Ref, Fn, Void}
use Rattle.rules.specs.Kinds.{row_kind}
use Rattle.laws.proofs.Base.Tests.{no_eq}

abbrev pub same_kind : Option RowKind → RowKind → Bool
same_kind o k = option_eq equal.eq-value.it o (Some k)

above : {n k : ℕ} → k < n → false ≡ eqb n k
above {n} {k} m = sym (no_eq n k (λ e. omega (arith, e, m)))

pub record Tests (n : ℕ) : Type 0 where
  pub reference : same_kind (row_kind n) row.Ref ≡ eqb n Ref
  pub function : same_kind (row_kind n) row.Fn ≡ eqb n Fn
  pub nothing : same_kind (row_kind n) row.Void ≡ eqb n Void

pub tests : (n : ℕ) → Tests n
unfolding row_kind
tests zero = record { reference = refl; function = refl; nothing = refl }
tests (suc zero) = record { reference = refl; function = refl; nothing = refl }
tests (suc (suc zero)) = record { reference = refl; function = refl; nothing = refl }
tests (suc (suc (suc zero))) = record { reference = refl; function = refl; nothing = refl }
tests (suc (suc (suc (suc zero)))) = record { reference = refl; function = refl; nothing = refl }
tests (suc (suc (suc (suc (suc zero))))) = record { reference = refl; function = refl; nothing = refl }
tests (suc (suc (suc (suc (suc (suc zero)))))) = record { reference = refl; function = refl; nothing = refl }
tests (suc (suc (suc (suc (suc (suc (suc zero))))))) = record { reference = refl; function = refl; nothing = refl }
tests (suc (suc (suc (suc (suc (suc (suc (suc zero)))))))) = record { reference = refl; function = refl; nothing = refl }
tests (suc (suc (suc (suc (suc (suc (suc (suc (suc zero))))))))) = record { reference = refl; function = refl; nothing = refl }
tests (suc (suc (suc (suc (suc (suc (suc (suc (suc (suc zero)))))))))) = record { reference = refl; function = refl; nothing = refl }
tests (suc (suc (suc (suc (suc (suc (suc (suc (suc (suc (suc zero))))))))))) = record { reference = refl; function = refl; nothing = refl }
tests (suc (suc (suc (suc (suc (suc (suc (suc (suc (suc (suc (suc zero)))))))))))) = record { reference = refl; function = refl; nothing = refl }
tests (suc (suc (suc (suc (suc (suc (suc (suc (suc (suc (suc (suc (suc zero))))))))))))) = record { reference = refl; function = refl; nothing = refl }
tests (suc (suc (suc (suc (suc (suc (suc (suc (suc (suc (suc (suc (suc (suc n)))))))))))))) =
    record { reference = above (omega arith); function = above (omega arith); nothing = above (omega arith) }
