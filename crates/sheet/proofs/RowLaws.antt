-- What the body of a row is, where the number is no kind's.
-- Assumes nothing.
use Prim.Native.Nat.{ℕ, suc, ◌-◌, ◌≤◌}
use mathlib.Core.Path.{◌≡◌}
use mathlib.Core.List.{List}
use native.Mathlib.Omega.{arith}
use Rattle.std.specs.Prelude.{Ok}
use Rattle.rules.specs.Format.{Step, row_kinds, body_of}

pub body-past : (s : List ℕ) (r k at : ℕ) → 14 ≤ k → ◌≡◌ {A = Step} (Ok at) (body_of s r k at)
unfolding body_of row_kinds
body-past s r k at l =
    let q : k ≡ suc (suc (suc (suc (suc (suc (suc (suc (suc (suc (suc (suc (suc (suc (k - 14)))))))))))))) = omega arith in rw q
