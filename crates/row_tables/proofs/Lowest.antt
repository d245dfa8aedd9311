-- Of a word that is not 0: `w & (w - 1)` is the word without its lowest bit.
-- Assumes nothing.
use Prim.Native.Nat.{ℕ, zero, suc, ◌+◌, ◌-◌, ◌*◌, ◌/◌, ◌%◌, ◌^◌, ◌<◌}
use mathlib.Core.Path.{◌≡◌, refl}
use native.Mathlib.Nat.{pow-suc}
use native.Mathlib.Omega.{arith}
use lib.Bits.{bit_and, and_step, and_self}
use lib.Count.{under, count_trailing_zeros}
use Rattle.row_tables.specs.Listed.{LowestOut}

-- of a number of d bits whose lowest bit is b, with h the number of the others
step : (w h t : ℕ) (b : ℕ) → w ≡ 2 * h + b → b < 2 → 0 < w → (0 < h → bit_and h (h - 1) + 2 ^ t ≡ h) → bit_and w (w - 1) + 2 ^ under b t ≡ w
step w h t zero e l p f =
    let o : w / 2 ≡ h = omega arith in
    let q : (w - 1) / 2 ≡ h - 1 = omega arith in
    let s = rw (o, q) at (and_step w (w - 1)) in
    omega (arith, s, pow-suc 2 t, f (omega arith))
step w h t (suc b) e l p f =
    let o : w / 2 ≡ h = omega arith in
    let q : (w - 1) / 2 ≡ h = omega arith in
    let s = rw (o, q, and_self h) at (and_step w (w - 1)) in
    omega (arith, s)

lowest : (d w : ℕ) → 0 < w → w < 2 ^ d → bit_and w (w - 1) + 2 ^ count_trailing_zeros d w ≡ w
unfolding count_trailing_zeros
lowest zero w p l = absurd (omega arith)
lowest (suc d) w p l =
    step w (w / 2) _ (w % 2) (omega arith) (omega arith) p (λ h. lowest d (w / 2) h (omega (arith, pow-suc 2 d)))

pub lowest_out : (w : ℕ) → (w ≡ 0 → ⊥) → w < 2 ^ 64 → LowestOut w (bit_and w (w - 1)) (count_trailing_zeros 64 w)
lowest_out w some l =
    let p : 0 < w = omega (arith, some) in
    record { some = p; lowest = refl; others = lowest 64 w p l }
