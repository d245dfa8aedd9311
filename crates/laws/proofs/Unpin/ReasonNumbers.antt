-- The number of a reason to be Unpin fits two bytes and gives the reason back, of rows and items that a sheet may have.
-- Assumes nothing.
use Prim.Native.Nat.{ℕ, ◌+◌, ◌-◌, ◌%◌, ◌<◌}
use mathlib.Core.Path.{◌≡◌, refl, ap}
use native.Mathlib.Omega.{arith}
use borrow.Author.Tests.{lt-ltb, le-ltb, ne_eqb}
use Rattle.std.proofs.Common.{Some, None}
use Rattle.rules.specs.declared.UnpinReason.TheVariants.{Row, Item}
use Rattle.rules.specs.Base.{if'◌then◌else◌}
use Rattle.rules.specs.Numbers.{item_reasons}
use Rattle.rules.specs.Unpin.{reason_of}

pub none-back : (0 < 65536) × (reason_of 0 ≡ None)
unfolding reason_of if'◌then◌else◌
none-back = (omega arith, refl)

pub row_back : (r : ℕ) → r + 1 < item_reasons → (r + 1 < 65536) × (reason_of (r + 1) ≡ Some (Row r))
unfolding reason_of if'◌then◌else◌
row_back r l =
    let e : r + 1 - 1 ≡ r = omega arith in
    (omega arith, rw (ne_eqb (r + 1) 0 (λ q. omega arith), lt-ltb (r + 1) item_reasons l) (ap (λ (x : ℕ). Some (Row x)) e))

pub item_back : (i : ℕ) → i < 256 → (item_reasons + i < 65536) × (reason_of (item_reasons + i) ≡ Some (Item i))
unfolding reason_of if'◌then◌else◌
item_back i l =
    let e : (item_reasons + i) % 256 ≡ i = omega arith in (
      omega arith,
      rw (ne_eqb (item_reasons + i) 0 (λ q. omega arith), le-ltb (item_reasons + i) item_reasons (omega arith)) (ap (λ (x : ℕ). Some (Item x)) e),
    )
