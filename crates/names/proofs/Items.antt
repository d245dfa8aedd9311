-- The item that an entry means, as an option.
-- Assumes nothing.
use Rattle.std.specs.Prelude.{ℕ, zero, suc, ◌-◌, ◌≡◌, ◌≢◌, None}
use Rattle.std.proofs.Common.{arith}
use mathlib.Core.Path.{refl}
use Rattle.rules.specs.Numbers.{no_item}
use Rattle.rules.specs.Base.{if'◌then◌else◌}
use Rattle.rules.specs.Kinds.{some_unless}
use Rattle.names.specs.Known.{item_in}

-- where it is 0
pub no-entry : (e : ℕ) → e ≡ 0 → None ≡ some_unless no_item (item_in e)
unfolding some_unless if'◌then◌else◌
no-entry e h = rw h refl

-- else it means one less, unless that is no item's number
pub one-less : (e : ℕ) → e ≢ 0 → item_in e ≡ e - 1
one-less zero h = absurd (h refl)
one-less (suc i) h = omega arith
