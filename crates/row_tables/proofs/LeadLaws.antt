-- What a row leads to, as an entry: of a sheet's own types it is what `plain_lead` says, since an accepted sheet has at most 255 items (`lead-own`).
-- Assumes nothing.
use Prim.Native.Nat.{ℕ, ◌≤◌, ◌<◌}
use mathlib.Core.Path.{◌≡◌, refl}
use mathlib.Core.List.{List}
use native.Mathlib.Omega.{arith}
use native.Mathlib.Decide.{dec_lt}
use borrow.Author.Tests.{lt-ltb, le-ltb, eq-eqb, ne_eqb}
use Rattle.rules.specs.Numbers.{Ident, no_item}
use Rattle.rules.specs.Base.{if'◌then◌else◌}
use Rattle.rules.specs.Format.{Accepted}
use Rattle.rules.specs.View.{is, row_name}
use Rattle.rules.specs.Types.{types_of, struct_of}
use Rattle.rules.specs.Order.{plain_lead}
use Rattle.laws.proofs.Base.Counts.{Eq?, same, other, eq?}
use Rattle.laws.proofs.Sheet.Accepted.{few-items}
use Rattle.laws.proofs.Names.LastItems.{of-last}
use Rattle.row_tables.specs.Tables.{lead_entry, lead_of}
use Rattle.rules.specs.Kinds.{some_unless}
use Rattle.std.specs.Prelude.{None}
use mathlib.Core.Bool.{Bool, true, false}

entry-is : (i : ℕ) → i ≤ no_item → lead_entry i ≡ some_unless no_item i
unfolding lead_entry some_unless if'◌then◌else◌
entry-is i h = go (dec_lt i no_item)
  where
    go : Dec (i < no_item) → lead_entry i ≡ some_unless no_item i
    go (yes l) = rw (lt-ltb i no_item l, ne_eqb i no_item (λ e. absurd (omega arith)))
    go (no l) = rw (le-ltb i no_item (omega arith), eq-eqb i no_item (omega arith))

none-is : None ≡ some_unless no_item no_item
unfolding some_unless if'◌then◌else◌
none-is = refl

struct-small : (s : List ℕ) → Accepted s → (n : ℕ) → struct_of (types_of s) n ≤ no_item
struct-small s acc n = go (struct_of (types_of s) n) refl (eq? (struct_of (types_of s) n) no_item)
  where
    go : (i : ℕ) → struct_of (types_of s) n ≡ i → Eq? i no_item → i ≤ no_item
    go i e (same _ q) = omega arith
    go i e (other _ q) = omega (arith, (of-last s n i e q).struct.below, few-items s acc)

pub lead-own : (s : List ℕ) → Accepted s → (r : ℕ) → lead_of s (types_of s) r ≡ some_unless no_item (plain_lead s (types_of s) r)
unfolding lead_of plain_lead if'◌then◌else◌
lead-own s acc r = go (is s Ident r)
  where
    go : (b : Bool) → (if' b then lead_entry (struct_of (types_of s) (row_name s r)) else None)
        ≡ some_unless no_item (if' b then struct_of (types_of s) (row_name s r) else no_item)
    go true = entry-is (struct_of (types_of s) (row_name s r)) (struct-small s acc (row_name s r))
    go false = none-is
