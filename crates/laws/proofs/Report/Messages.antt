-- What each diagnostic of the full report is, by its parts: message 1 at an item (here), message 2 at a field of a struct item (Walk), of a row one of its
-- kind's messages (Rows), of an item 27 to 58 (Items). So the messages are 1 to 58.
-- Assumes nothing.
pub mod Rows
pub mod Items
pub mod Walk
use Prim.Native.Nat.{ℕ, ◌≤◌, ◌<◌}
use mathlib.Core.Path.{◌≡◌, refl}
use mathlib.Core.List.{List}
use native.Mathlib.Omega.{arith}
use lib.ListN.{get_or}
use Rattle.rules.specs.declared.Place.{Place}
use Rattle.rules.specs.declared.Place.TheVariants.{R, G, I, F, A, O, D, L}
use Rattle.rules.specs.declared.Diagnostic.{Diagnostic}
use Rattle.rules.specs.Format.{Accepted}
use Rattle.rules.specs.View.{items}
use Rattle.rules.specs.Collect.{duplicates}
use Rattle.rules.specs.Types.{types_of}
use Rattle.rules.specs.Order.{graph_of, walk_of}
use Rattle.rules.specs.Check.{check_type, check_api}
use Rattle.rules.specs.Report.{report_of, report}
use Rattle.laws.proofs.Base.Forms.{All, none, more, ◌&◌, loop, said, all_map}
use Rattle.laws.proofs.Rule3.PlainFields.{good}
use Rows.{between_is, row_told, row-range}
use Items.{OfItem, item-told}
use Walk.{OfField, walk-told}

module _ (s : List ℕ) where
  abbrev pub ItemOnly : Place → Type 0
  ItemOnly (R r) = ⊥
  ItemOnly (G r j) = ⊥
  ItemOnly (I i) = i < items s
  ItemOnly (F i j) = ⊥
  ItemOnly (A i j) = ⊥
  ItemOnly (O i) = ⊥
  ItemOnly (D i j) = ⊥
  ItemOnly (L i j) = ⊥

  pub record OfDuplicate (d : Diagnostic) : Type 0 where
    pub message : d.message ≡ 1
    pub place : ItemOnly d.place
    pub detail : d.detail ≡ 0

  pub duplicates-told : All OfDuplicate (duplicates s)
  unfolding duplicates
  duplicates-told = loop _ _ (λ i l. said _ (more (record { message = refl; place = l; detail = refl }) none))

-- ## The messages are 1 to 58

pub record Known (d : Diagnostic) : Type 0 where
  pub low : 1 ≤ d.message
  pub high : d.message ≤ 58

pub report-known : (s : List ℕ) → Accepted s → All Known (report s)
unfolding report report_of walk_of
report-known s acc =
    let t = types_of s in
    all_map (OfDuplicate s) Known (λ d h. let e = h.message in record { low = omega arith; high = omega arith }) (duplicates-told s)
    & all_map (OfField (graph_of s t)) Known (λ d h. let e = h.message in record { low = omega arith; high = omega arith })
    (walk-told (graph_of s t) 255 (good s acc))
    & loop _ _ (λ k _. row (get_or t.all k 0))
    & loop _ _ (λ i _. item i)
  where
    row : (r : ℕ) → All Known (check_type s (types_of s) r)
    row r = all_map _ Known (λ d h. let b = row-range s r h in record { low = omega arith; high = omega arith }) (row_told s (types_of s) r)

    item : (i : ℕ) → All Known (check_api s (types_of s) i)
    item i =
        all_map (OfItem s (types_of s) i) Known (λ d h. let b = between_is 27 58 d.message h.message in record { low = omega arith; high = omega arith })
        (item-told s (types_of s) i)
