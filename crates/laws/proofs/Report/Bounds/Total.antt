-- The full report of an accepted sheet has fewer records than the sheet has bytes: so fewer than 32,768.
-- Assumes nothing.
use Prim.Native.Nat.{ℕ, zero, suc, ◌+◌, ◌*◌, ◌≤◌, ◌<◌}
use mathlib.Core.Path.{◌≡◌, ap}
use mathlib.Core.List.{List}
use native.Mathlib.Omega.{arith}
use lib.ListN.{length, get_or, length-append}
use Rattle.rules.specs.Numbers.{Struct, report_size}
use Rattle.rules.specs.declared.Place.TheVariants.{I}
use Rattle.rules.specs.Base.{over}
use Rattle.rules.specs.Count.{count}
use Rattle.rules.specs.Diagnostics.{say, when, bit}
use Rattle.rules.specs.Format.{Accepted}
use Rattle.rules.specs.View.{rows, items, item_is, field_count}
use Rattle.rules.specs.Collect.{duplicate, duplicates}
use Rattle.rules.specs.Types.{Types, types_of}
use Rattle.rules.specs.Order.{walk_of}
use Rattle.rules.specs.Check.{check_type, check_api}
use Rattle.rules.specs.Report.{report, report_of}
use Rattle.laws.proofs.Base.Sums.{sum_to, sum-add, sum-le, weight-sum}
use Rattle.laws.proofs.Sheet.Accepted.Sheet.{sheet-of, bodies_of}
use Rattle.laws.proofs.Sheet.Collect.{all_once, collected-below}
use Rattle.laws.proofs.Report.Bounds.Lengths.{over-sum, entries-sum}
use Rattle.laws.proofs.Report.Bounds.Rows.{row_room}
use Rattle.laws.proofs.Report.Bounds.Items.{records_of, item_room}
use Rattle.laws.proofs.Report.Bounds.Walk.{cyclic-few, named-fields}

-- what each body has room for, all bodies have
climbs : (start h : ℕ → ℕ) (n : ℕ) → ((b : ℕ) → b < n → h b + start b ≤ start (suc b) + 2) → sum_to n h + start 0 ≤ start n + 2 * n
unfolding sum_to
climbs start h zero f = omega arith
climbs start h (suc n) f = omega (arith, f n (omega arith), climbs start h n (λ b l. f b (omega arith)))

module _ (s : List ℕ) (acc : Accepted s) where
  abbrev t : Types
  t = types_of s

  start : ℕ → ℕ
  start = (bodies_of s acc).start

  -- each collected row stands once
  rows_few : length (over (length t.all) (λ k. check_type s t (get_or t.all k 0))) ≤ sum_to (rows s) (λ r. length (check_type s t r))
  unfolding types_of
  rows_few =
      let h : ℕ → ℕ = λ r. length (check_type s t r) in
      let a = over-sum (λ k. check_type s t (get_or t.all k 0)) (length t.all) in
      let b = entries-sum h t.all in
      let c = weight-sum (rows s) h t.all (collected-below s acc (items s) (omega arith)) in
      let d = sum-le (rows s) (λ r. count r t.all * h r) h (λ r _. once (count r t.all) (h r) (all_once s acc r)) in
      omega arith
    where
      once : (c h : ℕ) → c ≤ 1 → c * h ≤ h
      once zero h l = omega arith
      once (suc zero) h l = omega arith
      once (suc (suc c)) h l = absurd (omega arith)

  items-few : length (duplicates s) + length (walk_of s t).errors + length (over (items s) (check_api s t)) ≤ sum_to (items s) (records_of s t)
  unfolding duplicates records_of
  items-few =
      let d : ℕ → ℕ = λ i. length (when (duplicate s i) (say 1 (I i))) in
      let f : ℕ → ℕ = λ i. bit (item_is s Struct i) * field_count s i in
      let c : ℕ → ℕ = λ i. length (check_api s t i) in
      omega (
        arith,
        over-sum (λ i. when (duplicate s i) (say 1 (I i))) (items s),
        over-sum (check_api s t) (items s),
        cyclic-few s acc,
        named-fields s (items s),
        sum-add (items s) (λ i. d i + f i) c,
        sum-add (items s) d f,
      )

  pub total-fits : length (report s) + 4 ≤ length s
  unfolding report report_of start
  total-fits =
      let b = bodies_of s acc in
      let x = climbs start (λ r. length (check_type s t r)) (rows s) (λ r l. row_room s acc t r l) in
      let y = climbs (λ i. start (rows s + i)) (records_of s t) (items s) (λ i l. step i (item_room s acc t i l)) in
      let z : start (rows s + 0) ≡ start (rows s) = ap start (let e : rows s + 0 ≡ rows s = omega arith in e) in
      simp length-append (omega (arith, rows_few, items-few, b.first, b.last))
    where
      step : (i : ℕ) → records_of s t i + start (rows s + i) ≤ start (suc (rows s + i)) + 2 → records_of s t i + start (rows s + i) ≤ start (rows s + suc i) + 2
      step i h = let e : rows s + suc i ≡ suc (rows s + i) = omega arith in rw e h

  pub total-few : length (report s) < report_size
  total-few = omega (arith, total-fits, (sheet-of s acc).short)
