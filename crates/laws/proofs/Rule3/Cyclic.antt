-- Message 2 comes from the walk and from nothing else, so that the full report has it exactly where some chain leads back to its start.
-- Assumes nothing.
use Prim.Native.Nat.{ℕ, ◌≤◌}
use mathlib.Core.Path.{◌≡◌, refl}
use mathlib.Core.Logic.{◌⊎◌, inl, inr, ◌↔◌}
use mathlib.Core.List.{List, [], ◌∷◌, ◌++◌}
use native.Mathlib.Omega.{arith}
use lib.ListN.{length, get_or}
use Rattle.rules.specs.declared.Diagnostic.{Diagnostic}
use Rattle.rules.specs.Base.{over}
use Rattle.rules.specs.View.{items}
use Rattle.rules.specs.Collect.{duplicates}
use Rattle.rules.specs.Types.{Types, types_of}
use Rattle.rules.specs.Graph.{Graph}
use Rattle.laws.proofs.Graph.Chains.{Good, Cycle}
use Rattle.rules.specs.Walk.{sort_out}
use Rattle.rules.specs.Order.{graph_of, walk_of}
use Rattle.rules.specs.Check.{check_type, check_api}
use Rattle.rules.specs.Report.{report_of, report}
use Rattle.rules.specs.Numbers.{most_items}
use Rattle.rules.specs.Format.{Accepted}
use Rattle.rules.specs.Rule3.{Some, first, later, Holds, Cyclic}
use Rattle.laws.proofs.Graph.WalkOrder.{no_code, some-code}
use Rattle.laws.proofs.Rule3.PlainFields.{plain, good}
use Rattle.laws.proofs.Rule3.Order.{cycle-is}
use Rattle.laws.proofs.Base.Forms.{All, none, more, loop, all-some, all_map}
use Rattle.laws.proofs.Report.Messages.{duplicates-told}
use Rattle.laws.proofs.Report.Messages.Rows.{between_is, row_told, row-range}
use Rattle.laws.proofs.Report.Messages.Items.{item-told}
use Rattle.laws.proofs.Report.Messages.Walk.{OfField, walk-told}

abbrev Two : Diagnostic → Type 0
Two d = d.message ≡ 2

-- ## Parts of a list

-- what a list with an entry that is Two says, by the list's form
abbrev Has : List Diagnostic → Type 0
Has [] = ⊥
Has (d ∷ ds) = Two d ⊎ Some Two ds

has : {l : List Diagnostic} → Some Two l → Has l
has (first p) = inl p
has (later s) = inr s

some-split : (a : List Diagnostic) {b : List Diagnostic} → Some Two (a ++ b) → Some Two a ⊎ Some Two b
some-split [] s = inr s
some-split (x ∷ a) (first p) = inl (first p)
some-split (x ∷ a) (later p) = go (some-split a p)
  where
    go : {b : List Diagnostic} → Some Two a ⊎ Some Two b → Some Two (x ∷ a) ⊎ Some Two b
    go (inl q) = inl (later q)
    go (inr q) = inr q

some_right : (a : List Diagnostic) {b : List Diagnostic} → Some Two b → Some Two (a ++ b)
some_right [] s = s
some_right (x ∷ a) s = later (some_right a s)

some_left : {a : List Diagnostic} (b : List Diagnostic) → Some Two a → Some Two (a ++ b)
some_left b (first p) = first p
some_left b (later p) = later (some_left b p)

-- of four parts, only the second has it
middle : (a b c d : List Diagnostic) → (Some Two a → ⊥) → (Some Two c → ⊥) → (Some Two d → ⊥) → Some Two (a ++ b ++ c ++ d) → Some Two b
middle a b c d fa fc fd h = last (some-split (a ++ b ++ c) h)
  where
    front : Some Two a ⊎ Some Two b → Some Two b
    front (inl q) = absurd (fa q)
    front (inr q) = q

    next : Some Two (a ++ b) ⊎ Some Two c → Some Two b
    next (inl q) = front (some-split a q)
    next (inr q) = absurd (fc q)

    last : Some Two (a ++ b ++ c) ⊎ Some Two d → Some Two b
    last (inl q) = next (some-split (a ++ b) q)
    last (inr q) = absurd (fd q)

outer : (a b c d : List Diagnostic) → Some Two b → Some Two (a ++ b ++ c ++ d)
outer a b c d h = some_left d (some_left c (some_right a h))

-- the walk has message 2 exactly where some chain of the graph leads back to its start
module _ (G : Graph) (n : ℕ) (whole : Good G n) where
  found : (l : List Diagnostic) → (sort_out G n).errors ≡ l → Some Two l → Cycle G
  found [] e h = absurd (has h)
  found (d ∷ ds) e h = some-code G n whole d ds e

  put : Cycle G → (l : List Diagnostic) → (sort_out G n).errors ≡ l → All (OfField G) l → Some Two l
  put c l e none = absurd ((no_code G n whole).0 e c)
  put c l e (more m ms) = first m.message

  pub walk-cyclic : Some Two (sort_out G n).errors ↔ Cycle G
  walk-cyclic = (found (sort_out G n).errors refl, λ c. put c (sort_out G n).errors refl (walk-told G n whole))

module _ (s : List ℕ) (acc : Accepted s) where
  pub walk-cyclic-is : Cyclic s (walk_of s (types_of s)).errors
  unfolding walk_of
  walk-cyclic-is =
      let w = walk-cyclic (graph_of s (types_of s)) most_items (good s acc) in
      let c = cycle-is s (graph_of s (types_of s)) (Holds s) (plain s acc) in
      (λ h. c.0 (w.0 h), λ h. w.1 (c.1 h))

  -- the full report has message 2 exactly where some chain leads back to its start
  pub cyclic-is : Cyclic s (report s)
  unfolding report report_of
  cyclic-is = (
    λ h. walk-cyclic-is.0 (middle (duplicates s) (walk_of s t).errors rows itemised no-duplicate no_row no_item h),
    λ c. outer (duplicates s) (walk_of s t).errors rows itemised (walk-cyclic-is.1 c),
  )
    where
      t : Types
      t = types_of s

      rows : List Diagnostic
      rows = over (length t.all) (λ k. check_type s t (get_or t.all k 0))

      itemised : List Diagnostic
      itemised = over (items s) (check_api s t)

      no-duplicate : Some Two (duplicates s) → ⊥
      no-duplicate h = all-some (λ d p q. let e = p.message in omega arith) (duplicates-told s) h

      no_row : Some Two rows → ⊥
      no_row h = all-some (λ d p q. omega arith) (loop {P = λ d. 3 ≤ d.message} _ _ (λ k _. row (get_or t.all k 0))) h
        where
          row : (r : ℕ) → All (λ d. 3 ≤ d.message) (check_type s t r)
          row r = all_map _ (λ d. 3 ≤ d.message) (λ d p. (row-range s r p).0) (row_told s t r)

      no_item : Some Two itemised → ⊥
      no_item h = all-some (λ d p q. omega arith) (loop {P = λ d. 27 ≤ d.message} _ _ (λ i _. item i)) h
        where
          item : (i : ℕ) → All (λ d. 27 ≤ d.message) (check_api s t i)
          item i = all_map _ (λ d. 27 ≤ d.message) (λ d p. (between_is 27 58 d.message p.message).0) (item-told s t i)
