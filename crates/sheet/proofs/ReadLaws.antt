-- What the sheet is, by the tests on the way: one law for each `return` of `read`, and the question for the scratch.
-- Assumes nothing.
use Prim.Native.Nat.{ℕ, ◌+◌, ◌*◌, ◌≤◌, ◌<◌}
use mathlib.Core.Path.{◌≡◌, refl, sym, ◌∙◌}
use mathlib.Core.List.{List}
use lib.ListN.{length}
use lib.Dec.{eqb}
use borrow.Author.Tests.{le-leb, lt-leb, eq-eqb, ne_eqb}
use Rattle.rules.specs.Numbers.{scratch_size}
use Rattle.rules.specs.declared.Refusal.{Refusal}
use Rattle.rules.specs.declared.Fault.TheVariants.{ShortScratch, LongSheet, ShortSheet, TooMany, Misplaced}
use Rattle.std.specs.Prelude.{Ok, Err}
use Rattle.rules.specs.Format.{Step, refusal, check, after, pair_at, row_at, item_at, each, read}
use Rattle.rules.specs.Answer.{read_with}
use Rattle.sheet.proofs.StepLaws.{stop, go}

module _ (s : List ℕ) where
  pub read-2 : 32768 < length s → refusal LongSheet 0 ≡ read s
  unfolding read
  read-2 h = simp (lt-leb _ _ h)

  module _ (h2 : length s ≤ 32768) where
    pub read-3 : length s < 4 → refusal ShortSheet 0 ≡ read s
    unfolding read
    read-3 h = simp (le-leb _ _ h2, lt-leb _ _ h)

    module _ (h3 : 4 ≤ length s) {t : ℕ} (et : t ≡ pair_at s 0) where
      pub read-4 : 1024 < t → refusal TooMany 0 ≡ read s
      unfolding read
      read-4 h = simp (le-leb _ _ h2, le-leb _ _ h3, ← et, lt-leb _ _ h)

      module _ (h4 : t ≤ 1024) {a : ℕ} (ea : a ≡ pair_at s 2) where
        pub read-4' : 255 < a → refusal TooMany 2 ≡ read s
        unfolding read
        read-4' h = simp (le-leb _ _ h2, le-leb _ _ h3, ← et, ← ea, le-leb _ _ h4, lt-leb _ _ h)

        module _ (h5 : a ≤ 255) where
          pub read-5 : length s < 4 + 2 * (t + a) → refusal Misplaced 0 ≡ read s
          unfolding read
          read-5 h = simp (le-leb _ _ h2, le-leb _ _ h3, ← et, ← ea, le-leb _ _ h4, le-leb _ _ h5, lt-leb _ _ h)

          module _ (h6 : 4 + 2 * (t + a) ≤ length s) {x : Step} (ex : x ≡ each (row_at s) t 0 (4 + 2 * (t + a))) where
            read-on : read s ≡ after (after x (each (item_at s t) a 0)) (λ at. check (eqb at (length s)) Misplaced at at)
            unfolding read
            read-on = simp (le-leb _ _ h2, le-leb _ _ h3, ← et, ← ea, le-leb _ _ h4, le-leb _ _ h5, le-leb _ _ h6, ex)

            pub read-rows : {r : Refusal} → x ≡ Err r → x ≡ read s
            read-rows q = q ∙ sym (rw q at read-on)

            module _ {p : ℕ} (qx : x ≡ Ok p) {y : Step} (ey : y ≡ each (item_at s t) a 0 p) where
              items-on : read s ≡ after y (λ at. check (eqb at (length s)) Misplaced at at)
              items-on = rw ey (rw qx at read-on)

              pub read-items : {r : Refusal} → y ≡ Err r → y ≡ read s
              read-items q = stop _ refl q ∙ sym items-on

              pub read-fine : {q : ℕ} → y ≡ Ok q → q ≡ length s → Ok q ≡ read s
              read-fine {q} z l = go (λ at. check (eqb at (length s)) Misplaced at at) refl z (rw (eq-eqb q (length s) l)) ∙ sym items-on

              pub read-over : {q : ℕ} → y ≡ Ok q → (q ≡ length s → ⊥) → refusal Misplaced q ≡ read s
              read-over {q} z l = go (λ at. check (eqb at (length s)) Misplaced at at) refl z (rw (ne_eqb q (length s) l)) ∙ sym items-on

module _ (n : ℕ) (s : List ℕ) where
  pub scratch-short : n < scratch_size → refusal ShortScratch 0 ≡ read_with n s
  unfolding read_with
  scratch-short h = simp (lt-leb _ _ h)

  pub scratch-fine : {x : Step} → scratch_size ≤ n → x ≡ read s → x ≡ read_with n s
  unfolding read_with
  scratch-fine h e = simp (le-leb _ _ h) e

pub ruleset scratching = (scratch-short, scratch-fine)
