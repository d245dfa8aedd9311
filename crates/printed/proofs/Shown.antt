-- The text of a page, an answer with the first records, is the text of the sheet: no list shows in the answer, and what a list of 512 records or more keeps of
-- the report is all that is printed.
-- Assumes nothing.
use Prim.Native.Nat.{ℕ, ◌+◌, ◌≤◌}
use mathlib.Core.Path.{◌≡◌, refl, sym, ap, ◌∙◌}
use mathlib.Core.List.{List, []}
use native.Mathlib.Omega.{arith}
use native.Mathlib.Decide.{dec_le}
use lib.ListN.{length, take, drop, replicate}
use lib.Seq.{sets, sets-eq, take_all, take-take, take-append_seam, length-take-le, length-sets}
use Rattle.std.specs.Prelude.{Ok, Err}
use Rattle.rules.specs.Format.{Step}
use Rattle.rules.specs.Numbers.{scratch_size}
use Rattle.rules.specs.declared.Answer.{Answer}
use Rattle.rules.specs.declared.Diagnostic.{Diagnostic}
use Rattle.rules.specs.Report.{report}
use Rattle.rules.specs.Answer.{refused, read_with, call}
use Rattle.rules.specs.Text.{printed, text_of, sheet_text}
use Rattle.bridge_core.specs.Run.{answer_by, records_by, answer_of, records_of}
use Rattle.bridge_core.proofs.RunLaws.{total-is, call-answer, call-list}
use Rattle.laws.proofs.Base.Stores.{sets-cut}
use Rattle.lines.proofs.Whole.{text-shown}

-- ## What a list keeps

module _ {A : Type 0} where
  kept-all : (xs zs : List A) → length xs ≤ length zs → take (length xs) (sets zs 0 xs) ≡ xs
  kept-all xs zs h = ap (λ (l : List A). take (length xs) l) (sets-eq xs zs 0 (omega arith)) ∙ take-append_seam xs (drop (0 + length xs) zs)

  -- as many as it has places
  kept-few : (xs zs : List A) → take (length xs) (sets zs 0 xs) ≡ take (length zs) xs
  kept-few xs zs = go (dec_le (length xs) (length zs))
    where
      go : Dec (length xs ≤ length zs) → take (length xs) (sets zs 0 xs) ≡ take (length zs) xs
      go (yes h) = kept-all xs zs h ∙ sym (take_all (length zs) xs h)
      go (no h) =
          let front : List A = take (length zs) xs in
          let long : length front ≡ length zs = length-take-le (length zs) xs (omega arith) in
          take_all (length xs) (sets zs 0 xs) (omega (arith, length-sets zs 0 xs))
          ∙ sym (sets-cut zs 0 (length zs) xs (omega arith))
          ∙ sym (take_all (length front) (sets zs 0 front) (omega (arith, length-sets zs 0 front)))
          ∙ kept-all front zs (omega arith)

  kept : (xs zs : List A) → printed ≤ length zs → take printed (take (length xs) (sets zs 0 xs)) ≡ take printed xs
  kept xs zs h = ap (λ (l : List A). take printed l) (kept-few xs zs) ∙ take-take printed (length zs) xs h

-- ## The text

pub answer-alone : (s scratch : List ℕ) (l m : List Diagnostic) → (call s scratch l).answer ≡ (call s scratch m).answer
answer-alone s scratch l m = sym (call-answer s scratch l) ∙ call-answer s scratch m

-- a refusal shows no records, and an accepted sheet's are the report
records-shown : (v : Step) (s : List ℕ) → text_of (answer_by v s) (records_by v s) ≡ text_of (answer_by v s) (report s)
unfolding answer_by records_by refused text_of
records-shown (Err r) s = refl
records-shown (Ok e) s = refl

module _ (s scratch : List ℕ) (zs list : List Diagnostic) (a : Answer) where
  page-is : printed ≤ length zs → a ≡ (call s scratch zs).answer → list ≡ (call s scratch zs).list
      → text_of a (take a.total list) ≡ text_of (call s scratch []).answer (report s)
  page-is h e g =
      let k : ℕ = length scratch in
      let ds : List Diagnostic = records_of s k in
      let answer : a ≡ answer_of s k = e ∙ sym (call-answer s scratch zs) in
      let places : list ≡ sets zs 0 ds = g ∙ sym (call-list s scratch zs) in
      ap (λ (x : Answer). text_of x (take x.total list)) answer
      ∙ ap (λ (l : List Diagnostic). text_of (answer_of s k) (take (answer_of s k).total l)) places
      ∙ ap (λ (t : ℕ). text_of (answer_of s k) (take t (sets zs 0 ds))) (total-is s k)
      ∙ text-shown (answer_of s k) (take (length ds) (sets zs 0 ds)) ds (kept ds zs h)
      ∙ records-shown (read_with k s) s
      ∙ ap (λ (x : Answer). text_of x (report s)) (call-answer s scratch [])

pub text-is : (s : List ℕ) (zs list : List Diagnostic) (a : Answer) → printed ≤ length zs → a ≡ (call s (replicate scratch_size 0) zs).answer
    → list ≡ (call s (replicate scratch_size 0) zs).list → text_of a (take a.total list) ≡ sheet_text s
unfolding sheet_text
text-is s zs list a h e g = page-is s (replicate scratch_size 0) zs list a h e g
