-- What a table of sheets says of one sheet, and the outcome that this stands for.
-- Assumes nothing: these are definitions.
use Rattle.std.specs.Prelude.{ℕ, ◌+◌, ◌-◌, ◌/◌, ◌%◌, ◌^◌, length, get_or, set, replicate}
use mathlib.Core.List.{List, [], ◌∷◌, ◌++◌, map, foldl}
use Rattle.rules.specs.Numbers.{name_count, most_items, scratch_size}
use Rattle.rules.specs.declared.Place.TheVariants.{I}
use Rattle.rules.specs.declared.Diagnostic.{Diagnostic}
use Rattle.rules.specs.Names.{Words, empty}
use Rattle.std.specs.Prelude.{Ok, Some, None}
use Rattle.rules.specs.declared.UnpinReason.{UnpinReason}
use Rattle.rules.specs.declared.Answer.{Answer}
use Rattle.rules.specs.Answer.{Outcome, name_set}

-- an accepted sheet, by the names of each set, the names with reasons to be trivial and how many they have, the names with a reason to be Unpin and which that
-- is, the items in order, the tier of each item, and the full report
pub record Expected : Type 0 where
  pub name_sets : List (List ℕ)
  pub reasons : List (ℕ × ℕ)
  pub unpin : List (ℕ × UnpinReason)
  pub order : List ℕ
  pub tiers : List ℕ
  pub report : List Diagnostic

-- a list of numbers, filled up with zeros to n
abbrev pub padded : ℕ → List ℕ → List ℕ
padded n l = l ++ replicate (n - length l) 0

-- different names, as a set
abbrev pub words_of : List ℕ → Words
words_of ns = foldl (λ w n. set w (n / 64) (get_or w (n / 64) 0 + 2 ^ (n % 64))) empty ns

abbrev pub spread : {A : Type 0} → List A → List (ℕ × A) → List A
spread t [] = t
spread t (p ∷ ps) = spread (set t p.0 p.1) ps

unfoldable pub expected_answer : Expected → Answer
expected_answer e =
    record {
      verdict = Ok tt;
      sets = map (λ names. name_set (words_of names)) e.name_sets;
      sizes = map length e.name_sets;
      reasons = spread (replicate name_count 0) e.reasons;
      unpin = spread (replicate name_count None) (map (λ (p : ℕ × UnpinReason). (p.0, Some p.1)) e.unpin);
      structs = length e.order;
      order = padded most_items e.order;
      tiers = padded most_items e.tiers;
      total = length e.report;
    }

-- the list and the scratch that the tables' calls are given
abbrev pub blank : Diagnostic
blank = record { message = 0; place = I 0; detail = 0 }

abbrev pub blanks : ℕ → List Diagnostic
blanks n = replicate n blank

abbrev pub scratch : List ℕ
scratch = replicate (scratch_size + 2) 7

-- an outcome over n blanks
unfoldable pub outcome_of : (n : ℕ) → Expected → Outcome
unfolding expected_answer
outcome_of n e = record { answer = expected_answer e; list = e.report ++ blanks (n - length e.report); scratch = replicate scratch_size 0 ++ 7 ∷ 7 ∷ [] }
