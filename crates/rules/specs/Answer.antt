-- What one call answers, and how it leaves the list and the scratch: docs/RULES.md, "The call".
-- Assumes nothing: these are definitions.
use Rattle.std.specs.Prelude.{ℕ, ◌-◌, List, [], ◌∷◌, ◌++◌, map, length, take, drop, replicate, leb}
use Rattle.rules.specs.Numbers.{name_count, set_count, most_items, scratch_size}
use Rattle.std.specs.Prelude.{Result, Ok, Err, None}
use Rattle.rules.specs.declared.Refusal.{Refusal}
use Rattle.rules.specs.declared.Fault.{Fault}
use Rattle.rules.specs.declared.Fault.TheVariants.{ShortScratch, LongSheet, ShortSheet, TooMany, Misplaced, BadValue, BadRow, EqualRow}
use Rattle.rules.specs.declared.NameSet.{NameSet}
use Rattle.rules.specs.declared.Answer.{Answer}
use Rattle.rules.specs.declared.Diagnostic.{Diagnostic}
use Rattle.rules.specs.Format.{Step, check, after, read}
use Rattle.rules.specs.Names.{Words, empty, size}
use Rattle.rules.specs.View.{items}
use Rattle.rules.specs.Collect.{structs_to}
use Rattle.rules.specs.Types.{Types, types_of}
use Rattle.rules.specs.Unpin.{unpin_of}
use Rattle.rules.specs.Walk.{Out}
use Rattle.rules.specs.Order.{graph_of, walk_of}
use Rattle.rules.specs.Tiers.{tiers_of}
use Rattle.rules.specs.Improper.{improper_of}
use Rattle.rules.specs.Report.{report_of}

-- an answer, and the list and the scratch as the call leaves them
pub record Outcome : Type 0 where
  pub answer : Answer
  pub list : List Diagnostic
  pub scratch : List ℕ

-- the number of a fault in docs/SHEET.md
abbrev pub fault_number : Fault → ℕ
fault_number ShortScratch = 1
fault_number LongSheet = 2
fault_number ShortSheet = 3
fault_number TooMany = 4
fault_number Misplaced = 5
fault_number BadValue = 6
fault_number BadRow = 7
fault_number EqualRow = 8

-- the number of a verdict, or of what the reader says: 0 where there is no refusal; and its position
abbrev pub number_of : {A : Type 0} → Result A Refusal → ℕ
number_of (Ok _) = 0
number_of (Err r) = fault_number r.fault

abbrev pub position_of : {A : Type 0} → Result A Refusal → ℕ
position_of (Ok _) = 0
position_of (Err r) = r.position

abbrev pub name_set : Words → NameSet
name_set w = record { words = w }

-- ## Refused

-- empty sets, no reasons, and 0 for all else
unfoldable pub refused : Refusal → Answer
refused r =
    record {
      verdict = Err r;
      sets = replicate set_count (name_set empty);
      sizes = replicate set_count 0;
      reasons = replicate name_count 0;
      unpin = replicate name_count None;
      structs = 0;
      order = replicate most_items 0;
      tiers = replicate most_items 0;
      total = 0;
    }

-- ## Accepted

-- the eight sets, in the order of docs/RULES.md
unfoldable pub sets_of : Types → (improper : Words) → List Words
sets_of t improper = t.structs ∷ t.enums ∷ t.cxx ∷ t.rust ∷ t.aliases ∷ t.untrusted ∷ t.required_trivial ∷ improper ∷ []

-- 255 places: the list, and then zeros
unfoldable pub places : List ℕ → List ℕ
places l = take most_items l ++ replicate (most_items - length l) 0

unfoldable pub accepted : List ℕ → Types → Out → (report : List Diagnostic) → Answer
accepted s t walk report =
    let names = sets_of t (improper_of s t) in
    record {
      verdict = Ok tt;
      sets = map name_set names;
      sizes = map size names;
      reasons = t.reasons;
      unpin = unpin_of s t;
      structs = structs_to s (items s);
      order = places walk.sorted;
      tiers = places (tiers_of (graph_of s t) (items s));
      total = length report;
    }

-- ## The call

-- the scratch is asked first
unfoldable pub read_with : (scratch : ℕ) → List ℕ → Step
read_with n s = after (check (leb scratch_size n) ShortScratch 0 0) (λ _. read s)

-- the first diagnostics that fit; the rest of the list is unchanged
unfoldable pub filled : List Diagnostic → (report : List Diagnostic) → List Diagnostic
filled list report = take (length list) report ++ drop (length report) list

-- the first bytes become 0, as many as the call asks
unfoldable pub cleared : List ℕ → List ℕ
cleared scratch = replicate scratch_size 0 ++ drop scratch_size scratch

unfoldable pub call : (sheet scratch : List ℕ) → List Diagnostic → Outcome
call s scratch list =
    elim (read_with (length scratch) s) [
      | Err r ↦ record { answer = refused r; list = list; scratch = scratch }
      | Ok _ ↦
          let t = types_of s in
          let walk = walk_of s t in
          let report = report_of s t walk in
          record { answer = accepted s t walk report; list = filled list report; scratch = cleared scratch }
    ]
