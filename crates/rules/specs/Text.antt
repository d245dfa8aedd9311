-- What the program `report` prints: docs/RULES.md, "The program `report`". Text is bytes, as ASCII has them.
-- Assumes nothing: these are definitions.
use Rattle.std.specs.Prelude.{ℕ, zero, suc, ◌+◌, ◌/◌, ◌%◌, true, false, get_or, take, replicate, ltb}
use Prim.Native.Char.{code}
use Prim.Native.String.{String, [] as nothing, ◌∷◌ as ◌then◌}
use mathlib.Core.List.{List, [], ◌∷◌, ◌++◌, map, flat_map}
use Rattle.rules.specs.Numbers.{name_count, improper_set, scratch_size}
use Rattle.std.specs.Prelude.{Ok, Err}
use Rattle.rules.specs.declared.Answer.{Answer}
use Rattle.rules.specs.declared.Place.{Place}
use Rattle.rules.specs.declared.Diagnostic.{Diagnostic}
use Rattle.rules.specs.Base.{if'◌then◌else◌, over}
use Rattle.rules.specs.Names.{Words, empty, ◌∋◌}
use Rattle.rules.specs.Diagnostics.{letter_of, numbers_of}
use Rattle.rules.specs.Report.{report}
use Rattle.rules.specs.Answer.{fault_number, name_set, call}

-- the bytes of a text
abbrev pub ascii : String → List ℕ
ascii nothing = []
ascii (c then cs) = code c ∷ ascii cs

-- ## Numbers

abbrev pub digit : ℕ → ℕ
digit d = code "0" + d

-- decimal digits: those before the last, if there are any, and the last; the fuel is above the number
unfoldable pub digits_by : (fuel n : ℕ) → List ℕ
digits_by zero n = []
digits_by (suc f) n = elim (ltb n 10) [ true ↦ [] | false ↦ digits_by f (n / 10) ] ++ (digit (n % 10) ∷ [])

unfoldable pub decimal : ℕ → List ℕ
decimal n = digits_by (suc n) n

-- a number after a blank
unfoldable pub spaced : ℕ → List ℕ
spaced n = ascii " " ++ decimal n

-- ## Lines

-- a word and numbers: each number brings its own blank, so a word without numbers has none after it
unfoldable pub line : String → (numbers : List ℕ) → List ℕ
line word numbers = ascii word ++ flat_map spaced numbers ++ ascii "\n"

-- the tiers of items, in the sequence of an order
unfoldable pub tiers_along : (tiers order : List ℕ) → List ℕ
tiers_along tiers order = map (λ (i : ℕ). get_or tiers i 0) order

-- the names below n that a set has, rising
unfoldable pub members_to : (n : ℕ) → Words → List ℕ
members_to n w = over n (λ k. if' w ∋ k then k ∷ [] else [])

-- a place: its letter and its numbers
unfoldable pub place_text : Place → List ℕ
place_text p = ascii " " ++ (letter_of p ∷ []) ++ flat_map spaced (numbers_of p)

-- message, place, detail
unfoldable pub record_line : Diagnostic → List ℕ
record_line d = decimal d.message ++ place_text d.place ++ spaced d.detail ++ ascii "\n"

-- ## The text

-- so many records are printed at most
abbrev pub printed : ℕ
printed = 512

unfoldable pub refused_text : (number position : ℕ) → List ℕ
refused_text number position = ascii "refused" ++ spaced number ++ ascii " at" ++ spaced position ++ ascii "\n"

-- total; items in order; their tiers; improper names; records
unfoldable pub accepted_text : Answer → List Diagnostic → List ℕ
accepted_text a records =
    line "accepted" (a.total ∷ [])
    ++ line "order" (take a.structs a.order)
    ++ line "tiers" (tiers_along a.tiers (take a.structs a.order))
    ++ line "improper" (members_to name_count (get_or a.sets improper_set (name_set empty)).words)
    ++ flat_map record_line (take printed records)

-- of an answer, and the records of the report
unfoldable pub text_of : Answer → List Diagnostic → List ℕ
text_of a records =
    elim a.verdict [ Ok _ ↦ accepted_text a records | Err r ↦ refused_text (fault_number r.fault) r.position ]

-- of a list of bytes: what the call answers on a scratch that is long enough, and the full report. Which list the call gets does not show in its answer
unfoldable pub sheet_text : List ℕ → List ℕ
sheet_text s = text_of (call s (replicate scratch_size 0) []).answer (report s)
