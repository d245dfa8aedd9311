-- Diagnostics, and lists of them: docs/RULES.md, "Diagnostics".
-- Assumes nothing: these are definitions.
use Rattle.std.specs.Prelude.{ℕ, ◌<◌, List, [], ◌∷◌, Bool, true, false}
use Rattle.rules.specs.declared.Place.{Place}
use Rattle.rules.specs.declared.Place.TheVariants.{R, G, I, F, A, O, D, L}
use Rattle.rules.specs.declared.Diagnostic.{Diagnostic}

-- one diagnostic, with and without a detail
abbrev pub tell : (message : ℕ) → Place → (detail : ℕ) → List Diagnostic
tell m p d = record { message = m; place = p; detail = d } ∷ []

abbrev pub say : (message : ℕ) → Place → List Diagnostic
say m p = tell m p 0

-- only where a test holds
unfoldable pub when : Bool → List Diagnostic → List Diagnostic
when true ds = ds
when false ds = []

abbrev pub bit : Bool → ℕ
bit true = 1
bit false = 0

-- ## A place in the letters and numbers of docs/SHEET.md

-- the letter, as a byte
abbrev pub letter_of : Place → ℕ
letter_of (R r) = 82
letter_of (G r j) = 71
letter_of (I i) = 73
letter_of (F i j) = 70
letter_of (A i j) = 65
letter_of (O i) = 79
letter_of (D i j) = 68
letter_of (L i j) = 76

-- its numbers: a row or an item, and where there is one the number of an argument, field, derive or lifetime, from 0
abbrev pub numbers_of : Place → List ℕ
numbers_of (R r) = r ∷ []
numbers_of (G r j) = r ∷ j ∷ []
numbers_of (I i) = i ∷ []
numbers_of (F i j) = i ∷ j ∷ []
numbers_of (A i j) = i ∷ j ∷ []
numbers_of (O i) = i ∷ []
numbers_of (D i j) = i ∷ j ∷ []
numbers_of (L i j) = i ∷ j ∷ []

-- ## The numbers of a diagnostic fit the fields of its record

abbrev pub SmallPlace : Place → Type 0
SmallPlace (R r) = r < 65536
SmallPlace (G r j) = (r < 65536) × (j < 256)
SmallPlace (I i) = i < 256
SmallPlace (F i j) = (i < 256) × (j < 256)
SmallPlace (A i j) = (i < 256) × (j < 256)
SmallPlace (O i) = i < 256
SmallPlace (D i j) = (i < 256) × (j < 256)
SmallPlace (L i j) = (i < 256) × (j < 256)

pub record Small (d : Diagnostic) : Type 0 where
  pub message : d.message < 256
  pub place : SmallPlace d.place
  pub detail : d.detail < 65536
