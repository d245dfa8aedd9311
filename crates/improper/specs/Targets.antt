-- Where the fields of each name's last struct lead, as sets of names, and what a pass after the first may leave out by them.
-- Assumes nothing: these are definitions.
use Rattle.std.specs.Prelude.{ℕ, ◌<◌, ◌≡◌, true, false, List, [], length, get_or, Option, Some, None, ⊤}
use denote.Ref.{Bor}
use Rattle.rules.specs.declared.NameSet.{NameSet}
use Rattle.rules.specs.Names.{Words, ◌∋◌}
use Rattle.rules.specs.Types.{types_of}
use Rattle.rules.specs.Improper.{bad, to, looks_fields, looks_look}
use Rattle.row_tables.specs.declared.looks.Look.{Look}
use Rattle.improper.specs.Post.{Searchable}

-- ## The table

-- each name that one of the first k fields of name n's last struct leads to is in the set
abbrev pub LeadsTo : (s : List ℕ) (n k : ℕ) (w : Words) → Type 0
LeadsTo s n k w = (x j : ℕ) → x < k → looks_look s (types_of s) n x ≡ to j → w ∋ j ≡ true

-- of all its fields
pub record Leads (s : List ℕ) (n : ℕ) (w : Words) : Type 0 where
  pub has : LeadsTo s n (looks_fields s (types_of s) n) w

-- the set of name n in a table, which has one for each name
abbrev pub set_at : List NameSet → (n : ℕ) → Words
set_at t n = (get_or t n (record { words = [] })).words

-- the table has where each name below n leads that is not found.
pub record LeadsBelow (s : List ℕ) (found : Words) (n : ℕ) (t : List NameSet) : Type 0 where
  pub long : length t ≡ 256
  pub rows : (x : ℕ) → x < n → found ∋ x ≡ false → Leads s x (set_at t x)

-- ## What a pass may leave out

-- the sets share no name
abbrev pub Apart : Words → Words → Type 0
Apart a b = (j : ℕ) → a ∋ j ≡ true → b ∋ j ≡ false

-- the pass is not the first, which has no table, and name n leads to no name of the set
abbrev pub Skips : (t : Option (Bor (List NameSet))) (n : ℕ) (w : Words) → Type 0
Skips None n w = ⊥
Skips (Some t) n w = Apart (set_at t.now n) w

-- no field of name n's last struct is improper by itself
abbrev pub NoneBad : (s : List ℕ) (n : ℕ) → Type 0
NoneBad s n = (k : ℕ) → k < looks_fields s (types_of s) n → looks_look s (types_of s) n k ≡ bad → ⊥

-- what the first pass leaves: the table has where the names lead that are not found, and no field of theirs is improper by itself
pub record Later (s : List ℕ) (w : Words) (t : List NameSet) : Type 0 where
  pub leads : LeadsBelow s w 256 t
  pub none_bad : (n : ℕ) → n < 256 → w ∋ n ≡ false → NoneBad s n

-- after the first pass
abbrev pub LaterBy : (s : List ℕ) (w : Words) (t : Option (Bor (List NameSet))) → Type 0
LaterBy s w None = ⊤
LaterBy s w (Some t) = Later s w t.now

-- what a pass may assume
pub record Ready (s names : List ℕ) (looks : List Look) (t : Option (Bor (List NameSet))) (before : Words) : Type 0 where
  pub given : Searchable s names looks
  pub size : length before ≡ 4
  pub later : LaterBy s before t
