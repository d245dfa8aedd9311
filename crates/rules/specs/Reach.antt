-- Which rows an item reaches, step by step along what rows show.
-- Assumes nothing: these are definitions.
use Rattle.std.specs.Prelude.{ℕ, ◌<◌, List}
use Rattle.rules.specs.Count.{count}
use Rattle.rules.specs.View.{shown}
use Rattle.rules.specs.Collect.{shown_by}

-- x stands in the list
abbrev pub In : ℕ → List ℕ → Type 0
In x l = 0 < count x l

module _ (s : List ℕ) where
  -- from a row to itself, or on by a row that it shows
  pub data Reaches : ℕ → ℕ → Type 0 where
    here : {r : ℕ} → Reaches r r
    on : {r q x : ℕ} → In q (shown s r) → Reaches q x → Reaches r x

  -- one of the first k items shows a row that reaches x
  pub record Reached (k x : ℕ) : Type 0 where
    pub item : ℕ
    pub below : item < k
    pub row : ℕ
    pub shows : In row (shown_by s item)
    pub reaches : Reaches row x
