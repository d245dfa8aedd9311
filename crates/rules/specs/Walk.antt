-- The walk over the struct items: `sort` and `visit` of toposort.rs. Marks are 0 new, 1 being visited, 2 visited. What a part of the walk does is an
-- `Out`: whether it succeeded, the marks that it leaves, the items that it adds to the order, the diagnostics that it reports and the visits that it makes.
-- Assumes nothing: these are definitions.
use Rattle.std.specs.Prelude.{ℕ, zero, suc, ◌+◌, Bool, true, false, ◌&&◌, List, [], ◌∷◌, ◌++◌, get_or, set, replicate, eqb}
use Rattle.rules.specs.Numbers.{no_item}
use Rattle.rules.specs.declared.Place.TheVariants.{F}
use Rattle.rules.specs.declared.Diagnostic.{Diagnostic}
use Rattle.rules.specs.Diagnostics.{say}
use Rattle.rules.specs.Graph.{Graph}

pub record Out : Type 0 where
  pub ok : Bool
  pub marks : List ℕ
  pub sorted : List ℕ
  pub errors : List Diagnostic
  pub calls : ℕ

-- nothing is done
abbrev pub still : List ℕ → Out
still m = record { ok = true; marks = m; sorted = []; errors = []; calls = 0 }

-- a, and then b
abbrev pub join : Out → Out → Out
join a b = record { ok = a.ok && b.ok; marks = b.marks; sorted = a.sorted ++ b.sorted; errors = a.errors ++ b.errors; calls = a.calls + b.calls }

-- a field whose visit failed is reported
abbrev pub blame : Bool → (i k : ℕ) → List Diagnostic
blame true i k = []
blame false i k = say 2 (F i k)

abbrev pub blamed : (i k : ℕ) → Out → Out
blamed i k a = record { ok = a.ok; marks = a.marks; sorted = a.sorted; errors = a.errors ++ blame a.ok i k; calls = a.calls }

-- a struct that was met before: it succeeds where its visit is over
abbrev pub seen : Bool → List ℕ → Out
seen b m = record { ok = b; marks = m; sorted = []; errors = []; calls = 1 }

-- a struct whose fields are done enters the order
abbrev pub finished : ℕ → Out → Out
finished i a = record { ok = a.ok; marks = set a.marks i 2; sorted = a.sorted ++ i ∷ []; errors = a.errors; calls = 1 + a.calls }

-- field k of item i, by the visit v
unfoldable pub field_out : (List ℕ → ℕ → Out) → Graph → (i k : ℕ) → List ℕ → Out
field_out v G i k m = elim (eqb (G.to i k) no_item) [ true ↦ still m | false ↦ blamed i k (v m (G.to i k)) ]

-- the first k fields of item i
unfoldable pub fields_out : (List ℕ → ℕ → Out) → Graph → (i k : ℕ) → List ℕ → Out
fields_out v G i zero m = still m
fields_out v G i (suc k) m = let a = fields_out v G i k m in join a (field_out v G i k a.marks)

-- a visit of item i, at most f deep
unfoldable pub visit_out : (f : ℕ) → Graph → List ℕ → ℕ → Out
visit_out zero G m i = still m
visit_out (suc f) G m i =
    elim (eqb (get_or m i 0) 0) [
      | true ↦ finished i (fields_out (visit_out f G) G i (G.fields i) (set m i 1))
      | false ↦ seen (eqb (get_or m i 0) 2) m
    ]

-- item i, where it is a struct
unfoldable pub item_out : (f : ℕ) → Graph → ℕ → List ℕ → Out
item_out f G i m = elim (G.struct i) [ true ↦ visit_out f G m i | false ↦ still m ]

-- the first i items
unfoldable pub items_out : (f : ℕ) → Graph → ℕ → List ℕ → Out
items_out f G zero m = still m
items_out f G (suc i) m = let a = items_out f G i m in join a (item_out f G i a.marks)

-- the whole walk, over n items
unfoldable pub sort_out : Graph → (n : ℕ) → Out
sort_out G n = items_out (suc n) G n (replicate n 0)
