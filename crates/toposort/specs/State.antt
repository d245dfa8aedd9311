-- What a part of the walk does to the walk's state.
-- Assumes nothing: these are definitions.
use Rattle.std.specs.Prelude.{ℕ, ◌+◌, ◌*◌, ◌<◌, ◌≤◌, ◌≡◌, List, Option, length}
use Rattle.std.proofs.lemmas.List.Edits.{sets}
use Rattle.rules.specs.Graph.{Graph}
use Rattle.rules.specs.Walk.{Out, visit_out}
use Rattle.laws.specs.Left.{fresh}
use Rattle.errors.specs.Sink.{Reported}
use Rattle.errors.specs.declared.Errors.{Errors}
use Rattle.toposort.specs.declared.Walk.{Walk}
use Rattle.toposort.specs.Leads.{table_graph}

-- r is w after a, o' the order after it, and the errors of a are reported
pub record Did (b : Errors) (o : List ℕ) (w : Walk) (a : Out) (r : Walk) (b' : Errors) (o' : List ℕ) : Type 0 where
  pub marks : r.marks ≡ a.marks
  pub order : o' ≡ sets o w.len a.sorted
  pub len : r.len ≡ w.len + length a.sorted
  pub calls : r.calls ≡ w.calls + a.calls
  pub errors : Reported b a.errors b'

-- and `ok` says whether a succeeded
pub record Done (b : Errors) (o : List ℕ) (w : Walk) (a : Out) (r : Walk) (b' : Errors) (o' : List ℕ) : Type 0 where
  pub did : Did b o w a r b' o'
  pub ok : r.ok ≡ a.ok

-- a visit of item i: the same at every depth that is enough
abbrev pub Visits : Graph → (b : Errors) (o : List ℕ) → Walk → (i : ℕ) → Walk → (b' : Errors) (o' : List ℕ) → Type 0
Visits G b o w i r b' o' = (f : ℕ) → fresh w.marks < f → Done b o w (visit_out f G w.marks i) r b' o'

-- of the graph of a table
abbrev pub VisitsBy : (s : List ℕ) (d : List (Option ℕ)) (b : Errors) (o : List ℕ) → Walk → (i : ℕ) → Walk → (b' : Errors) (o' : List ℕ) → Type 0
VisitsBy s d = Visits (table_graph s d)

-- what is left: a place in the order for each item that is not marked, and the number of a visit for each of its fields and for l more
pub record Room (w : Walk) (l : ℕ) : Type 0 where
  pub len : w.len + fresh w.marks ≤ 255
  pub calls : w.calls + 64 * fresh w.marks + l ≤ 65535
