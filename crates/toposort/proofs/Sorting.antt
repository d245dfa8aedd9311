-- The turns of the code's loop over the items, and the answer of `sort`: the walk over the graph of the lent table, which is the walk over the graph of every
-- function that the table holds.
-- Assumes nothing.
use Prim.Native.Nat.{ℕ, ◌+◌, ◌≤◌, ◌<◌}
use mathlib.Core.Path.{◌≡◌, sym, ap, subst, ◌∙◌}
use mathlib.Core.Bool.{true, false}
use mathlib.Core.List.{List}
use native.Mathlib.Numerals.{add-one}
use native.Mathlib.Omega.{arith}
use lib.ListN.{replicate, length-replicate}
use Rattle.rules.specs.Numbers.{most_items}
use Rattle.rules.specs.Types.{types_of}
use Rattle.rules.specs.Graph.{Graph}
use Rattle.rules.specs.Walk.{item_out, items_out, sort_out}
use Rattle.rules.specs.Order.{graph_by, plain_lead, walk_of}
use Rattle.laws.specs.Left.{fresh}
use Rattle.laws.specs.RowTable.{LeadRows}
use Rattle.std.specs.Prelude.{Option, None}
use Rattle.laws.proofs.Base.Counts.{fresh-zeros}
use Rattle.laws.proofs.Base.Lists.{places-sets}
use Rattle.laws.proofs.Graph.SameEdges.{table-walk}
use Rattle.laws.proofs.Rule3.Cyclic.{walk-cyclic-is}
use Rattle.laws.proofs.Rule3.Due.{plain-order}
use Rattle.errors.specs.declared.Errors.{Errors}
use Rattle.toposort.specs.declared.Walk.{Walk}
use Rattle.toposort.specs.declared.Sorted.{Sorted}
use Rattle.toposort.specs.Leads.{Led, table_graph}
use Rattle.toposort.specs.State.{Did, Visits, Room}
use Rattle.toposort.specs.Post.{SortsBy, PlainRule, Sorts}
use Rattle.toposort.proofs.Parts.{did-still, did-join, Spends, Bounded, spends-items, room_after}

-- nothing is marked
abbrev pub begun : Walk
begun = record { marks = replicate 255 0; len = 0; calls = 0; ok = true }

-- the first i items are walked
pub record Sorting (G : Graph) (b : Errors) (i : ℕ) (b' : Errors) (o' : List ℕ) (v : Walk) : Type 0 where
  pub upto : i ≤ 255
  pub did : Did b (replicate 255 0) begun (items_out 256 G i (replicate 255 0)) v b' o'

pub sorting-none : (G : Graph) (b : Errors) → Sorting G b 0 b (replicate 255 0) begun
unfolding items_out
sorting-none G b = record { upto = omega arith; did = did-still b (replicate 255 0) begun }

module _ {G : Graph} (lim : Bounded G) {b : Errors} {i : ℕ} {b' : Errors} {o' : List ℕ} {v : Walk} (g : Sorting G b i b' o' v) (l : i < 255) where
  zeros : List ℕ
  zeros = replicate 255 0

  spent : Spends i zeros (items_out 256 G i zeros)
  unfolding zeros
  spent = spends-items lim 256 i (replicate 255 0) (length-replicate {A = ℕ} 255 0)

  pub sorting-room : Room v 1
  unfolding zeros
  sorting-room = room_after (record { len = omega (arith, fresh-zeros 255); calls = omega (arith, fresh-zeros 255) }) spent g.did

  sorting-fresh : fresh v.marks < 256
  unfolding zeros
  sorting-fresh =
      let m : fresh v.marks ≡ fresh (items_out 256 G i (replicate 255 0)).marks = ap fresh g.did.marks in
      omega (arith, spent.places, fresh-zeros 255)

  on : (r : Walk) (b'' : Errors) (o'' : List ℕ) → Did b' o' v (item_out 256 G i v.marks) r b'' o'' → Sorting G b (i + 1) b'' o'' r
  unfolding items_out
  on r b'' o'' d =
      record {
        upto = omega arith;
        did = rw add-one (did-join g.did (subst (λ (x : List ℕ). Did b' o' v (item_out 256 G i x) r b'' o'') g.did.marks d));
      }

  pub sorting-other : G.struct i ≡ false → Sorting G b (i + 1) b' o' v
  unfolding item_out
  sorting-other e = on v b' o' (rw (e, item_out) (did-still b' o' v))

  pub sorting-struct : (r : Walk) (b'' : Errors) (o'' : List ℕ) → G.struct i ≡ true → Visits G b' o' v i r b'' o'' → Sorting G b (i + 1) b'' o'' r
  unfolding item_out
  sorting-struct r b'' o'' e d = on r b'' o'' (rw (e, item_out) (d 256 sorting-fresh).did)

module _ {s : List ℕ} {d : List (Option ℕ)} (own : Led s d) {b : Errors} {i : ℕ} {b' : Errors} {o' : List ℕ} {v : Walk}
    (g : Sorting (table_graph s d) b i b' o' v) (h : 255 ≤ i) where
  abbrev answer : Sorted
  answer = record { order = o'; len = v.len; calls = v.calls }

  by-table : SortsBy (sort_out (table_graph s d) most_items) b answer b'
  unfolding sort_out
  by-table =
      let e : i ≡ 255 = omega (arith, g.upto) in
      let w = items_out 256 (table_graph s d) 255 (replicate 255 0) in
      let p = subst (λ (x : ℕ). Did b (replicate 255 0) begun (items_out 256 (table_graph s d) x (replicate 255 0)) v b' o') e g.did in
      record { order = p.order ∙ sym (places-sets w.sorted); len = p.len ∙ omega arith; calls = p.calls ∙ omega arith; errors = p.errors }

  -- the same of every function that the table holds
  by-lead : (lead : (row : ℕ) → ℕ) → LeadRows s lead d → SortsBy (sort_out (graph_by s lead) most_items) b answer b'
  by-lead lead held = rw (table-walk s d lead (held.entries None) own.accepted own.table most_items) by-table

  by-plain : LeadRows s (plain_lead s (types_of s)) d → PlainRule s o'
  unfolding walk_of
  by-plain held =
      record { order = rw (by-lead (plain_lead s (types_of s)) held).order (plain-order s own.accepted); cyclic = walk-cyclic-is s own.accepted }

  pub sorted : Sorts s d b answer b'
  sorted = record { sorts = by-lead; plain = by-plain; same = g.did.errors.same }
