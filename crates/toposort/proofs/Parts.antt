-- How the parts of the walk are put together in the code's state, and what each part uses up: places of the order and numbers of visits.
-- Assumes nothing.
use Prim.Native.Nat.{ℕ, zero, suc, ◌+◌, ◌*◌, ◌≤◌, ◌<◌}
use mathlib.Core.Path.{◌≡◌, refl, ap, ◌∙◌}
use mathlib.Core.List.{List, [], ◌∷◌}
use native.Mathlib.Numerals.{add-one}
use native.Mathlib.Omega.{arith}
use borrow.Author.Tests.{eqb-true, eqb-false}
use lib.Dec.{T, eqb}
use lib.ListN.{length, get_or, set, length-append, length-set}
use Rattle.rules.specs.Graph.{Graph}
use Rattle.rules.specs.Walk.{Out, still, join, field_out, fields_out, visit_out, item_out, items_out}
use Rattle.laws.proofs.Base.Tests.{both, holds}
use Rattle.laws.proofs.Base.Stores.{sets-append}
use Rattle.laws.specs.Left.{fresh}
use Rattle.laws.proofs.Base.Counts.{fresh_set, fresh-set-le}
use Rattle.laws.proofs.Graph.Chains.{Good}
use Rattle.errors.specs.Sink.{also, silent}
use Rattle.errors.specs.declared.Errors.{Errors}
use Rattle.toposort.specs.declared.Walk.{Walk}
use Rattle.toposort.specs.State.{Did, Room}

-- ## One part after another

pub did-still : (b : Errors) (o : List ℕ) (v : Walk) → Did b o v (still v.marks) v b o
did-still b o v = record { marks = refl; order = refl; len = omega arith; calls = omega arith; errors = silent b }

pub did-join : {b b' b'' : Errors} {o o' o'' : List ℕ} {v r r' : Walk} {a c : Out} → Did b o v a r b' o' → Did b' o' r c r' b'' o''
    → Did b o v (join a c) r' b'' o''
did-join {o = o} {v = v} {a = a} {c = c} p q =
    record {
      marks = q.marks;
      order = q.order ∙ rw (p.order, p.len) (sets-append o v.len a.sorted c.sorted);
      len = omega (arith, p.len, q.len, length-append a.sorted c.sorted);
      calls = omega (arith, p.calls, q.calls);
      errors = also p.errors q.errors;
    }

-- ## What a part uses up

-- of the marks m: at most a place of the order for each item that it marks, and q visits besides one for each field of those items
pub record Spends (q : ℕ) (m : List ℕ) (a : Out) : Type 0 where
  pub long : length a.marks ≡ length m
  pub places : fresh a.marks + length a.sorted ≤ fresh m
  pub calls : a.calls + 64 * fresh a.marks ≤ q + 64 * fresh m

spends-still : (q : ℕ) (m : List ℕ) → Spends q m (still m)
spends-still q m = record { long = refl; places = omega arith; calls = omega arith }

spends-join : {q q' : ℕ} {m : List ℕ} {a c : Out} → Spends q m a → Spends q' a.marks c → Spends (q + q') m (join a c)
spends-join {a = a} {c = c} h k =
    record {
      long = k.long ∙ h.long;
      places = omega (arith, h.places, k.places, length-append a.sorted c.sorted);
      calls = omega (arith, h.calls, k.calls);
    }

-- at most 255 struct items of at most 64 fields, which lead to struct items
pub record Bounded (G : Graph) : Type 0 where
  pub good : Good G 255
  pub few : (i : ℕ) → T (G.struct i) → G.fields i ≤ 64

module _ {G : Graph} (lim : Bounded G) where
  Visitor : (List ℕ → ℕ → Out) → Type 0
  Visitor v = (m : List ℕ) (e : ℕ) → length m ≡ 255 → T (G.struct e) → Spends 1 m (v m e)

  spends-field : (v : List ℕ → ℕ → Out) → Visitor v → (i k : ℕ) → k < G.fields i → (m : List ℕ) → length m ≡ 255 → Spends 1 m (field_out v G i k m)
  unfolding field_out Visitor
  spends-field v hv i k l m h =
      both (eqb (G.to i k) 255) (λ e. rw (e, field_out) (spends-still 1 m)) (λ e.
      let p = hv m (G.to i k) h (lim.good.closed i k l (eqb-false (G.to i k) 255 e)) in
      rw (e, field_out) (record { long = p.long; places = p.places; calls = p.calls }))

  spends-fields : (v : List ℕ → ℕ → Out) → Visitor v → (i k : ℕ) → k ≤ G.fields i → (m : List ℕ) → length m ≡ 255 → Spends k m (fields_out v G i k m)
  unfolding fields_out
  spends-fields v hv i zero l m h = spends-still 0 m
  spends-fields v hv i (suc k) l m h =
      let a = spends-fields v hv i k (omega arith) m h in
      rw (← add-one k) (spends-join a (spends-field v hv i k l (fields_out v G i k m).marks (a.long ∙ h)))

  pub spends-visit : (f : ℕ) (m : List ℕ) (i : ℕ) → length m ≡ 255 → T (G.struct i) → Spends 1 m (visit_out f G m i)
  unfolding visit_out Visitor
  spends-visit zero m i h t = spends-still 1 m
  spends-visit (suc f) m i h t =
      both (eqb (get_or m i 0) 0)
      (λ e.
      let o = fields_out (visit_out f G) G i (G.fields i) (set m i 1) in
      let a = spends-fields (visit_out f G) (spends-visit f) i (G.fields i) (omega arith) (set m i 1) (length-set m i 1 ∙ h) in
      let n = fresh_set m i 0 (omega (arith, lim.good.below i t)) (eqb-true (get_or m i 0) 0 e) in
      let g = fresh-set-le o.marks i 1 in
      let k = lim.few i t in
      rw (e, visit_out)
      (record {
        long = length-set o.marks i 2 ∙ a.long ∙ length-set m i 1;
        places = omega (arith, a.places, length-append o.sorted (i ∷ []));
        calls = omega (arith, a.calls);
      }))
      (λ e. rw (e, visit_out) (record { long = refl; places = omega arith; calls = omega arith }))

  pub spends-first : (f i k : ℕ) → k ≤ G.fields i → (m : List ℕ) → length m ≡ 255 → Spends k m (fields_out (visit_out f G) G i k m)
  unfolding Visitor
  spends-first f = spends-fields (visit_out f G) (spends-visit f)

  pub spends-item : (f i : ℕ) (m : List ℕ) → length m ≡ 255 → Spends 1 m (item_out f G i m)
  unfolding item_out
  spends-item f i m h = both (G.struct i) (λ e. rw (e, item_out) (spends-visit f m i h (holds e))) (λ e. rw (e, item_out) (spends-still 1 m))

  pub spends-items : (f i : ℕ) (m : List ℕ) → length m ≡ 255 → Spends i m (items_out f G i m)
  unfolding items_out
  spends-items f zero m h = spends-still 0 m
  spends-items f (suc i) m h =
      let a = spends-items f i m h in
      rw (← add-one i) (spends-join a (spends-item f i (items_out f G i m).marks (a.long ∙ h)))

-- what is left after a part
pub room_after : {b b' : Errors} {o o' : List ℕ} {v r : Walk} {a : Out} {q l : ℕ} → Room v (q + l) → Spends q v.marks a → Did b o v a r b' o' → Room r l
room_after {v = v} {r} {a} h p d =
    let m : fresh r.marks ≡ fresh a.marks = ap fresh d.marks in
    record { len = omega (arith, h.len, p.places, d.len); calls = omega (arith, h.calls, p.calls, d.calls) }

pub room-less : {w : Walk} {l l' : ℕ} → Room w l → l' ≤ l → Room w l'
room-less h k = record { len = h.len; calls = omega (arith, h.calls) }
