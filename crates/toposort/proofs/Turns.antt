-- The turns of the code's loop over the fields of a struct, and a visit as a whole.
-- Assumes nothing.
use Prim.Native.Nat.{ℕ, zero, suc, ◌+◌, ◌-◌, ◌≤◌, ◌<◌}
use mathlib.Core.Path.{◌≡◌, refl, sym, ap, subst, ◌∙◌}
use mathlib.Core.Bool.{Bool, true, false, ◌&&◌, and-true, and-false}
use mathlib.Core.List.{List, [], ◌∷◌, append-nil}
use native.Mathlib.Nat.{not-suc-le-zero}
use native.Mathlib.Numerals.{add-one}
use native.Mathlib.Omega.{arith}
use borrow.Author.Tests.{eq-eqb, ne_eqb}
use lib.Dec.{eqb}
use lib.ListN.{length, get_or, set, length-append}
use Rattle.rules.specs.declared.Place.TheVariants.{F}
use Rattle.rules.specs.Diagnostics.{say}
use Rattle.rules.specs.Graph.{Graph}
use Rattle.rules.specs.Walk.{Out, finished, field_out, fields_out, visit_out}
use Rattle.laws.specs.Left.{fresh}
use Rattle.laws.proofs.Base.Counts.{fresh_set}
use Rattle.laws.proofs.Base.Stores.{sets-append}
use Rattle.errors.specs.declared.Errors.{Errors}
use Rattle.errors.specs.Sink.{Reported, also, silent, meant}
use Rattle.toposort.specs.declared.Walk.{Walk}
use Rattle.toposort.specs.State.{Did, Done, Visits, Room}
use Rattle.row_tables.specs.Listed.{LowestOut}
use Rattle.toposort.proofs.Leading.{Skips, Turning, turned, turn_below, turn-known, turn_on}
use Rattle.toposort.proofs.Parts.{did-still, did-join, Spends, Bounded, spends-first, room_after, room-less}

-- ## One field

-- a is done after v, and `ok` says whether both succeeded
pub record Stepped (b : Errors) (o : List ℕ) (v : Walk) (a : Out) (r : Walk) (b' : Errors) (o' : List ℕ) : Type 0 where
  pub did : Did b o v a r b' o'
  pub ok : r.ok ≡ v.ok && a.ok

abbrev pub Steps : Graph → (b : Errors) (o : List ℕ) → Walk → (i k : ℕ) → Walk → (b' : Errors) (o' : List ℕ) → Type 0
Steps G b o v i k r b' o' = (f : ℕ) → fresh v.marks < f → Stepped b o v (field_out (visit_out f G) G i k v.marks) r b' o'

-- a field that leads nowhere
pub step-none : (G : Graph) (b : Errors) (o : List ℕ) (v : Walk) (i k : ℕ) → G.to i k ≡ 255 → Steps G b o v i k v b o
unfolding field_out
step-none G b o v i k e f h = rw (eq-eqb (G.to i k) 255 e, field_out) (record { did = did-still b o v; ok = sym (and-true v.ok) })

abbrev pub put-ok : Walk → Bool → Walk
put-ok w x = record { marks = w.marks; len = w.len; calls = w.calls; ok = x }

-- what is known of `ok` before a visit changes nothing
pub visits-flag : (G : Graph) {b b' : Errors} {o o' : List ℕ} {v r : Walk} (i : ℕ) (x : Bool) → Visits G b o v i r b' o'
    → Visits G b o (put-ok v x) i r b' o'
visits-flag G i x d f h =
    let p = (d f h).did in
    record { did = record { marks = p.marks; order = p.order; len = p.len; calls = p.calls; errors = p.errors }; ok = (d f h).ok }

-- a field whose struct was visited
module _ (G : Graph) (b b' : Errors) (o o' : List ℕ) (v r : Walk) (i k : ℕ) (e : G.to i k ≡ 255 → ⊥) (d : Visits G b o v (G.to i k) r b' o') where
  pub step_ok : r.ok ≡ true → Steps G b o v i k (put-ok r v.ok) b' o'
  unfolding field_out
  step_ok t f h =
      let a = visit_out f G v.marks (G.to i k) in
      let p = (d f h).did in
      let q : a.ok ≡ true = sym (d f h).ok ∙ t in
      rw (ne_eqb (G.to i k) 255 e, field_out)
      (record {
        did = record { marks = p.marks; order = p.order; len = p.len; calls = p.calls; errors = meant p.errors (rw q (sym (append-nil a.errors))) };
        ok = rw q (sym (and-true v.ok));
      })

  pub step-bad : (b'' : Errors) → r.ok ≡ false → Reported b' (say 2 (F i k)) b'' → Steps G b o v i k (put-ok r false) b'' o'
  unfolding field_out
  step-bad b'' t g f h =
      let a = visit_out f G v.marks (G.to i k) in
      let p = (d f h).did in
      let q : a.ok ≡ false = sym (d f h).ok ∙ t in
      rw (ne_eqb (G.to i k) 255 e, field_out)
      (record {
        did = record { marks = p.marks; order = p.order; len = p.len; calls = p.calls; errors = meant (also p.errors g) (rw q) };
        ok = rw q (sym (and-false v.ok));
      })

-- ## The fields

-- k of the n fields of item i are done
pub record Going (G : Graph) (b : Errors) (o : List ℕ) (i : ℕ) (v₀ : Walk) (n k : ℕ) (b' : Errors) (o' : List ℕ) (v : Walk) : Type 0 where
  pub all : n ≡ G.fields i
  pub upto : k ≤ n
  pub long : length v₀.marks ≡ 255
  pub room : Room v₀ n
  pub place : v₀.len + fresh v₀.marks < 255
  pub done : (f : ℕ) → fresh v₀.marks < f → Done b o v₀ (fields_out (visit_out f G) G i k v₀.marks) v b' o'

module _ {G : Graph} (lim : Bounded G) {b : Errors} {o : List ℕ} {i : ℕ} {v₀ : Walk} {n k : ℕ} {b' : Errors} {o' : List ℕ} {v : Walk}
    (g : Going G b o i v₀ n k b' o' v) where
  enough : ℕ
  enough = suc (fresh v₀.marks)

  so_far : Out
  so_far = fields_out (visit_out enough G) G i k v₀.marks

  did : Did b o v₀ so_far v b' o'
  unfolding so_far enough
  did = (g.done enough (omega arith)).did

  spent : Spends k v₀.marks so_far
  unfolding so_far
  spent = spends-first lim enough i k (omega (arith, g.all, g.upto)) v₀.marks g.long

  marks-fresh : fresh v.marks ≡ fresh so_far.marks
  marks-fresh = ap fresh did.marks

  pub going-long : length v.marks ≡ 255
  going-long = ap length did.marks ∙ spent.long ∙ g.long

  pub going-room : Room v (n - k)
  going-room = room_after (room-less g.room (omega (arith, g.upto))) spent did

  pub going-fresh : fresh v.marks ≤ fresh v₀.marks
  going-fresh = omega (arith, marks-fresh, spent.places)

  pub going-len : v.len < 255
  going-len = omega (arith, did.len, spent.places, g.place)

  pub going_on : (r : Walk) (b'' : Errors) (o'' : List ℕ) → k < n → Steps G b' o' v i k r b'' o'' → Going G b o i v₀ n (k + 1) b'' o'' r
  unfolding fields_out
  going_on r b'' o'' h d = record { all = g.all; upto = omega arith; long = g.long; room = g.room; place = g.place; done = next }
    where
      next : (f : ℕ) → fresh v₀.marks < f → Done b o v₀ (fields_out (visit_out f G) G i (k + 1) v₀.marks) r b'' o''
      next f hf =
          let a = fields_out (visit_out f G) G i k v₀.marks in
          let p = g.done f hf in
          let l = going-fresh in
          let part : List ℕ → Out = λ x. field_out (visit_out f G) G i k x in
          let q : Stepped b' o' v (part a.marks) r b'' o'' = subst (λ (x : List ℕ). Stepped b' o' v (part x) r b'' o'') p.did.marks (d f (omega arith)) in
          rw add-one (record { did = did-join p.did q.did; ok = q.ok ∙ rw p.ok })

-- a field that leads nowhere
pub going-skips : {G : Graph} (lim : Bounded G) {b : Errors} {o : List ℕ} {i : ℕ} {v₀ : Walk} {n : ℕ} {b' : Errors} {o' : List ℕ} {v : Walk}
    → Skips G i n (λ k. Going G b o i v₀ n k b' o' v)
going-skips {G} lim {i = i} {b' = b'} {o'} {v} k l e g = going_on lim g v b' o' l (step-none G b' o' v i k e)

-- the walk turns for the fields that lead to a struct alone: where the word has none left all fields are done, and a visit of its next field does the fields
-- before that one too
module _ {G : Graph} (lim : Bounded G) {b : Errors} {o : List ℕ} {i : ℕ} {v₀ : Walk} {n k left : ℕ} {b' : Errors} {o' : List ℕ} {v : Walk}
    (t : Turning G i n k left) (g : Going G b o i v₀ n k b' o' v) where
  pub walk-turned : left ≡ 0 → Going G b o i v₀ n n b' o' v
  walk-turned e = rw (← t.all) at (turned t (going-skips lim) g e)

  module _ {rest field : ℕ} (out : LowestOut left rest field) where
    pub walk-known : Going G b o i v₀ n field b' o' v
    walk-known = turn-known t out (going-skips lim) g

    pub walk-on : (r : Walk) (b'' : Errors) (o'' : List ℕ) → Steps G b' o' v i field r b'' o''
        → Turning G i n (field + 1) rest × Going G b o i v₀ n (field + 1) b'' o'' r
    walk-on r b'' o'' step = (turn_on t out, going_on lim walk-known r b'' o'' (turn_below t out) step)

-- the fields before some k are done, and the word has the others that lead to a struct
abbrev pub Visiting : Graph → (b : Errors) (o : List ℕ) (i : ℕ) → Walk → (n left : ℕ) (b' : Errors) (o' : List ℕ) → Walk → Type 0
Visiting G b o i v₀ n left b' o' v = (k : ℕ) × Turning G i n k left × Going G b o i v₀ n k b' o' v

-- ## A visit

-- of a struct that was met before
pub visit-seen : (G : Graph) (b : Errors) (o : List ℕ) (w : Walk) (i : ℕ) → (get_or w.marks i 0 ≡ 0 → ⊥)
    → Visits G b o w i (record { marks = w.marks; len = w.len; calls = w.calls + 1; ok = eqb (get_or w.marks i 0) 2 }) b o
unfolding visit_out
visit-seen G b o w i e zero h = absurd (not-suc-le-zero h)
visit-seen G b o w i e (suc f) h =
    rw (ne_eqb (get_or w.marks i 0) 0 e, visit_out)
    (record { did = record { marks = refl; order = refl; len = omega arith; calls = refl; errors = silent b }; ok = refl })

-- a field whose struct was marked: its visit is counted, and no more is done
abbrev pub counted : Walk → (calls : ℕ) → Bool → Walk
counted w n y = record { marks = w.marks; len = w.len; calls = n; ok = y }

module _ (G : Graph) (b : Errors) (o : List ℕ) (v : Walk) (x : ℕ) (m : get_or v.marks x 0 ≡ 0 → ⊥) (n : ℕ)
    (y : Bool) (c : n ≡ v.calls + 1) (z : y ≡ eqb (get_or v.marks x 0) 2) where
  pub seen-marked : Visits G b o v x (counted v n y) b o
  seen-marked = rw (z, c) (visit-seen G b o v x m)

-- of a new one, as its fields begin, and as they end
abbrev pub entered : Walk → ℕ → Walk
entered w i = record { marks = set w.marks i 1; len = w.len; calls = w.calls + 1; ok = true }

abbrev pub closed : Walk → ℕ → Walk
closed w i = record { marks = set w.marks i 2; len = w.len + 1; calls = w.calls; ok = w.ok }

done-finished : {b b' : Errors} {o o' : List ℕ} (w : Walk) (i : ℕ) {a : Out} {v : Walk} → Done b o (entered w i) a v b' o'
    → Done b o w (finished i a) (closed v i) b' (set o' v.len i)
done-finished {o = o} w i {a} {v} d =
    let p = d.did in
    record {
      did =
          record {
            marks = ap (λ (x : List ℕ). set x i 2) p.marks;
            order = rw (p.order, p.len) (sets-append o w.len a.sorted (i ∷ []));
            len = omega (arith, p.len, length-append a.sorted (i ∷ []));
            calls = omega (arith, p.calls);
            errors = p.errors;
          };
      ok = d.ok;
    }

pub visit-new : {G : Graph} {b b' : Errors} {o o' : List ℕ} (w : Walk) (i n k : ℕ) {v : Walk} → get_or w.marks i 0 ≡ 0 → i < length w.marks
    → Going G b o i (entered w i) n k b' o' v → n ≤ k → Visits G b o w i (closed v i) b' (set o' v.len i)
unfolding visit_out
visit-new w i n k e hi g hp zero h = absurd (not-suc-le-zero h)
visit-new {G} w i n k e hi g hp (suc f) h =
    let m = fresh_set w.marks i 0 hi e in
    let kc : k ≡ G.fields i = omega (arith, g.upto, g.all) in
    rw (eq-eqb (get_or w.marks i 0) 0 e, visit_out, ← kc) (done-finished w i (g.done f (omega arith)))
