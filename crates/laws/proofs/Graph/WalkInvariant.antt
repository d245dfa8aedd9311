-- What the walk keeps, visit by visit. A state is the marks m, the order so far o, and the number c of messages so far.
-- Assumes nothing.
use mathlib.Core.Path.{◌≡◌, refl, sym, ap, ◌∙◌, subst}
use mathlib.Core.Logic.{◌≢◌, ◌⊎◌, inl, inr}
use mathlib.Core.Bool.{Bool, true, false, ◌&&◌}
use mathlib.Core.List.{List, [], ◌∷◌, ◌++◌, append-nil, append_assoc}
use Prim.Native.Nat.{ℕ, zero, suc, pred, ◌+◌, ◌≤◌, ◌<◌}
use native.Mathlib.Omega.{arith}
use native.Mathlib.Nat.{add_assoc, add-zero}
use lib.Dec.{T, eqb}
use lib.ListN.{length, get_or, set, replicate, length-set, length-append, length-replicate}
use lib.Seq.{get_or-set_same, get_or-set_other}
use Rattle.rules.specs.Count.{count, place}
use Rattle.laws.specs.Left.{fresh}
use Rattle.laws.proofs.Base.Counts.{Eq?, same, other, eq?, eqb-true, eqb-false, count-snoc-same, count-snoc-other, place-lt, place-append, place-new}
use Rattle.laws.proofs.Base.Counts.{fresh_set, fresh-set-le, fresh-zeros}
use Rattle.rules.specs.Graph.{Graph}
use Rattle.rules.specs.Rule3.{one}
use Rattle.laws.proofs.Graph.Chains.{Good, Edge, Chain, Cycle}
use Rattle.laws.proofs.Graph.ChainLaws.{snoc}
use Rattle.rules.specs.Walk.{Out, still, join, blame, blamed, seen, finished, field_out, fields_out, visit_out, item_out, items_out}
use Rattle.rules.specs.Diagnostics.{say}
use Rattle.rules.specs.declared.Place.TheVariants.{F}

abbrev pub Earlier : List ℕ → ℕ → ℕ → Type 0
Earlier o y x = place o y < place o x

pub record Inv (G : Graph) (n : ℕ) (m o : List ℕ) (c : ℕ) : Type 0 where
  pub size : length m ≡ n
  pub kinds : (x : ℕ) → get_or m x 0 ≤ 2
  -- the order holds each visited item once, and nothing else
  pub listed : (x : ℕ) → count x o ≡ pred (get_or m x 0)
  pub structs : (x : ℕ) → 0 < get_or m x 0 → T (G.struct x)
  -- an edge of a visited item leads to an earlier one, or closes a cycle
  pub edges : (x y : ℕ) → 0 < count x o → Edge G x y → Earlier o y x ⊎ Chain G y x
  pub clean : c ≡ 0 → (x y : ℕ) → 0 < count x o → Edge G x y → Earlier o y x
  pub dirty : 0 < c → Cycle G

-- what may happen to a mark between two states with the same open visits
abbrev pub Moved : List ℕ → List ℕ → ℕ → Type 0
Moved m m' x = (get_or m' x 0 ≡ get_or m x 0) ⊎ ((get_or m x 0 ≡ 0) × (get_or m' x 0 ≡ 2))

pub record Post (G : Graph) (n : ℕ) (m : List ℕ) (c : ℕ) (m' o' : List ℕ) (c' : ℕ) : Type 0 where
  pub inv : Inv G n m' o' c'
  pub moved : (x : ℕ) → Moved m m' x
  pub less : fresh m' ≤ fresh m
  pub grow : c ≤ c'

abbrev pub After : Graph → ℕ → List ℕ → List ℕ → ℕ → Out → Type 0
After G n m o c a = Post G n m c a.marks (o ++ a.sorted) (c + length a.errors)

-- a visit of i
pub record Visited (G : Graph) (n : ℕ) (m o : List ℕ) (c i : ℕ) (a : Out) : Type 0 where
  pub post : After G n m o c a
  pub here : 0 < get_or a.marks i 0
  pub done : a.ok ≡ true → 1 < get_or a.marks i 0
  pub fails : a.ok ≡ false → Cycle G

-- fields of i, those that `At` tells
pub record Fielded (G : Graph) (n : ℕ) (At : ℕ → Type 0) (m o : List ℕ) (c i : ℕ) (a : Out) : Type 0 where
  pub post : After G n m o c a
  pub here : (k : ℕ) → At k → G.to i k ≢ 255 → 0 < get_or a.marks (G.to i k) 0
  pub done : c + length a.errors ≡ 0 → (k : ℕ) → At k → G.to i k ≢ 255 → 1 < get_or a.marks (G.to i k) 0
  pub fails : a.ok ≡ false → Cycle G

abbrev pub Visitor : Graph → ℕ → ℕ → (List ℕ → ℕ → Out) → Type 0
Visitor G n f v =
    (m o : List ℕ) (c i : ℕ) → Inv G n m o c → fresh m < f → T (G.struct i) → ((x : ℕ) → get_or m x 0 ≡ 1 → Chain G x i) → Visited G n m o c i (v m i)

-- the first k items are walked
pub record Walked (G : Graph) (n k : ℕ) (a : Out) : Type 0 where
  pub post : After G n (replicate n 0) [] 0 a
  -- no visit is open
  pub ends : (x : ℕ) → (get_or a.marks x 0 ≡ 0) ⊎ (get_or a.marks x 0 ≡ 2)
  pub all : (x : ℕ) → x < k → T (G.struct x) → get_or a.marks x 0 ≡ 2

module _ (G : Graph) (n : ℕ) where
  pub stay : {m o : List ℕ} {c : ℕ} → Inv G n m o c → Post G n m c m o c
  stay h = record { inv = h; moved = λ x. inl refl; less = omega arith; grow = omega arith }

  pub stay-after : (m o : List ℕ) (c : ℕ) (a : Out) → a.marks ≡ m → a.sorted ≡ [] → a.errors ≡ [] → Inv G n m o c → After G n m o c a
  stay-after m o c a e₁ e₂ e₃ h = rw (e₁, e₂, e₃, append-nil, add-zero) (stay h)

  -- a mark that is no zero stays
  kept : {m m' o' : List ℕ} {c c' : ℕ} → Post G n m c m' o' c' → (x : ℕ) → 0 < get_or m x 0 → get_or m' x 0 ≡ get_or m x 0
  kept {m} {m'} p x h = go (p.moved x)
    where
      go : Moved m m' x → get_or m' x 0 ≡ get_or m x 0
      go (inl e) = e
      go (inr e) = absurd (omega (arith, e.0))

  -- no visit is opened
  pub opened : {m m' o' : List ℕ} {c c' : ℕ} → Post G n m c m' o' c' → (x : ℕ) → get_or m' x 0 ≡ 1 → get_or m x 0 ≡ 1
  opened {m} {m'} p x h = go (p.moved x)
    where
      go : Moved m m' x → get_or m x 0 ≡ 1
      go (inl e) = sym e ∙ h
      go (inr e) = absurd (omega (arith, e.1))

  pub onward : {m m' m'' o' o'' : List ℕ} {c c' c'' : ℕ} → Post G n m c m' o' c' → Post G n m' c' m'' o'' c'' → Post G n m c m'' o'' c''
  onward {m} {m'} {m''} p q =
      record { inv = q.inv; moved = λ x. go x (p.moved x) (q.moved x); less = omega (arith, p.less, q.less); grow = omega (arith, p.grow, q.grow) }
    where
      go : (x : ℕ) → Moved m m' x → Moved m' m'' x → Moved m m'' x
      go x (inl a) (inl b) = inl (b ∙ a)
      go x (inl a) (inr b) = inr (sym a ∙ b.0, b.1)
      go x (inr a) (inl b) = inr (a.0, b ∙ a.1)
      go x (inr a) (inr b) = absurd (omega (arith, a.1, b.0))

  -- one part of the walk, and then another
  pub then : (m o : List ℕ) (c : ℕ) (a b : Out) → After G n m o c a → After G n a.marks (o ++ a.sorted) (c + length a.errors) b
      → After G n m o c (join a b)
  then m o c a b p q =
      rw (length-append a.errors b.errors, ← append_assoc o a.sorted b.sorted, ← add_assoc c (length a.errors) (length b.errors)) (onward p q)

  and-false : (a b : Bool) → (a ≡ false → Cycle G) → (b ≡ false → Cycle G) → (a && b) ≡ false → Cycle G
  and-false true b p q e = q e
  and-false false b p q e = p refl

  -- a code is sorted where a cycle is known
  reported : {m o : List ℕ} {c : ℕ} → Inv G n m o c → Cycle G → Inv G n m o (suc c)
  reported h y =
      record { size = h.size; kinds = h.kinds; listed = h.listed; structs = h.structs; edges = h.edges; clean = λ e. absurd (omega arith); dirty = λ _. y }

  blamed-out : (m o : List ℕ) (c i j k : ℕ) (a : Out) → Visited G n m o c j a → After G n m o c (blamed i k a)
  blamed-out m o c i j k a h = go a.ok refl
    where
      go : (b : Bool) → a.ok ≡ b → Post G n m c a.marks (o ++ a.sorted) (c + length (a.errors ++ blame b i k))
      go true e = rw append-nil h.post
      go false e =
          let z : c + length (a.errors ++ (say 2 (F i k))) ≡ suc (c + length a.errors) = simp length-append (omega arith) in
          rw z (record { inv = reported h.post.inv (h.fails e); moved = h.post.moved; less = h.post.less; grow = omega (arith, h.post.grow) })

  module _ (good : Good G n) (f : ℕ) (v : List ℕ → ℕ → Out) (hv : Visitor G n f v) (i : ℕ) where
    -- one field
    field : (k : ℕ) → k < G.fields i → (m o : List ℕ) (c : ℕ) → Inv G n m o c → fresh m < f → ((x : ℕ) → get_or m x 0 ≡ 1 → (j : ℕ) → Edge G i j → Chain G x j)
        → Fielded G n (λ k'. k' ≡ k) m o c i (field_out v G i k m)
    unfolding field_out
    field k l m o c h less reach = go (eqb (G.to i k) 255) refl
      where
        go : (b : Bool) → eqb (G.to i k) 255 ≡ b
            → Fielded G n (λ k'. k' ≡ k) m o c i (elim b as (λ _. Out) [ true ↦ still m | false ↦ blamed i k (v m (G.to i k)) ])
        go true e =
            record {
              post = stay-after m o c (still m) refl refl refl h;
              here = λ k' p ne. absurd (nowhere k' p ne);
              done = λ _ k' p ne. absurd (nowhere k' p ne);
              fails = λ b. let z : ◌≡◌ {A = ℕ} 0 1 = cc in absurd (omega arith);
            }
          where
            nowhere : (k' : ℕ) → k' ≡ k → G.to i k' ≢ 255 → ⊥
            nowhere k' p ne = ne (ap (G.to i) p ∙ eqb-true (G.to i k) 255 e)
        go false e =
            record {
              post = blamed-out m o c i (G.to i k) k a w;
              here = λ k' p ne. rw p w.here;
              done = λ z k' p ne. rw p (met z a.ok refl);
              fails = w.fails;
            }
          where
            a : Out
            a = v m (G.to i k)

            ne : G.to i k ≢ 255
            ne = eqb-false (G.to i k) 255 e

            w : Visited G n m o c (G.to i k) a
            w =
                let d : Edge G i (G.to i k) = record { place = k; is_field = l; leads = refl; is-item = ne } in
                hv m o c (G.to i k) h less (good.closed i k l ne) (λ x q. reach x q (G.to i k) d)

            met : c + length (a.errors ++ blame a.ok i k) ≡ 0 → (b : Bool) → a.ok ≡ b → 1 < get_or a.marks (G.to i k) 0
            met z true q = w.done q
            met z false q =
                let z' : c + length (a.errors ++ (say 2 (F i k))) ≡ 0 = rw q at z in
                absurd (omega (arith, length-append a.errors (say 2 (F i k))))

    -- the first fields
    fields : (k : ℕ) → k ≤ G.fields i → (m o : List ℕ) (c : ℕ) → Inv G n m o c → fresh m < f
        → ((x : ℕ) → get_or m x 0 ≡ 1 → (j : ℕ) → Edge G i j → Chain G x j) → Fielded G n (λ k'. k' < k) m o c i (fields_out v G i k m)
    unfolding fields_out
    fields zero l m o c h less reach =
        record {
          post = stay-after m o c (still m) refl refl refl h;
          here = λ k' p ne. absurd (omega arith);
          done = λ _ k' p ne. absurd (omega arith);
          fails = λ b. let z : ◌≡◌ {A = ℕ} 0 1 = cc in absurd (omega arith);
        }
    fields (suc k) l m o c h less reach = both (fields_out v G i k m) (fields k (omega arith) m o c h less reach)
      where
        both : (a : Out) → Fielded G n (λ k'. k' < k) m o c i a → Fielded G n (λ k'. k' < suc k) m o c i (join a (field_out v G i k a.marks))
        both a p =
            add (field_out v G i k a.marks) (field k l a.marks (o ++ a.sorted) (c + length a.errors) p.post.inv (omega (arith, p.post.less))
            (λ x q. reach x (opened p.post x q)))
          where
            add : (b : Out) → Fielded G n (λ k'. k' ≡ k) a.marks (o ++ a.sorted) (c + length a.errors) i b
                → Fielded G n (λ k'. k' < suc k) m o c i (join a b)
            add b q =
                record {
                  post = then m o c a b p.post q.post;
                  here = λ k' s ne. at_here k' s ne (eq? k' k);
                  done = λ z k' s ne. at_done z k' s ne (eq? k' k);
                  fails = and-false a.ok b.ok p.fails q.fails;
                }
              where
                at_here : (k' : ℕ) → k' < suc k → G.to i k' ≢ 255 → Eq? k' k → 0 < get_or b.marks (G.to i k') 0
                at_here k' s ne (same _ e) = q.here k' e ne
                at_here k' s ne (other _ e) = let u = p.here k' (omega arith) ne in omega (arith, kept q.post (G.to i k') u)

                none : c + length (a.errors ++ b.errors) ≡ 0 → c + length a.errors + length b.errors ≡ 0
                none z = omega (arith, length-append a.errors b.errors)

                at_done : c + length (a.errors ++ b.errors) ≡ 0 → (k' : ℕ) → k' < suc k → G.to i k' ≢ 255 → Eq? k' k → 1 < get_or b.marks (G.to i k') 0
                at_done z k' s ne (same _ e) = q.done (none z) k' e ne
                at_done z k' s ne (other _ e) =
                    let u = p.done (omega (arith, none z)) k' (omega arith) ne in omega (arith, kept q.post (G.to i k') (omega arith))

  module _ (good : Good G n) where
    -- an item that is not met yet is marked
    pushed : (m o : List ℕ) (c i : ℕ) → Inv G n m o c → get_or m i 0 ≡ 0 → T (G.struct i) → Inv G n (set m i 1) o c
    pushed m o c i h z t =
        record {
          size = length-set m i 1 ∙ h.size;
          kinds = λ x. at-kinds x (eq? x i);
          listed = λ x. at_listed x (eq? x i);
          structs = λ x. at-struct x (eq? x i);
          edges = h.edges;
          clean = h.clean;
          dirty = h.dirty;
        }
      where
        fits : i < length m
        fits = omega (arith, h.size, good.below i t)

        at-kinds : (x : ℕ) → Eq? x i → get_or (set m i 1) x 0 ≤ 2
        at-kinds x (same _ p) = rw (p, get_or-set_same m i 1 0 fits) (omega arith)
        at-kinds x (other _ p) = rw (get_or-set_other m i x 1 0 p) (h.kinds x)

        at_listed : (x : ℕ) → Eq? x i → count x o ≡ pred (get_or (set m i 1) x 0)
        at_listed x (same _ p) = rw (p, get_or-set_same m i 1 0 fits) (omega (arith, h.listed i))
        at_listed x (other _ p) = rw (get_or-set_other m i x 1 0 p) (h.listed x)

        at-struct : (x : ℕ) → Eq? x i → 0 < get_or (set m i 1) x 0 → T (G.struct x)
        at-struct x (same _ p) = rw p (λ _. t)
        at-struct x (other _ p) = rw (get_or-set_other m i x 1 0 p) (h.structs x)

    -- the visit of an item that is not met yet, after its fields
    module _ (m o : List ℕ) (c i : ℕ) (h : Inv G n m o c) (z : get_or m i 0 ≡ 0) (si : T (G.struct i)) (reach : (x : ℕ) → get_or m x 0 ≡ 1 → Chain G x i)
        (m' o' : List ℕ) (c' : ℕ) (p : Post G n (set m i 1) c m' o' c')
        (here : (k : ℕ) → k < G.fields i → G.to i k ≢ 255 → 0 < get_or m' (G.to i k) 0)
        (done : c' ≡ 0 → (k : ℕ) → k < G.fields i → G.to i k ≢ 255 → 1 < get_or m' (G.to i k) 0) where
      fits : i < length m
      fits = omega (arith, h.size, good.below i si)

      fits' : i < length m'
      fits' = omega (arith, p.inv.size, good.below i si)

      marked : get_or m' i 0 ≡ 1
      marked = kept p i (rw (get_or-set_same m i 1 0 fits) (omega arith)) ∙ get_or-set_same m i 1 0 fits

      -- what was being visited when the fields are done is i, or was before
      open-chain : (y : ℕ) → Edge G i y → get_or m' y 0 ≡ 1 → Chain G y i
      open-chain y e q = go (eq? y i) (opened p y q)
        where
          go : Eq? y i → get_or (set m i 1) y 0 ≡ 1 → Chain G y i
          go (same _ s) _ = subst (λ (k : ℕ). Chain G k i) (sym s) (one (subst (λ (k : ℕ). Edge G i k) s e))
          go (other _ s) q' = reach y (rw (get_or-set_other m i y 1 0 s) at q')

      new : count i o' ≡ 0
      new = omega (arith, p.inv.listed i, marked)

      -- what stands in the order stands before i
      earlier : (y : ℕ) → 1 < get_or m' y 0 → Earlier (o' ++ (i ∷ [])) y i
      earlier y q =
          let l : place o' y < length o' = place-lt o' y (omega (arith, p.inv.listed y)) in
          rw (place-new o' [] i new, place-append o' (i ∷ []) y l) l

      -- the places of what stood in the order stay
      as_before : (x y : ℕ) → 0 < count x o' → Earlier o' y x → Earlier (o' ++ (i ∷ [])) y x
      as_before x y q e =
          let l : place o' x < length o' = place-lt o' x q in
          rw (place-append o' (i ∷ []) x l, place-append o' (i ∷ []) y (omega arith)) e

      popped : Inv G n (set m' i 2) (o' ++ (i ∷ [])) c'
      popped =
          record {
            size = length-set m' i 2 ∙ p.inv.size;
            kinds = λ x. at-kinds x (eq? x i);
            listed = λ x. at_listed x (eq? x i);
            structs = λ x. at-struct x (eq? x i);
            edges = λ x y. at-edges x y (eq? x i);
            clean = λ d x y. at-clean d x y (eq? x i);
            dirty = p.inv.dirty;
          }
        where
          at-kinds : (x : ℕ) → Eq? x i → get_or (set m' i 2) x 0 ≤ 2
          at-kinds x (same _ s) = rw (s, get_or-set_same m' i 2 0 fits') (omega arith)
          at-kinds x (other _ s) = rw (get_or-set_other m' i x 2 0 s) (p.inv.kinds x)

          at_listed : (x : ℕ) → Eq? x i → count x (o' ++ (i ∷ [])) ≡ pred (get_or (set m' i 2) x 0)
          at_listed x (same _ s) = rw (s, get_or-set_same m' i 2 0 fits', count-snoc-same i o') (ap suc new)
          at_listed x (other e s) = rw (get_or-set_other m' i x 2 0 s, count-snoc-other x i o' e) (p.inv.listed x)

          at-struct : (x : ℕ) → Eq? x i → 0 < get_or (set m' i 2) x 0 → T (G.struct x)
          at-struct x (same _ s) = rw s (λ _. si)
          at-struct x (other _ s) = rw (get_or-set_other m' i x 2 0 s) (p.inv.structs x)

          met : (y : ℕ) → Edge G i y → 0 < get_or m' y 0
          met y e = subst (λ (k : ℕ). 0 < get_or m' k 0) e.leads (here e.place e.is_field (λ q. e.is-item (sym e.leads ∙ q)))

          over : c' ≡ 0 → (y : ℕ) → Edge G i y → 1 < get_or m' y 0
          over d y e = subst (λ (k : ℕ). 1 < get_or m' k 0) e.leads (done d e.place e.is_field (λ q. e.is-item (sym e.leads ∙ q)))

          from-i : (y : ℕ) → Edge G i y → (k : ℕ) → get_or m' y 0 ≡ k → Earlier (o' ++ (i ∷ [])) y i ⊎ Chain G y i
          from-i y e zero q = absurd (omega (arith, met y e))
          from-i y e (suc zero) q = inr (open-chain y e q)
          from-i y e (suc (suc k)) q = inl (earlier y (omega arith))

          longer : (x y : ℕ) → 0 < count x o' → Earlier o' y x ⊎ Chain G y x → Earlier (o' ++ (i ∷ [])) y x ⊎ Chain G y x
          longer x y q (inl e) = inl (as_before x y q e)
          longer x y q (inr d) = inr d

          at-edges : (x y : ℕ) → Eq? x i → 0 < count x (o' ++ (i ∷ [])) → Edge G x y → Earlier (o' ++ (i ∷ [])) y x ⊎ Chain G y x
          at-edges x y (same _ s) = rw s (λ _ e. from-i y e (get_or m' y 0) refl)
          at-edges x y (other e s) = rw (count-snoc-other x i o' e) (λ q d. longer x y q (p.inv.edges x y q d))

          at-clean : c' ≡ 0 → (x y : ℕ) → Eq? x i → 0 < count x (o' ++ (i ∷ [])) → Edge G x y → Earlier (o' ++ (i ∷ [])) y x
          at-clean d x y (same _ s) = rw s (λ _ e. earlier y (over d y e))
          at-clean d x y (other e s) = rw (count-snoc-other x i o' e) (λ q b. as_before x y q (p.inv.clean d x y q b))

      two : get_or (set m' i 2) i 0 ≡ 2
      two = get_or-set_same m' i 2 0 fits'

      left : Post G n m c (set m' i 2) (o' ++ (i ∷ [])) c'
      left = record { inv = popped; moved = λ x. at_moved x (eq? x i); less = omega (arith, fresh-set-le m' i 1, p.less, fresh-set-le m i 0); grow = p.grow }
        where
          at_moved : (x : ℕ) → Eq? x i → Moved m (set m' i 2) x
          at_moved x (same _ s) = rw s (inr (z, two))
          at_moved x (other _ s) = rw (get_or-set_other m' i x 2 0 s) (rw (get_or-set_other m i x 1 0 s) at (p.moved x))

    pub visited : (f : ℕ) → Visitor G n f (visit_out f G)
    unfolding visit_out
    visited zero m o c i h l si reach = absurd (omega arith)
    visited (suc f) m o c i h l si reach = go (visited f) (get_or m i 0) refl
      where
        after : (a : Out) → Fielded G n (λ k. k < G.fields i) (set m i 1) o c i a → get_or m i 0 ≡ 0 → Visited G n m o c i (finished i a)
        after a p e =
            let q : Post G n m c (set a.marks i 2) ((o ++ a.sorted) ++ (i ∷ [])) (c + length a.errors) =
            left m o c i h e si reach a.marks (o ++ a.sorted) (c + length a.errors) p.post p.here p.done in
            let t : get_or (set a.marks i 2) i 0 ≡ 2 =
            two m o c i h e si reach a.marks (o ++ a.sorted) (c + length a.errors) p.post p.here p.done in
            record { post = rw append_assoc at q; here = omega arith; done = λ _. omega arith; fails = p.fails }

        onto : (x j : ℕ) → Edge G i j → Eq? x i → get_or (set m i 1) x 0 ≡ 1 → Chain G x j
        onto x j d (same _ s) q = subst (λ (k : ℕ). Chain G k j) (sym s) (one d)
        onto x j d (other _ s) q = snoc (reach x (rw (get_or-set_other m i x 1 0 s) at q)) d

        go : Visitor G n f (visit_out f G) → (k : ℕ) → get_or m i 0 ≡ k
            → Visited G n m o c i (elim (eqb k 0) as (λ _. Out) [
              | true ↦ finished i (fields_out (visit_out f G) G i (G.fields i) (set m i 1))
              | false ↦ seen (eqb k 2) m
            ])
        go ih zero e =
            let q : suc (fresh (set m i 1)) ≡ fresh m = fresh_set m i 0 (omega (arith, h.size, good.below i si)) e in
            after (fields_out (visit_out f G) G i (G.fields i) (set m i 1))
            (fields good f (visit_out f G) ih i (G.fields i) (omega arith) (set m i 1) o c (pushed m o c i h e si) (omega arith)
            (λ x s j d. onto x j d (eq? x i) s)) e
        go ih (suc zero) e =
            record {
              post = stay-after m o c (seen false m) refl refl refl h;
              here = omega arith;
              done = λ b. let w : ◌≡◌ {A = ℕ} 0 1 = cc in absurd (omega arith);
              fails = λ _. (i, reach i e);
            }
        go ih (suc (suc zero)) e =
            record {
              post = stay-after m o c (seen true m) refl refl refl h;
              here = omega arith;
              done = λ _. omega arith;
              fails = λ b. let w : ◌≡◌ {A = ℕ} 0 1 = cc in absurd (omega arith);
            }
        go ih (suc (suc (suc k))) e = absurd (omega (arith, h.kinds i))

    zeros : (k x : ℕ) → count 0 [] ≡ get_or (replicate k 0) x 0
    zeros zero x = refl
    zeros (suc k) zero = refl
    zeros (suc k) (suc x) = zeros k x

    started : Inv G n (replicate n 0) [] 0
    started =
        record {
          size = length-replicate n 0;
          kinds = λ x. omega (arith, zeros n x);
          listed = λ x. omega (arith, zeros n x);
          structs = λ x m. absurd (omega (arith, zeros n x));
          edges = λ x y m. absurd (omega arith);
          clean = λ _ x y m. absurd (omega arith);
          dirty = λ m. absurd (omega arith);
        }

    -- the first k items
    pub walked : (f : ℕ) → n < f → (k : ℕ) → Walked G n k (items_out f G k (replicate n 0))
    unfolding items_out item_out
    walked f l zero =
        record {
          post = stay-after (replicate n 0) [] 0 (still (replicate n 0)) refl refl refl started;
          ends = λ x. inl (sym (zeros n x));
          all = λ x q. absurd (omega arith);
        }
    walked f l (suc k) = both (items_out f G k (replicate n 0)) (walked f l k) (G.struct k) refl
      where
        both : (a : Out) → Walked G n k a → (b : Bool) → G.struct k ≡ b
            → Walked G n (suc k) (join a (elim b as (λ _. Out) [ true ↦ visit_out f G a.marks k | false ↦ still a.marks ]))
        both a w false e =
            record {
              post = then (replicate n 0) [] 0 a (still a.marks) w.post
                  (stay-after a.marks a.sorted (0 + length a.errors) (still a.marks) refl refl refl w.post.inv);
              ends = w.ends;
              all = λ x q. at_all x q (eq? x k);
            }
          where
            at_all : (x : ℕ) → x < suc k → Eq? x k → T (G.struct x) → get_or a.marks x 0 ≡ 2
            at_all x q (same _ s) t = absurd (subst T e (subst (λ (j : ℕ). T (G.struct j)) s t))
            at_all x q (other _ s) t = w.all x (omega arith) t
        both a w true e =
            add (visit_out f G a.marks k) (visited f a.marks a.sorted (0 + length a.errors) k w.post.inv
            (omega (arith, w.post.less, fresh-zeros n)) (subst T (sym e) tt) (λ x q. absurd (none_open x (w.ends x) q)))
          where
            none_open : (x : ℕ) → (get_or a.marks x 0 ≡ 0) ⊎ (get_or a.marks x 0 ≡ 2) → get_or a.marks x 0 ≡ 1 → ⊥
            none_open x (inl q) r = omega arith
            none_open x (inr q) r = omega arith

            add : (b : Out) → Visited G n a.marks a.sorted (0 + length a.errors) k b → Walked G n (suc k) (join a b)
            add b v =
                record {
                  post = then (replicate n 0) [] 0 a b w.post v.post;
                  ends = λ x. at-ends x (w.ends x) (v.post.moved x);
                  all = λ x q. at_all x q (eq? x k);
                }
              where
                at-ends : (x : ℕ) → (get_or a.marks x 0 ≡ 0) ⊎ (get_or a.marks x 0 ≡ 2) → Moved a.marks b.marks x
                    → (get_or b.marks x 0 ≡ 0) ⊎ (get_or b.marks x 0 ≡ 2)
                at-ends x (inl p) (inl q) = inl (q ∙ p)
                at-ends x (inr p) (inl q) = inr (q ∙ p)
                at-ends x p (inr q) = inr q.1

                at-k : (get_or b.marks k 0 ≡ 0) ⊎ (get_or b.marks k 0 ≡ 2) → get_or b.marks k 0 ≡ 2
                at-k (inl p) = absurd (omega (arith, v.here))
                at-k (inr p) = p

                at_all : (x : ℕ) → x < suc k → Eq? x k → T (G.struct x) → get_or b.marks x 0 ≡ 2
                at_all x q (same _ s) t = rw s (at-k (at-ends k (w.ends k) (v.post.moved k)))
                at_all x q (other _ s) t = let u = w.all x (omega arith) t in kept v.post x (omega arith) ∙ u
