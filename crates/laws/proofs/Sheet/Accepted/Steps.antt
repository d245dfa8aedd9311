-- The reader's steps, read backwards: what holds of the pairs that a step passed over, and where it ended.
-- Assumes nothing.
use Prim.Native.Nat.{ℕ, zero, suc, ◌+◌, ◌*◌, ◌≤◌, ◌<◌}
use mathlib.Core.Path.{◌≡◌, refl, sym}
use mathlib.Core.List.{List}
use mathlib.Core.Logic.{◌⊎◌, inl, inr}
use mathlib.Core.Bool.{Bool, true, false, ◌||◌, ◌&&◌}
use native.Mathlib.Omega.{arith}
use lib.ListN.{length, get_or}
use lib.Dec.{ltb, leb, eqb}
use borrow.Author.Tests.{ltb-true, leb-true, eqb-true}
use Rattle.rules.specs.Numbers.{no_row}
use Rattle.std.specs.Prelude.{Ok, Err}
use Rattle.rules.specs.declared.Refusal.{Refusal}
use Rattle.rules.specs.declared.Fault.{Fault}
use Rattle.rules.specs.declared.Fault.TheVariants.{Misplaced, BadValue, BadRow}
use Rattle.rules.specs.Format.{Step, check, after, ◌>>◌, end, each, pair_at, offset, one, limited, or_none, times, list, type_head, repr, variants, receivers}
use Rattle.rules.specs.Format.{receiver}
use Rattle.rules.specs.View.{kind, past, entry}
use Rattle.laws.specs.Kinds.{RowOrNone}
use Rattle.laws.proofs.Base.Tests.{or_is, both-are}

-- a refusal is no place
refused : {A : Type 0} {r : Refusal} {q : ℕ} → ◌≡◌ {A = Step} (Err r) (Ok q) → A
refused h = absurd (let z : ◌≡◌ {A = ℕ} 0 1 = cc in omega arith)

next-is : {p q : ℕ} → ◌≡◌ {A = Step} (Ok p) (Ok q) → p ≡ q
next-is h = cc

pub after_is : (m : Step) (k : ℕ → Step) {q : ℕ} → after m k ≡ Ok q → (p : ℕ) × (m ≡ Ok p) × (k p ≡ Ok q)
after_is (Ok p) k h = (p, refl, h)
after_is (Err r) k h = refused h

pub check-is : (b : Bool) (w : Fault) (p : ℕ) {at q : ℕ} → check b w p at ≡ Ok q → (b ≡ true) × (at ≡ q)
check-is true w p h = (refl, next-is h)
check-is false w p h = refused h

-- ## What a step gives, where it went from a place to a place

pub record Reads (m : ℕ → Step) (P : ℕ → ℕ → Type 0) : Type 0 where
  pub of : (at : ℕ) {q : ℕ} → m at ≡ Ok q → P at q

-- one after the other
pub ◌then◌ : {m k : ℕ → Step} {P Q : ℕ → ℕ → Type 0} → Reads m P → Reads k Q → Reads (m >> k) (λ at q. (p : ℕ) × P at p × Q p q)
◌then◌ {m} {k} a b = record { of = λ at h. let c = after_is (m at) k h in (c.0, a.of at c.1, b.of c.0 c.2) }

infixl 20 ◌then◌
pub nothing_read : Reads end (λ at q. q ≡ at)
nothing_read = record { of = λ at h. sym (next-is h) }

module _ (s : List ℕ) where
  -- a list: its count is allowed, and so is each entry, which stands inside the sheet
  pub record ListAt (most limit at : ℕ) : Type 0 where
    pub few : pair_at s at ≤ most
    pub each : (j : ℕ) → j < pair_at s at → entry s at j < limit
    pub inside : (j : ℕ) → j < pair_at s at → at + 4 + 2 * j ≤ length s

  one-reads : (w : Fault) (ok : ℕ → Bool) → Reads (one s w ok) (λ at q. (ok (pair_at s at) ≡ true) × (q ≡ at + 2))
  unfolding one
  one-reads w ok =
      record {
        of = λ at h.
            let rest : ℕ → Step = λ _. after (check (ok (pair_at s at)) w at at) (λ _. Ok (at + 2)) in
            let a = after_is (check (leb (at + 2) (length s)) Misplaced (length s) at) rest h in
            let b = after_is (check (ok (pair_at s at)) w at at) (λ _. Ok (at + 2)) a.2 in
            ((check-is (ok (pair_at s at)) w at b.1).0, sym (next-is b.2));
      }

  -- a pair is read within the sheet
  pub limited-within : (w : Fault) (n at : ℕ) {q : ℕ} → limited s w n at ≡ Ok q → at + 2 ≤ length s
  unfolding limited one
  limited-within w n at h =
      let rest : ℕ → Step = λ _. after (check (ltb (pair_at s at) n) w at at) (λ _. Ok (at + 2)) in
      let a = after_is (check (leb (at + 2) (length s)) Misplaced (length s) at) rest h in
      leb-true (at + 2) (length s) (check-is (leb (at + 2) (length s)) Misplaced (length s) a.1).0

  pub limited-reads : (w : Fault) (n : ℕ) → Reads (limited s w n) (λ at q. (pair_at s at < n) × (q ≡ at + 2))
  unfolding limited
  limited-reads w n = record { of = λ at h. let a = (one-reads w (λ v. ltb v n)).of at h in (ltb-true (pair_at s at) n a.0, a.1) }

  pub or_none-reads : (n : ℕ) → Reads (or_none s n) (λ at q. RowOrNone n (pair_at s at) × (q ≡ at + 2))
  unfolding or_none
  or_none-reads n =
      record {
        of = λ at h. let a = (one-reads BadRow (λ v. eqb v no_row || ltb v n)).of at h in
            (by (pair_at s at) (or_is (eqb (pair_at s at) no_row) (ltb (pair_at s at) n) a.0), a.1);
      }
    where
      by : (v : ℕ) → (eqb v no_row ≡ true) ⊎ (ltb v n ≡ true) → RowOrNone n v
      by v (inl e) = inl (eqb-true v no_row e)
      by v (inr e) = inr (ltb-true v n e)

  pub times-reads : (w : Fault) (n k : ℕ) → Reads (times s (limited s w n) k) (λ at q. ((j : ℕ) → j < k → pair_at s (at + 2 * j) < n) × (q ≡ at + 2 * k))
  unfolding times
  times-reads w n zero = record { of = λ at h. let e = next-is h in (λ j l. absurd (omega arith), omega arith) }
  times-reads w n (suc k) = record { of = λ at {q} h. go at q ((limited-reads w n then times-reads w n k).of at h) }
    where
      at_j : (at p : ℕ) → pair_at s at < n → p ≡ at + 2 → ((j : ℕ) → j < k → pair_at s (p + 2 * j) < n) → (j : ℕ) → j < suc k → pair_at s (at + 2 * j) < n
      at_j at p a e f zero l = let z : at + 2 * 0 ≡ at = omega arith in rw z a
      at_j at p a e f (suc j) l = let z : p + 2 * j ≡ at + 2 * suc j = omega arith in rw z at (f j (omega arith))

      go : (at q : ℕ) → (p : ℕ) × ((pair_at s at < n) × (p ≡ at + 2)) × (((j : ℕ) → j < k → pair_at s (p + 2 * j) < n) × (q ≡ p + 2 * k))
          → ((j : ℕ) → j < suc k → pair_at s (at + 2 * j) < n) × (q ≡ at + 2 * suc k)
      go at q a = (at_j at a.0 a.1.0 a.1.1 a.2.0, omega (arith, a.1.1, a.2.1))

  times-within : (w : Fault) (n k at : ℕ) {q : ℕ} → times s (limited s w n) k at ≡ Ok q → (j : ℕ) → j < k → at + 2 + 2 * j ≤ length s
  unfolding times
  times-within w n zero at h j l = absurd (omega arith)
  times-within w n (suc k) at h zero l = omega (arith, limited-within w n at (after_is (limited s w n at) (times s (limited s w n) k) h).1)
  times-within w n (suc k) at h (suc j) l =
      let a = after_is (limited s w n at) (times s (limited s w n) k) h in
      omega (arith, ((limited-reads w n).of at a.1).1, times-within w n k a.0 a.2 j (omega arith))

  pub list-reads : (most : ℕ) (w : Fault) (n : ℕ) → Reads (list s most w n) (λ at q. ListAt most n at × (q ≡ past s at))
  unfolding list past entry
  list-reads most w n =
      record {
        of = λ at h.
            let a = after_is (limited s BadValue (most + 1) at) (times s (limited s w n) (pair_at s at)) h in
            let b = (limited-reads BadValue (most + 1)).of at a.1 in
            let c = (times-reads w n (pair_at s at)).of a.0 a.2 in
            let d = times-within w n (pair_at s at) a.0 a.2 in
            (record { few = omega (arith, b.0); each = rw b.1 at c.0; inside = λ j l. omega (arith, b.1, d j l) }, rw b.1 at c.1);
      }

  -- a name, lifetimes and derives
  pub record HeadAt (at : ℕ) : Type 0 where
    pub name : pair_at s at < 256
    pub lifetimes : ListAt 8 256 (at + 2)
    pub derives : ListAt 16 15 (past s (at + 2))

  pub head-reads : Reads (type_head s) (λ at q. HeadAt at × (q ≡ past s (past s (at + 2))))
  unfolding type_head
  head-reads =
      record {
        of = λ at h.
            let a = (limited-reads BadValue 256 then list-reads 8 BadValue 256 then list-reads 16 BadValue 15).of at h in
            let p = a.1.1.1 in
            let q : a.0 ≡ past s (at + 2) = rw p at a.1.2.1 in
            (record { name = a.1.1.0; lifetimes = rw p at a.1.2.0; derives = rw q at a.2.0 }, rw q at a.2.1);
      }

  pub repr-reads : (T : ℕ) → Reads (repr s T) (λ at q. ((pair_at s at < T) × (kind s (pair_at s at) ≡ 0)) × (q ≡ at + 2))
  unfolding repr kind
  repr-reads T =
      record {
        of = λ at h.
            let v = pair_at s at in
            let a = (one-reads BadRow (λ v. ltb v T && eqb (pair_at s (offset s v)) 0)).of at h in
            let b = both-are (ltb v T) (eqb (pair_at s (offset s v)) 0) a.0 in
            ((ltb-true v T b.0, eqb-true (pair_at s (offset s v)) 0 b.1), a.1);
      }

  pub variants-reads : Reads (variants s) (λ at q. ((pair_at s at ≤ 255) × (pair_at s (at + 2) ≤ pair_at s at)) × (q ≡ at + 4))
  unfolding variants
  variants-reads =
      record {
        of = λ at h.
            let a = after_is (limited s BadValue 256 at) (limited s BadValue (pair_at s at + 1)) h in
            let b = (limited-reads BadValue 256).of at a.1 in
            let c = (limited-reads BadValue (pair_at s at + 1)).of a.0 a.2 in
            let d : pair_at s (at + 2) < pair_at s at + 1 = rw b.1 at c.0 in
            ((omega (arith, b.0), omega arith), omega (arith, b.1, c.1));
      }

  -- free, associated and a name, or method with a name and flags
  pub record ReceiverAt (at : ℕ) : Type 0 where
    pub known : pair_at s at < 3
    pub named : (pair_at s at ≡ 0 → ⊥) → pair_at s (at + 2) < 256

  receivers-read : (v : ℕ) → v < 3 → Reads (get_or (receivers s) v end) (λ at q. ((v ≡ 0 → ⊥) → pair_at s at < 256) × (q ≡ at + 2 * v))
  unfolding receivers
  receivers-read zero l = record { of = λ at h. let e = nothing_read.of at h in (λ n. absurd (n refl), omega arith) }
  receivers-read (suc zero) l = record { of = λ at h. let a = (limited-reads BadValue 256).of at h in (λ _. a.0, omega (arith, a.1)) }
  receivers-read (suc (suc zero)) l =
      record { of = λ at h. let a = (limited-reads BadValue 256 then limited-reads BadValue 4).of at h in (λ _. a.1.0, omega (arith, a.1.1, a.2.1)) }
  receivers-read (suc (suc (suc v))) l = absurd (omega arith)

  pub receiver-reads : Reads (receiver s) (λ at q. ReceiverAt at × (q ≡ at + 2 + 2 * pair_at s at))
  unfolding receiver
  receiver-reads =
      record {
        of = λ at h.
            let v = pair_at s at in
            let a = after_is (limited s BadValue 3 at) (get_or (receivers s) v end) h in
            let b = (limited-reads BadValue 3).of at a.1 in
            let c = (receivers-read v b.0).of a.0 a.2 in
            (record { known = b.0; named = rw b.1 at c.0 }, rw b.1 at c.1);
      }

-- ## Bodies, one behind the other

-- body i + j, of the first n that begin at body i, was read from `start j` to `start (suc j)`
pub record EachRead (P : ℕ → ℕ → Step) (n i at q : ℕ) : Type 0 where
  pub start : ℕ → ℕ
  pub first : start 0 ≡ at
  pub last : start n ≡ q
  pub body : (j : ℕ) → j < n → P (i + j) (start j) ≡ Ok (start (suc j))

pub each_read : (P : ℕ → ℕ → Step) (n i at : ℕ) {q : ℕ} → each P n i at ≡ Ok q → EachRead P n i at q
unfolding each
each_read P zero i at h = record { start = λ _. at; first = refl; last = next-is h; body = λ j l. absurd (omega arith) }
each_read P (suc n) i at {q} h = let a = after_is (P i at) (each P n (i + 1)) h in go a.0 a.1 (each_read P n (i + 1) a.0 a.2)
  where
    go : (p : ℕ) → P i at ≡ Ok p → EachRead P n (i + 1) p q → EachRead P (suc n) i at q
    go p e r = record { start = start; first = refl; last = r.last; body = body }
      where
        start : ℕ → ℕ
        start zero = at
        start (suc j) = r.start j

        body : (j : ℕ) → j < suc n → P (i + j) (start j) ≡ Ok (start (suc j))
        body zero l = let z : i + 0 ≡ i = omega arith in rw (z, r.first) e
        body (suc j) l = let z : i + 1 + j ≡ i + suc j = omega arith in rw z at (r.body j (omega arith))
