-- The table of targets as it is filled: a set takes the name of each field that has one and keeps what it has, so it has the names of all fields before the
-- next; and the table takes the set of each name that is not found.
-- Assumes nothing.
use Prim.Native.Nat.{ℕ, ◌+◌, ◌<◌}
use mathlib.Core.Path.{◌≡◌, refl, sym, ap, ◌∙◌, subst}
use mathlib.Core.Bool.{true, false, ◌||◌}
use mathlib.Core.List.{List, []}
use native.Mathlib.Omega.{arith}
use lib.Dec.{eqb}
use lib.ListN.{length, length-set, get_or, set}
use lib.Seq.{get_or-set_same, get_or-set_other}
use Rattle.rules.specs.Numbers.{name_count}
use Rattle.rules.specs.declared.NameSet.{NameSet}
use Rattle.rules.specs.Names.{Words, ◌∋◌, add}
use Rattle.rules.specs.Types.{types_of}
use Rattle.rules.specs.Improper.{Look, fine, bad, to, looks_look}
use Rattle.laws.proofs.Base.Counts.{Eq?, same, other, eq?, eqb_same}
use Rattle.laws.proofs.Base.Tests.{never, or-true}
use Rattle.laws.proofs.Names.NameSets.{has-add, length-add}
use Rattle.row_tables.specs.declared.looks.Look.{Look as Entry}
use Rattle.row_tables.specs.declared.looks.Look.TheVariants.{Name, Improper, Proper}
use Rattle.row_tables.specs.Tables.{look_of}
use Rattle.improper.specs.Targets.{set_at, LeadsTo, Leads, LeadsBelow}

-- ## A set

-- the set with the look's name, where it has one
pub record Took (before : Words) (look : Entry) (after : Words) : Type 0 where
  pub long : length after ≡ 4
  pub keeps : (j : ℕ) → before ∋ j ≡ true → after ∋ j ≡ true
  pub has : (j : ℕ) → look_of look ≡ to j → after ∋ j ≡ true

abbrev name_of : Look → ℕ
name_of fine = name_count
name_of bad = name_count
name_of (to j) = j

pub took-name : (w : Words) (c : ℕ) {v : Words} → c < name_count → v ≡ add w c → length w ≡ 4 → Took w (Name c) v
took-name w c l e long =
    rw e (record {
      long = length-add w c ∙ long;
      keeps = λ j h. has-add w c j long l ∙ ap (λ b. eqb j c || b) h ∙ or-true (eqb j c);
      has = λ j h. let q : c ≡ j = ap name_of h in rw (← q) (has-add w c c long l ∙ rw (eqb_same c));
    })

-- a look without a name
pub took-none : (w : Words) (c : Entry) → ((n : ℕ) → c ≡ Name n → ⊥) → length w ≡ 4 → Took w c w
took-none w c none long = record { long = long; keeps = λ j h. h; has = λ j h. absurd (other c none j h) }
  where
    other : (c : Entry) → ((n : ℕ) → c ≡ Name n → ⊥) → (j : ℕ) → look_of c ≡ to j → ⊥
    other (Name n) none j h = none n refl
    other Improper none j h = cc
    other Proper none j h = cc

-- field k is taken
pub leads-on : (s : List ℕ) (n k : ℕ) (w : Words) (c : Entry) (v : Words) → LeadsTo s n k w → Took w c v → look_of c ≡ looks_look s (types_of s) n k
    → LeadsTo s n (k + 1) v
leads-on s n k w c v so_far took e x j l h = by (eq? x k)
  where
    by : Eq? x k → v ∋ j ≡ true
    by (same _ q) = took.has j (e ∙ ap (looks_look s (types_of s) n) (sym q) ∙ h)
    by (other _ q) = took.keeps j (so_far x j (omega arith) h)

-- ## The table

module _ (s : List ℕ) (found : Words) (n : ℕ) (t : List NameSet) (so_far : LeadsBelow s found n t) where
  pub below-found : found ∋ n ≡ true → LeadsBelow s found (n + 1) t
  below-found e = record { long = so_far.long; rows = λ x l h. by x l h (eq? x n) }
    where
      by : (x : ℕ) → x < n + 1 → found ∋ x ≡ false → Eq? x n → Leads s x (set_at t x)
      by x l h (same _ q) = never (sym (rw q at h) ∙ e)
      by x l h (other _ q) = so_far.rows x (omega arith) h

  abbrev none : NameSet
  none = record { words = [] }

  pub below_on : (w : NameSet) → n < 256 → Leads s n w.words → LeadsBelow s found (n + 1) (set t n w)
  below_on w m e = record { long = length-set t n w ∙ so_far.long; rows = λ x l h. by x l h (eq? x n) }
    where
      by : (x : ℕ) → x < n + 1 → found ∋ x ≡ false → Eq? x n → Leads s x (set_at (set t n w) x)
      by x l h (same _ q) =
          let long : length t ≡ 256 = so_far.long in
          let here : get_or (set t n w) n none ≡ w = get_or-set_same t n w none (omega arith) in
          subst (λ (y : ℕ). Leads s y (set_at (set t n w) y)) (sym q) (subst (λ (v : NameSet). Leads s n v.words) (sym here) e)
      by x l h (other _ q) = subst (λ (v : NameSet). Leads s x v.words) (sym (get_or-set_other t n x w none q)) (so_far.rows x (omega arith) h)
