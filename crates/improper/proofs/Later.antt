-- Why a pass after the first may skip a name: the first leaves out only names without a field that is improper by itself, and no pass takes a name away. So a
-- field that hits leads to a name found, and where the targets share no name with those found, there is none.
-- Assumes nothing.
use Prim.Native.Nat.{ℕ, zero, suc, ◌≤◌, ◌<◌}
use mathlib.Core.Path.{◌≡◌, refl, sym, ap, ◌∙◌, subst}
use mathlib.Core.Bool.{Bool, true, false}
use mathlib.Core.List.{List}
use native.Mathlib.Numerals.{add-one}
use native.Mathlib.Omega.{arith}
use lib.Dec.{eqb}
use lib.ListN.{length}
use denote.Ref.{Bor}
use Rattle.std.specs.Prelude.{Option, Some, None}
use Rattle.rules.specs.declared.NameSet.{NameSet}
use Rattle.rules.specs.Names.{Words, ◌∋◌, add}
use Rattle.rules.specs.Types.{types_of}
use Rattle.rules.specs.Improper.{Look, fine, bad, to, Looks, looks_fields, looks_look, looks_of, hits, is_new, pass_to}
use Rattle.laws.proofs.Base.Counts.{Eq?, same, other, eq?}
use Rattle.laws.proofs.Base.Tests.{never, neither}
use Rattle.laws.proofs.Names.NameSets.{has-add}
use Rattle.laws.proofs.Names.ImproperSearch.{passed}
use Rattle.improper.specs.Post.{Passes}
use Rattle.improper.specs.Targets.{set_at, Apart, LeadsBelow, Skips, NoneBad, Later, LaterBy}
use Rattle.improper.proofs.PassTurns.{found_in, found-start, found-on, found-hit}

module _ (s : List ℕ) where
  abbrev g : Looks
  g = looks_of s (types_of s)

  -- ## What a pass leaves out

  -- the names left out by a pass over those below k were out before, and have no field that is improper by itself
  record LeavesOut (before : Words) (k : ℕ) (after : Words) : Type 0 where
    out : (x : ℕ) → after ∋ x ≡ false → before ∋ x ≡ false
    none_bad : (x : ℕ) → x < k → after ∋ x ≡ false → NoneBad s x

  module _ (b w : Words) (k : ℕ) (long : length w ≡ 4) (l : k < 256) (h : LeavesOut b k w) where
    no-bad-field : is_new g w k ≡ false → w ∋ k ≡ false → NoneBad s k
    unfolding is_new
    no-bad-field e o i m f =
        let none : found_in s w k (looks_fields s (types_of s) k) ≡ false = rw o at e in
        never (sym none ∙ found-hit s w k i (looks_fields s (types_of s) k) m (ap (hits w) f))

    stays_out : is_new g w k ≡ false → LeavesOut b (suc k) w
    stays_out e = record { out = h.out; none_bad = λ x m o. by x m o (eq? x k) }
      where
        by : (x : ℕ) → x < suc k → w ∋ x ≡ false → Eq? x k → NoneBad s x
        by x m o (same _ q) = subst (NoneBad s) (sym q) (no-bad-field e (rw q at o))
        by x m o (other _ q) = h.none_bad x (omega arith) o

    enters : LeavesOut b (suc k) (add w k)
    enters = record { out = λ x o. h.out x (was x o).1; none_bad = λ x m o. by x m o (eq? x k) }
      where
        was : (x : ℕ) → add w k ∋ x ≡ false → (eqb x k ≡ false) × (w ∋ x ≡ false)
        was x o = neither (eqb x k) (w ∋ x) (sym (has-add w k x long l) ∙ o)

        by : (x : ℕ) → x < suc k → add w k ∋ x ≡ false → Eq? x k → NoneBad s x
        by x m o (same q _) = never (sym (was x o).0 ∙ q)
        by x m o (other _ q) = h.none_bad x (omega arith) (was x o).1

  leaves-out : (k : ℕ) → k ≤ 256 → (b : Words) → length b ≡ 4 → LeavesOut b k (pass_to g k b).0
  unfolding pass_to
  leaves-out zero l b long = record { out = λ x o. o; none_bad = λ x m o. absurd (omega arith) }
  leaves-out (suc k) l b long = go (is_new g w k) refl (leaves-out k (omega arith) b long)
    where
      r : Words × Bool
      r = pass_to g k b

      w : Words
      w = r.0

      wide : length w ≡ 4
      wide = (passed g k (omega arith) b long).four

      go : (a : Bool) → is_new g w k ≡ a → LeavesOut b k w
          → LeavesOut b (suc k) (elim a as (λ _. Words × Bool) [ true ↦ (add w k, true) | false ↦ r ]).0
      go true e h = enters b w k wide l h
      go false e h = stays_out b w k wide l h e

  -- ## From pass to pass

  module _ (b : Words) (long : length b ≡ 4) (w : Words) (new : Bool) where
    leaves : (k : ℕ) → k ≤ 256 → Passes s b k w new → LeavesOut b k w
    leaves k l p = rw p.names (leaves-out k l b long)

    -- no pass takes a name away
    pub still-out : (k : ℕ) → k ≤ 256 → Passes s b k w new → (x : ℕ) → w ∋ x ≡ false → b ∋ x ≡ false
    still-out k l p = (leaves k l p).out

    module _ (t : List NameSet) (p : Passes s b 256 w new) where
      pub later_first : LeadsBelow s w 256 t → Later s w t
      later_first leads = record { leads = leads; none_bad = (leaves 256 (omega arith) p).none_bad }

      pub later-on : Later s b t → Later s w t
      later-on later =
          let out = still-out 256 (omega arith) p in
          record {
            leads = record { long = later.leads.long; rows = λ x l o. later.leads.rows x l (out x o) };
            none_bad = λ x l o. later.none_bad x l (out x o);
          }

  -- ## Skipping

  found_none : (w : Words) (n m : ℕ) → ((k : ℕ) → k < m → hits w (looks_look s (types_of s) n k) ≡ false) → found_in s w n m ≡ false
  found_none w n zero h = found-start s w n
  found_none w n (suc m) h =
      subst (λ (k : ℕ). found_in s w n k ≡ false) (add-one m) (found-on s w n m (found_none w n m (λ k l. h k (omega arith))) (h m (omega arith)))

  -- b are the names found before the pass, w those found so far
  pub skipped : (b w : Words) (t : List NameSet) (n : ℕ) → Later s b t → Apart (set_at t n) w → n < 256 → b ∋ n ≡ false
      → found_in s w n (looks_fields s (types_of s) n) ≡ false
  skipped b w t n later apart l e = found_none w n (looks_fields s (types_of s) n) (λ k m. by k m (looks_look s (types_of s) n k) refl)
    where
      by : (k : ℕ) → k < looks_fields s (types_of s) n → (a : Look) → looks_look s (types_of s) n k ≡ a → hits w a ≡ false
      by k m fine q = refl
      by k m bad q = absurd (later.none_bad n l e k m q)
      by k m (to j) q = apart j ((later.leads.rows n l e).has k j m q)

  -- as a pass asks it, with a table or none
  pub skipped_by : (b w : Words) (t : Option (Bor (List NameSet))) (n : ℕ) → LaterBy s b t → Skips t n w → n < 256 → b ∋ n ≡ false
      → found_in s w n (looks_fields s (types_of s) n) ≡ false
  skipped_by b w None n later skips l e = absurd skips
  skipped_by b w (Some t) n later skips l e = skipped b w t.now n later skips l e
