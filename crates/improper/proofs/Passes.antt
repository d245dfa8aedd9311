-- Passes until one finds none: the set of each is that of the definition's search, and each pass that finds a name leaves fewer names to find.
-- Assumes nothing.
use Prim.Native.Nat.{ℕ, zero, suc, ◌<◌}
use mathlib.Core.Path.{◌≡◌, refl, sym, ap, ◌∙◌}
use mathlib.Core.Bool.{Bool, true, false}
use mathlib.Core.List.{List}
use native.Mathlib.Omega.{arith}
use lib.ListN.{length}
use Rattle.rules.specs.Format.{Accepted}
use Rattle.rules.specs.Names.{Words, empty, ◌∋◌}
use Rattle.rules.specs.Types.{types_of}
use Rattle.rules.specs.Improper.{looks_of, pass_to, search, improper_of}
use Rattle.laws.proofs.Base.Tests.{never}
use Rattle.laws.proofs.Base.Counts.{free-le}
use Rattle.laws.proofs.Names.ImproperSearch.{left, Passed, passed}
use Rattle.laws.proofs.Rule3.Due.{improper-rule}
use Rattle.improper.specs.Post.{Passes, Searched}

abbrev pass_of : (s : List ℕ) → Words → Words × Bool
pass_of s w = pass_to (looks_of s (types_of s)) 256 w

abbrev search_from : (s : List ℕ) → (f : ℕ) → Words → Words
search_from s f w = search (looks_of s (types_of s)) f w

-- after some passes, of which the last found a name or not
pub record Searching (s : List ℕ) (w : Words) (new : Bool) : Type 0 where
  pub size : length w ≡ 4
  pub going : new ≡ true → (f : ℕ) × (left w < f) × (improper_of s (types_of s) ≡ search_from s f w)
  pub done : new ≡ false → w ≡ improper_of s (types_of s)

pub searching-start : (s : List ℕ) (w : Words) → w ≡ empty → Searching s w true
unfolding improper_of
searching-start s w e = rw e (record { size = refl; going = λ _. (257, omega (arith, free-le 256 (λ n. empty ∋ n)), refl); done = λ b. never (sym b) })

module _ (s : List ℕ) (w : Words) (long : length w ≡ 4) where
  pass : Passed (looks_of s (types_of s)) w (pass_of s w).0 (pass_of s w).1
  pass = passed (looks_of s (types_of s)) 256 (omega arith) w long

  -- a pass that found a name, and one that found none
  pass_on : (f : ℕ) → left w < f → improper_of s (types_of s) ≡ search_from s f w → (pass_of s w).1 ≡ true
      → (g : ℕ) × (left (pass_of s w).0 < g) × (improper_of s (types_of s) ≡ search_from s g (pass_of s w).0)
  unfolding search
  pass_on zero l e q = absurd (omega arith)
  pass_on (suc f) l e q = (f, omega (arith, pass.fewer q), e ∙ rw (search, q))

  pass-done : (f : ℕ) → left w < f → improper_of s (types_of s) ≡ search_from s f w → (pass_of s w).1 ≡ false → (pass_of s w).0 ≡ improper_of s (types_of s)
  unfolding search
  pass-done zero l e q = absurd (omega arith)
  pass-done (suc f) l e q = sym (e ∙ rw (search, q))

module _ (s : List ℕ) (w : Words) (h : Searching s w true) (w' : Words) (new' : Bool) (p : Passes s w 256 w' new') where
  pub searching-on : Searching s w' new'
  searching-on =
      let r = h.going refl in
      record {
        size = ap length p.names ∙ (pass s w h.size).four;
        going = λ b. rw p.names (pass_on s w h.size r.0 r.1 r.2 (sym p.found ∙ b));
        done = λ b. p.names ∙ pass-done s w h.size r.0 r.1 r.2 (sym p.found ∙ b);
      }

  pub searching-less : new' ≡ true → left w' < left w
  searching-less b = rw p.names ((pass s w h.size).fewer (sym p.found ∙ b))

pub searched : (s : List ℕ) → Accepted s → (w : Words) → w ≡ improper_of s (types_of s) → Searched s w
searched s acc w e = record { words = e; rule = rw e (improper-rule s acc) }
