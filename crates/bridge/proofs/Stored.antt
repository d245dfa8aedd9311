-- What `run` leaves in a buffer in which any report has room, and `store` makes of it, is what the call promises: all records are in the buffer, so what the
-- list gets of the buffer it gets of the report.
-- Assumes nothing.
use mathlib.Core.Path.{◌≡◌, refl, sym, ◌∙◌, ap, subst}
use Prim.Native.Nat.{ℕ, ◌≤◌, ◌*◌}
use native.Mathlib.Omega.{arith}
use mathlib.Core.List.{List}
use lib.ListN.{length}
use lib.Seq.{sets}
use Rattle.std.specs.Prelude.{Ok, Err}
use Rattle.rules.specs.Format.{Step}
use Rattle.rules.specs.Numbers.{record_size, report_size}
use Rattle.rules.specs.declared.Diagnostic.{Diagnostic}
use Rattle.rules.specs.declared.Answer.{Answer}
use Rattle.rules.specs.Answer.{read_with}
use Rattle.rules.specs.Answer as rule
use Rattle.rules.specs.Diagnostics.{Small}
use Rattle.rules.specs.Report.{report}
use Rattle.rules.specs.Rule3.{Rule3, Tiers3}
use Rattle.rules.specs.UnpinRule.{UnpinRule}
use Rattle.laws.proofs.Base.Forms.{All, none}
use Rattle.laws.proofs.Sheet.Accepted.{accepted-is}
use Rattle.laws.proofs.Report.SmallReport.{small-report}
use Rattle.laws.proofs.Report.Bounds.Total.{total-few}
use Rattle.laws.proofs.Rule3.Outcomes.{number_is, position-is}
use Rattle.laws.proofs.Rule3.Due.{due}
use Rattle.laws.proofs.Unpin.Due.{unpin-due}
use Rattle.errors.specs.Sink.{kept}
use Rattle.windows.specs.Windows.{stored}
use Rattle.windows.proofs.Stores.{kept-stored}
use Rattle.bridge_core.specs.Run.{records_by, records_of, Ran}
use Rattle.bridge_core.proofs.RunLaws.{total-is, call-answer, call-scratch, call-list}
use Rattle.bridge.specs.Call.{Called}

-- ## The records of a report

-- they fit a record's fields
small-records : (s : List ℕ) (k : ℕ) → All Small (records_of s k)
unfolding records_by
small-records s k = go (read_with k s) refl
  where
    go : (v : Step) → read_with k s ≡ v → All Small (records_by v s)
    go (Err r) e = none
    go (Ok e) h = small-report s (accepted-is k s e h)

-- and they are few
few-records : (s : List ℕ) (k : ℕ) → length (records_of s k) ≤ report_size
unfolding records_by
few-records s k = go (read_with k s) refl
  where
    go : (v : Step) → read_with k s ≡ v → length (records_by v s) ≤ report_size
    go (Err r) e = omega arith
    go (Ok e) h = omega (arith, total-few s (accepted-is k s e h))

-- ## The call

module _ (sh sc : List ℕ) (ys : List Diagnostic) (zs : List ℕ) (long : length zs ≡ record_size * report_size) where
  abbrev ds : List Diagnostic
  ds = records_of sh (length sc)

  all-stored : (n : ℕ) (out' : List ℕ) (ws : List Diagnostic) → n ≡ length ds → out' ≡ kept 0 ds zs → ws ≡ sets ys 0 (stored n out')
      → ws ≡ (rule.call sh sc ys).list
  all-stored n out' ws total window e =
      e ∙ ap (λ (m : ℕ). sets ys 0 (stored m out')) total
      ∙ ap (λ (l : List ℕ). sets ys 0 (stored (length ds) l)) window
      ∙ ap (λ (l : List Diagnostic). sets ys 0 l) (kept-stored ds (small-records sh (length sc)) zs (omega (arith, few-records sh (length sc))))
      ∙ call-list sh sc ys

  pub called : (r : Answer) (sc' out' : List ℕ) (ws : List Diagnostic) → Ran sh sc zs 0 r sc' out' → ws ≡ sets ys 0 (stored r.total out')
      → Called sh sc ys r sc' ws
  called r sc' out' ws ran e =
      let total : r.total ≡ length ds = ap (λ (a : Answer). a.total) ran.answer ∙ total-is sh (length sc) in
      let answer : r ≡ (rule.call sh sc ys).answer = ran.answer ∙ call-answer sh sc ys in
      let verdict : r.verdict ≡ (rule.call sh sc ys).answer.verdict = ap (λ (x : Answer). x.verdict) answer in
      record {
        answer = answer;
        list = all-stored r.total out' ws total ran.window e;
        scratch = ran.scratch ∙ call-scratch sh sc ys;
        number = ap rule.number_of verdict ∙ number_is sh sc ys;
        position = ap rule.position_of verdict ∙ position-is sh sc ys;
        rule3 = λ h. subst (λ (x : Answer). Rule3 sh x (report sh)) (sym answer) (due sh sc ys (sym verdict ∙ h)).0;
        tiers = λ h. subst (λ (x : Answer). Tiers3 sh x.tiers) (sym answer) (due sh sc ys (sym verdict ∙ h)).1;
        unpin = λ h. subst (λ (x : Answer). UnpinRule sh x.unpin) (sym answer) (unpin-due sh sc ys (sym verdict ∙ h)).0;
      }
