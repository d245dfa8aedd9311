-- Rule 3 and the tier rule, of each call that is answered accepted: fields with a plain name are tied to the graph that is walked (PlainFields), and the rules
-- of every such relation (Rule3Order) are the rules of the answer.
-- Assumes nothing.
use Prim.Native.Nat.{ℕ}
use mathlib.Core.Path.{◌≡◌, ap, ◌∙◌}
use mathlib.Core.List.{List}
use lib.ListN.{length}
use Rattle.std.specs.Prelude.{Ok}
use Rattle.rules.specs.declared.Diagnostic.{Diagnostic}
use Rattle.rules.specs.Format.{Step, Accepted}
use Rattle.rules.specs.View.{items}
use Rattle.rules.specs.Types.{types_of}
use Rattle.rules.specs.Order.{graph_of, walk_of}
use Rattle.rules.specs.Tiers.{tiers_of}
use Rattle.rules.specs.Improper.{improper_of}
use Rattle.rules.specs.declared.Answer.{Answer}
use Rattle.rules.specs.Answer.{Outcome, places, accepted, sets_of, read_with, call}
use Rattle.rules.specs.Report.{report, report_of}
use Rattle.rules.specs.Rule3.{Holds, OrderRule, ImproperRule, Rule3, Tiers3, Due}
use Rattle.laws.proofs.Sheet.Accepted.{accepted-is}
use Rattle.laws.proofs.Rule3.PlainFields.{plain}
use Rattle.laws.proofs.Rule3.Order.{order-rule, tier-rule}
use Rattle.laws.proofs.Rule3.Cyclic.{cyclic-is}
use Rattle.laws.proofs.Rule3.Improper.{improper-is}
use Rattle.laws.proofs.Rule3.Outcomes.{outcome, call-is, passed}

module _ (s : List ℕ) (acc : Accepted s) where
  unfoldable pub answered : Answer
  answered = accepted s (types_of s) (walk_of s (types_of s)) (report_of s (types_of s) (walk_of s (types_of s)))

  pub plain-order : OrderRule s (Holds s) (places (walk_of s (types_of s)).sorted)
  unfolding walk_of
  plain-order = order-rule s (graph_of s (types_of s)) (Holds s) (plain s acc)

  pub plain-tiers : Tiers3 s (places (tiers_of (graph_of s (types_of s)) (items s)))
  plain-tiers = tier-rule s (graph_of s (types_of s)) (Holds s) (plain s acc)

  pub improper-rule : ImproperRule s (improper_of s (types_of s))
  improper-rule = record { improper = improper-is s acc }

  pub rule3 : Rule3 s answered (report s)
  unfolding answered accepted sets_of
  rule3 = record { order = plain-order; cyclic = cyclic-is s acc; improper = improper-rule }

  pub tiers3 : Tiers3 s answered.tiers
  unfolding answered accepted
  tiers3 = plain-tiers

  pub answer-is : (scratch : List ℕ) (list : List Diagnostic) (e : ℕ) → read_with (length scratch) s ≡ Ok e → (call s scratch list).answer ≡ answered
  unfolding outcome answered
  answer-is scratch list e h = ap (λ (o : Outcome). o.answer) (call-is s scratch list) ∙ ap (λ (v : Step). (outcome s scratch list v).answer) h

-- what is due
pub due : Due
due s scratch list h =
    let (e, p) = passed s scratch list h in
    let acc = accepted-is (length scratch) s e p in
    let a = answer-is s acc scratch list e p in
    (rw a (rule3 s acc), rw a (tiers3 s acc))
