-- The rule of the reasons to be Unpin, of each call that is answered accepted: its answer's reasons are those of the sheet's own types.
-- Assumes nothing.
use mathlib.Core.Path.{◌≡◌, ap}
use lib.ListN.{length}
use Rattle.rules.specs.declared.Answer.{Answer}
use Rattle.rules.specs.Types.{types_of}
use Rattle.rules.specs.Unpin.{unpin_of}
use Rattle.rules.specs.Answer.{accepted, call}
use Rattle.rules.specs.UnpinRule.{UnpinDue}
use Rattle.laws.proofs.Sheet.Accepted.{accepted-is}
use Rattle.laws.proofs.Rule3.Outcomes.{passed}
use Rattle.laws.proofs.Rule3.Due.{answered, answer-is}
use Rattle.laws.proofs.Unpin.Rule.{unpin-rule, unpin-back}

-- what is due
pub unpin-due : UnpinDue
unfolding answered accepted
unpin-due s scratch list h =
    let (e, p) = passed s scratch list h in
    let acc = accepted-is (length scratch) s e p in
    let a : (call s scratch list).answer.unpin ≡ unpin_of s (types_of s) = ap (λ (x : Answer). x.unpin) (answer-is s acc scratch list e p) in
    (rw a (unpin-rule s acc), rw a (unpin-back s acc))
