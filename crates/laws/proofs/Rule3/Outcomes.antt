-- The call by what the reader says of the sheet (`call-is`): so the answer's number and position are those of the reader's refusal, and 0 and 0 where there is
-- none; and an answer that is accepted is of a sheet that the reader passed.
-- Assumes nothing.
use Prim.Native.Nat.{ℕ}
use mathlib.Core.Path.{◌≡◌, refl, sym, ap, ◌∙◌}
use mathlib.Core.List.{List}
use native.Mathlib.Omega.{arith}
use lib.ListN.{length}
use Rattle.std.specs.Prelude.{⊤, Result, Ok, Err}
use Rattle.rules.specs.Format.{Step}
use Rattle.rules.specs.declared.Refusal.{Refusal}
use Rattle.rules.specs.declared.Diagnostic.{Diagnostic}
use Rattle.rules.specs.Types.{types_of}
use Rattle.rules.specs.Order.{walk_of}
use Rattle.rules.specs.Report.{report_of}
use Rattle.rules.specs.Answer.{Outcome, fault_number, number_of, position_of, refused, accepted, read_with, filled, cleared, call}

module _ (s scratch : List ℕ) (list : List Diagnostic) where
  -- ## By what the reader says

  unfoldable pub outcome : Step → Outcome
  outcome v =
      let t = types_of s in
      let walk = walk_of s t in
      let report = report_of s t walk in
      elim v as (λ _. Outcome) [
        | Err r ↦ record { answer = refused r; list = list; scratch = scratch }
        | Ok _ ↦ record { answer = accepted s t walk report; list = filled list report; scratch = cleared scratch }
      ]

  pub call-is : call s scratch list ≡ outcome (read_with (length scratch) s)
  unfolding call outcome
  call-is = refl

  -- what the reader says, of this scratch
  abbrev said : Step
  said = read_with (length scratch) s

  abbrev judged : Result ⊤ Refusal
  judged = (call s scratch list).answer.verdict

  -- ## The verdict's number and position

  number_by : (v : Step) → number_of (outcome v).answer.verdict ≡ number_of v
  unfolding outcome refused accepted
  number_by (Err r) = refl
  number_by (Ok e) = refl

  position-by : (v : Step) → position_of (outcome v).answer.verdict ≡ position_of v
  unfolding outcome refused accepted
  position-by (Err r) = refl
  position-by (Ok e) = refl

  pub number_is : number_of judged ≡ number_of said
  number_is = ap (λ (o : Outcome). number_of o.answer.verdict) call-is ∙ number_by said

  pub position-is : position_of judged ≡ position_of said
  position-is = ap (λ (o : Outcome). position_of o.answer.verdict) call-is ∙ position-by said

  pub refusal_is : (r : Refusal) → said ≡ Err r → (number_of judged ≡ fault_number r.fault) × (position_of judged ≡ r.position)
  refusal_is r h = (number_is ∙ ap number_of h, position-is ∙ ap position_of h)

  pub acceptance-is : (e : ℕ) → said ≡ Ok e → (number_of judged ≡ 0) × (position_of judged ≡ 0)
  acceptance-is e h = (number_is ∙ ap number_of h, position-is ∙ ap position_of h)

  -- ## An accepted answer

  pub passed : judged ≡ Ok tt → (e : ℕ) × (said ≡ Ok e)
  unfolding outcome refused
  passed h = go said refl (ap (λ (o : Outcome). o.answer.verdict) (sym call-is) ∙ h)
    where
      go : (v : Step) → said ≡ v → (outcome v).answer.verdict ≡ Ok tt → (e : ℕ) × (said ≡ Ok e)
      go (Err r) q k = absurd (let z : ◌≡◌ {A = ℕ} 0 1 = cc in omega arith)
      go (Ok e) q k = (e, q)
