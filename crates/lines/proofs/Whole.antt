-- The whole text: of a refusal; of an answer, with a count of records that is cut where the printed ones end. Only the first records show in it. And what
-- `write` leaves, where there is room.
-- Assumes nothing.
use Prim.Native.Nat.{ℕ, ◌+◌, ◌≤◌, min}
use mathlib.Core.Path.{◌≡◌, refl, sym, ap, ◌∙◌}
use mathlib.Core.List.{List, [], ◌∷◌, ◌++◌, flat_map, append_assoc}
use native.Mathlib.Omega.{arith}
use lib.ListN.{length, get_or, take, drop}
use lib.Seq.{sets, sets-eq}
use Rattle.std.specs.Prelude.{⊤, Result, Ok, Err, Option, Some}
use Rattle.rules.specs.Numbers.{name_count}
use Rattle.rules.specs.declared.Refusal.{Refusal}
use Rattle.rules.specs.declared.Answer.{Answer}
use Rattle.rules.specs.declared.Diagnostic.{Diagnostic}
use Rattle.rules.specs.Names.{empty}
use Rattle.rules.specs.Answer.{fault_number, name_set}
use Rattle.rules.specs.Text.{line, tiers_along, members_to, record_line, printed, refused_text, accepted_text, text_of}
use Rattle.lines.specs.declared.Text.{Text}
use Rattle.lines.specs.Put.{structs_text, Wrote, most}
use Rattle.lines.specs.Appends.{Appends}
use Rattle.lines.proofs.Parts.{take_twice}

module _ (a : Answer) where
  -- by the verdict
  by : List Diagnostic → Result ⊤ Refusal → List ℕ
  by ds v = elim v as (λ _. List ℕ) [ Ok _ ↦ accepted_text a ds | Err r ↦ refused_text (fault_number r.fault) r.position ]

  text-by : (ds : List Diagnostic) {v : Result ⊤ Refusal} → a.verdict ≡ v → by ds v ≡ text_of a ds
  unfolding text_of by
  text-by ds e = ap (by ds) (sym e)

  pub text-refused : (ds : List Diagnostic) {r : Refusal} → a.verdict ≡ Err r → refused_text (fault_number r.fault) r.position ≡ text_of a ds
  unfolding by
  text-refused ds e = text-by ds e

  -- the lines as the code joins them
  pub accepted-is : (ds : List Diagnostic) → line "accepted" (a.total ∷ []) ++ structs_text a
      ++ line "improper" (members_to name_count (get_or a.sets 7 (name_set empty)).words) ++ flat_map record_line (take printed ds) ≡ accepted_text a ds
  unfolding accepted_text structs_text
  accepted-is ds =
      ap (λ (l : List ℕ). l ++ line "improper" (members_to name_count (get_or a.sets 7 (name_set empty)).words) ++ flat_map record_line (take printed ds))
      (sym (append_assoc (line "accepted" (a.total ∷ [])) _ _))

  -- with records as they are printed
  lines : List Diagnostic → List ℕ
  lines ds =
      line "accepted" (a.total ∷ []) ++ line "order" (take a.structs a.order) ++ line "tiers" (tiers_along a.tiers (take a.structs a.order))
      ++ line "improper" (members_to name_count (get_or a.sets 7 (name_set empty)).words) ++ flat_map record_line ds

  pub text-accepted : (k : ℕ) (list : List Diagnostic) {r : ℕ} → a.verdict ≡ Ok tt → r ≡ min k printed
      → accepted_text a (take r list) ≡ text_of a (take k list)
  unfolding by accepted_text lines
  text-accepted k list e y = ap lines (ap (λ (j : ℕ). take printed (take j list)) y ∙ take_twice list k printed) ∙ text-by (take k list) e

  -- only the first records show
  pub text-shown : (ds es : List Diagnostic) → take printed ds ≡ take printed es → text_of a ds ≡ text_of a es
  unfolding text_of by accepted_text lines
  text-shown ds es e = go a.verdict
    where
      go : (v : Result ⊤ Refusal) → by ds v ≡ by es v
      go (Ok tt) = ap lines e
      go (Err r) = refl

-- ## What `write` leaves

module _ {text out : List ℕ} where
  pub wrote : {t t' : Text} {out' : List ℕ} → most ≤ length out → Appends t most text t' → t.out.now ≡ out → t.len ≡ 0 → out' ≡ t'.out.now
      → Wrote text out (Some t'.len) out'
  wrote {t} {t'} h p from fresh to =
      let size : length text ≡ t'.len = omega (arith, p.reached) in
      let whole : 0 + length text ≡ length text = omega arith in
      let front : sets t.out.now t.len text ≡ sets out 0 text = rw (from, fresh) in
      record {
        bytes = λ _. to ∙ p.stored.stored ∙ front ∙ sets-eq text out 0 (omega arith) ∙ ap (λ (k : ℕ). text ++ drop k out) whole;
        size = λ _. ap {B = Option ℕ} (λ (k : ℕ). Some k) (sym size);
        within = omega (arith, p.few);
        untouched = λ g. absurd (omega arith);
      }

pub wrote-meant : {xs ys out out' : List ℕ} {r : Option ℕ} → Wrote xs out r out' → xs ≡ ys → Wrote ys out r out'
wrote-meant w e = rw e at w
