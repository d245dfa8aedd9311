-- One run over an accepted sheet, from what its steps ensure: the reports joined are the full report, the parts of the answer are the rules', and the scratch
-- is as if it had been cleared once.
-- Assumes nothing.
use mathlib.Core.Path.{◌≡◌, sym, ◌∙◌, ap}
use Prim.Native.Nat.{ℕ, ◌-◌, ◌≤◌}
use native.Mathlib.Omega.{arith}
use mathlib.Core.List.{List, ◌++◌, append_assoc}
use lib.ListN.{length, drop, replicate, length-replicate}
use lib.Seq.{drop_at, drop-drop}
use Rattle.rules.specs.Numbers.{scratch_size, most_items}
use Rattle.rules.specs.declared.Answer.{Answer}
use Rattle.rules.specs.Format.{Accepted}
use Rattle.rules.specs.View.{items}
use Rattle.rules.specs.Collect.{duplicates, structs_to}
use Rattle.rules.specs.Types.{Types, types_of}
use Rattle.rules.specs.Order.{plain_lead, walk_of}
use Rattle.rules.specs.Report.{report, report_of}
use Rattle.rules.specs.Answer.{sets_of, accepted, cleared}
use Rattle.errors.specs.declared.Errors.{Errors}
use Rattle.errors.specs.Sink.{most, Reported, also, meant}
use Rattle.laws.specs.RowTable.{LeadRows}
use Rattle.std.specs.Prelude.{Option}
use Rattle.laws.proofs.Rule3.PlainFields.{plain}
use Rattle.laws.proofs.Rule3.Order.{places-are}
use Rattle.laws.proofs.Report.Bounds.Total.{total-few}
use Rattle.laws.proofs.Report.Bounds.Walk.{structs-few}
use Rattle.laws.proofs.Sheet.Accepted.{few-items}
use Rattle.names.specs.Known.{tabled}
use Rattle.scratch.specs.Bytes.{marks_end}
use Rattle.types.specs.declared.Gathered.{Gathered}
use Rattle.types.specs.Post.{Collects}
use Rattle.toposort.specs.declared.Sorted.{Sorted}
use Rattle.toposort.specs.Post.{Sorts, Tiered}
use Rattle.toposort.proofs.Callers.{plain-sorts}
use Rattle.improper.specs.Post.{Searched}
use Rattle.typecheck.specs.Post.{Checkable, checks}
use Rattle.bridge_core.specs.Run.{answer_with, RunAccepted}
use Rattle.bridge_core.proofs.RunCases.{reported-total, reported-window}

-- n bytes cleared in a list that has the bytes of another cleared one behind them
cleared-over : (n : ℕ) (b b' : List ℕ) → drop n b' ≡ drop n (replicate n 0 ++ drop n b) → replicate n 0 ++ drop n b' ≡ replicate n 0 ++ drop n b
cleared-over n b b' h = ap (λ (l : List ℕ). replicate n 0 ++ l) (h ∙ drop_at (replicate n 0) (drop n b) n (length-replicate {A = ℕ} n 0))

-- the bytes behind the marks that are cleared too
abbrev behind : ℕ
behind = scratch_size - marks_end

module _ {s b b' names : List ℕ} {cx₀ cx₁ : Errors} {k : Gathered} (c : Collects s b b' names cx₀ cx₁ k) where
  -- what the checks are given
  pub given : Accepted s → Checkable s names b' k.count
  given acc =
      record { accepted = acc; names_held = c.known; count = c.count; row = λ i l. c.pairs i (let e = c.count in omega arith) }

  -- past the bytes that are cleared nothing changed
  clear-again : cleared b' ≡ cleared b
  unfolding cleared
  clear-again =
      cleared-over scratch_size b b'
      (sym (drop-drop behind marks_end b') ∙ ap (drop behind) c.rest ∙ drop-drop behind marks_end (replicate scratch_size 0 ++ drop scratch_size b))

  module _ {d : List (Option ℕ)} {w : Sorted} {cx₂ cx : Errors} (acc : Accepted s) (held : LeadRows s (plain_lead s (types_of s)) d)
      (o : Sorts s d cx₁ w cx₂) (told : Reported cx₂ (checks s (types_of s)) cx) where
    all_told : Reported cx₀ (report s) cx
    unfolding report report_of
    all_told = meant (also (also c.errors (plain-sorts held o).errors) told) (sym (append_assoc (duplicates s ++ (walk_of s (types_of s)).errors) _ _))

    -- how many struct items there are, which fits a byte
    len_is : w.len ≡ structs_to s (items s)
    unfolding walk_of
    len_is = (plain-sorts held o).len ∙ places-are s _ _ (plain s acc)

    pub len-few : w.len ≤ most_items
    len-few = omega (arith, len_is, structs-few s (items s), few-items s acc)

    answer-is : {words tiers : List ℕ} → Tiered s d tiers → Searched s words → cx.total ≡ length (report s)
        → answer_with names k.unpin words w.len w.order tiers cx.total
        ≡ accepted s (types_of s) (walk_of s (types_of s)) (report_of s (types_of s) (walk_of s (types_of s)))
    unfolding answer_with accepted sets_of report tabled
    answer-is ti im total =
        let known = c.known in
        rw (
          ap (λ (t : Types). t.structs) known,
          ap (λ (t : Types). t.enums) known,
          ap (λ (t : Types). t.cxx) known,
          ap (λ (t : Types). t.rust) known,
          ap (λ (t : Types). t.aliases) known,
          ap (λ (t : Types). t.untrusted) known,
          ap (λ (t : Types). t.required_trivial) known,
          ap (λ (t : Types). t.reasons) known,
          c.unpin,
          im.words,
          len_is,
          (plain-sorts held o).order,
          ti.tiers (plain_lead s (types_of s)) held,
          total,
        )

    -- the sink began at 0
    pub checked : {words tiers e out' : List ℕ} {r : Answer} → cx₀.total ≡ 0 → Tiered s d tiers → Searched s words
        → e ≡ cleared b' → r ≡ answer_with names k.unpin words w.len w.order tiers cx.total → out' ≡ cx.out.now → RunAccepted s b cx₀.out.now cx₀.from r e out'
    checked none ti im e a w =
        let few : length (report s) ≤ most = omega (arith, total-few s acc) in
        record {
          answer = a ∙ answer-is ti im (reported-total (report s) few cx₀ cx none all_told);
          scratch = e ∙ clear-again;
          window = w ∙ reported-window (report s) few cx₀ cx none all_told;
        }
