use native.Mathlib.Omega.{arith}
use mathlib.Core.Path.{ap, ◌∙◌}
use Rattle.rules.specs.declared.NameSet.{NameSet}
use Rattle.names.proofs.Columns.{to_start, to-more, to_same, to_end}
use Rattle.names.proofs.known.set_of.Goals as goal
use Rattle.names.proofs.known.set_of.Goals.{then-entry-gt0, else-entry-gt0}

pub loop-n-init : goal.loop-n-init
loop-n-init c = to_start _ _ c.empty-set.ensures

pub loop-n-preserved : goal.loop-n-preserved
loop-n-preserved c = elim c.if-entry-gt0.branch [
  | then-entry-gt0 w ↦ to-more _ _ _ c.loop-n.invariant c.entry.ensures w.if-entry-gt0.true (ap (λ (s : NameSet). s.words) w.set-is ∙ w.insert-set.ensures)
  | else-entry-gt0 w ↦ ap (λ (s : NameSet). s.words) w.set-is ∙ to_same _ _ _ c.loop-n.invariant c.entry.ensures w.if-entry-gt0.false
]

pub returns : goal.returns
returns c = c.loop-n.invariant ∙ to_end _ _ _ (omega arith)
