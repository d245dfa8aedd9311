-- `scratch::clear` meets its contract: the first bytes are filled with 0, and the others stay.
-- Assumes nothing.
use mathlib.Core.Path.{◌∙◌}
use Rattle.rules.specs.Numbers.{scratch_size}
use Rattle.scratch.proofs.Zeroed.{zeroed-by, cleared-is}
use Rattle.scratch.proofs.clear.Goals as goal

pub returns : goal.returns
returns c =
    let b = c.args.scratch.now in
    zeroed-by scratch_size b _ c.requires (c.fill.ensures.after (λ y h. h)) ∙ cleared-is b
