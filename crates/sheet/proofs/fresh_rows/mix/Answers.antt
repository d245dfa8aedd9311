-- `mix` computes the definition of that name: no product or sum in it passes 64 bits.
-- Assumes nothing.
use mathlib.Core.Path.{◌∙◌}
use Rattle.sheet.specs.Keys.{mix}
use Rattle.sheet.proofs.FreshLaws.{low_half, high_half, product-fits, turned-is}
use Rattle.sheet.proofs.fresh_rows.mix.Goals as goal

pub returns : goal.returns
unfolding mix
returns c =
    c.rotate_right.ensures ∙ turned-is _ (product-fits _ _ _ (low_half c.args.k) (high_half c.args.k c.ranges.k.fits) c.ranges.p.fits)
