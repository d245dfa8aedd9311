-- `names::size` adds the words' counts, which is `size` of the rules: a word has at most 64 ones, and there are four, so the sum fits.
-- Assumes nothing.
use borrow.Author.Rules.{rules}
use mathlib.Core.Path.{◌∙◌}
use native.Mathlib.Omega.{arith}
use lib.Count.{ones_in}
use Rattle.std.proofs.lemmas.Iterator.{YieldsList-from_slice, YieldsList-from_map}
use Rattle.std.proofs.lemmas.Iterator.Consumers.{sum_by_from_yields_List, fits_by_from_yields_list}
use Rattle.names.proofs.Laws.{size-is, size-few}
use Rattle.names.proofs.size.Goals as goal

pub sum-requires-clause-fits : goal.sum-requires-clause-fits
sum-requires-clause-fits c =
    fits_by_from_yields_list (ones_in 64) c.args.set.words c.map.result _
    (YieldsList-from_map _ (ones_in 64) (YieldsList-from_slice c.args.set.words cc) c.map.ensures.closure (λ x r q k. search rules))
    (omega (arith, size-few c.args.set.words))

pub returns : goal.returns
returns c =
    sum_by_from_yields_List (ones_in 64) c.args.set.words c.map.result _ c.sum.ensures.ran
    (YieldsList-from_map _ (ones_in 64) (YieldsList-from_slice c.args.set.words cc) c.map.ensures.closure (λ x r q k. search rules))
    ∙ size-is c.args.set.words
