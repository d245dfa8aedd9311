-- `push` keeps the two keys of row r, and marks the low bits of the first.
-- Assumes nothing.
use borrow.Author.Rules.{rules}
use Rattle.sheet.proofs.FreshLaws.{kept_more}
use Rattle.sheet.proofs.fresh_rows.KeptKeys.push.Goals as goal

pub returns : goal.returns
returns c s = kept_more s _ c.args.self.now c.args.two (search rules) (search rules) (search rules) (search rules)
