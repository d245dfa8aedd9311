-- `printed::text` writes the sheet's text: the lines of what the call answers.
-- Assumes nothing.
use mathlib.Core.Path.{◌≡◌}
use native.Mathlib.Omega.{arith}
use lib.ListN.{length, replicate, length-replicate}
use Rattle.rules.specs.Numbers.{page_size}
use Rattle.rules.specs.declared.Diagnostic.{Diagnostic}
use Rattle.errors.specs.Records.{blank}
use Rattle.lines.proofs.Whole.{wrote-meant}
use Rattle.printed.proofs.Shown.{text-is}
use Rattle.printed.proofs.text.Goals as goal

pub returns : goal.returns
returns c =
    let long : length (replicate {A = Diagnostic} page_size blank) ≡ page_size = length-replicate {A = Diagnostic} page_size blank in
    wrote-meant c.write.ensures (text-is c.args.sheet.now (replicate page_size blank) _ _ (omega arith) c.call-page.ensures.called.answer
    c.call-page.ensures.called.list)
