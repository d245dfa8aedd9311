-- `lines::Text::put_word` copies the word's bytes.
-- Assumes nothing.
use mathlib.Core.Path.{refl}
use native.Mathlib.Omega.{arith}
use Rattle.errors.proofs.Stores.{copied}
use Rattle.lines.proofs.Laws.{as-long}
use Rattle.lines.proofs.Text.put_word.Goals as goal

pub returns : goal.returns
returns c =
    let stored = copied {b = c.args.self.now.out.now} {xs = c.args.word.now} c.args.self.now.len c.copy_from_slice.ensures.after (omega arith) in
    record {
      stored = stored;
      reached = refl;
      few = omega arith;
      long = as-long stored;
      kept = refl;
    }
