-- `errors::codes::record`: a record that the bytes have is read from its chunk; past the last chunk there is none.
-- Assumes nothing.
use mathlib.Core.List.{[]}
use mathlib.Core.Path.{◌∙◌}
use native.Mathlib.Omega.{arith}
use Rattle.errors.proofs.Inverse.{record-chunk, record-past}
use Rattle.errors.proofs.codes.record.Goals as goal

pub returns-in-Some : goal.returns-in-Some
returns-in-Some c =
    let there = c.in-Some.ensures.lookup.3 in
    c.read.ensures ∙ record-chunk c.args.bytes.now c.args.j c.as_chunks.ensures.front (omega (arith, there.0, c.as_chunks.ensures.front_len)) (there.1 [])

pub returns-in-None : goal.returns-in-None
returns-in-None c =
    c.blank.ensures ∙ record-past c.args.bytes.now c.args.j (omega (arith, c.in-None.ensures.lookup.3, c.as_chunks.ensures.front_len))
