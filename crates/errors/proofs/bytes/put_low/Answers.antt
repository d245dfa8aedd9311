-- `errors::bytes::put_low` stores the first of a number's eight low bytes, as many as it is asked for.
-- Assumes nothing.
use Rattle.std.proofs.Common.{ℕ, sym, ◌∙◌, ap, arith, List, take}
use Rattle.errors.proofs.Stores.{copied, sized, low-long, low-take, low-bytes}
use Rattle.errors.proofs.bytes.put_low.Goals as goal

pub returns : goal.returns
returns g c =
    let n = g.row.N in
    let first = ap (λ (l : List ℕ). take n l) (c.to_le_bytes.ensures ∙ sym (low-bytes c.args.n)) ∙ low-take n 8 c.args.n c.requires.0 in
    let long = low-long n c.args.n in
    sized (copied c.args.at (c.copy_from_slice.ensures.after ∙ first) (omega (arith, c.requires.1))) long
