-- `keys_of` mixes a row's pairs into two keys. The invariant: the pairs that are left, mixed into the keys so far, give the whole keys.
-- Assumes nothing.
use Prim.Native.Nat.{◌-◌}
use mathlib.Core.Path.{◌≡◌}
use Rattle.sheet.specs.Keys.{key}
use Rattle.sheet.proofs.FreshLaws.{key-from}
use Rattle.sheet.proofs.fresh_rows.keys_of.Given as goal

abbrev pub invariant-loop-j : goal.invariant-loop-j
invariant-loop-j l =
    (key l.s (l.end - l.a) l.a 0 ≡ key-from l.s (l.end - l.a) l.a l.j l.two.first)
    × (key l.s (l.end - l.a) l.a 11400714819323198485 ≡ key-from l.s (l.end - l.a) l.a l.j l.two.second)
