use Prim.Native.Nat.{◌-◌}
use mathlib.Core.Path.{◌≡◌}
use native.Mathlib.Omega.{arith}
use Rattle.std.proofs.Common.{rules, None}
use Rattle.laws.specs.Word.{word_of}
use Rattle.laws.proofs.Base.Words.{word-down, bit_le}
use Rattle.row_tables.specs.Listed.{told_at}
use Rattle.row_tables.proofs.listed.telling.Invariants.{short}
use Rattle.row_tables.proofs.listed.telling.Goals as goal

pub loop-k-init : goal.loop-k-init
unfolding word_of
loop-k-init g c =
    let n = c.args.n in
    let none : n - n ≡ 0 = omega arith in
    (c.requires.few, rw none)

pub said-requires : goal.said-requires
said-requires g c =
    let loop = c.loop-k in
    (search rules, c.requires.entries (loop.k - 1) (omega arith))

pub overflow_mul-word : goal.overflow_mul-word
overflow_mul-word g c =
    let loop = c.loop-k in
    omega (arith, short _ _ loop.k _ c.loop-k-test.true (omega arith) loop.invariant.0 loop.invariant.1)

pub overflow_add-word : goal.overflow_add-word
overflow_add-word g c =
    let loop = c.loop-k in
    omega (arith, c.from.ensures, bit_le c.is_some-told.result, short _ _ loop.k _ c.loop-k-test.true (omega arith) loop.invariant.0 loop.invariant.1)

pub loop-k-preserved : goal.loop-k-preserved
loop-k-preserved g c =
    let args = c.args in
    let loop = c.loop-k in
    let p = told_at args.s.now args.table.now args.at in
    let down = word-down p loop.k args.n c.loop-k-test.true (omega arith) in
    (loop.invariant.0, rw (c.from.ensures, c.is_some-told.ensures, c.said.ensures None, loop.invariant.1) down)

pub returns : goal.returns
returns g c =
    let loop = c.loop-k in
    let n = c.args.n in
    let k : loop.k ≡ 0 = omega (arith, c.loop-k-test.false) in
    let all : n - 0 ≡ n = omega arith in
    rw (k, all) at loop.invariant.1
