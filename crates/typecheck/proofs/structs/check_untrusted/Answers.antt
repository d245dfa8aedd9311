-- `typecheck::structs::check_untrusted` meets its contract: where the table says that there is no untrusted type, its number is the one that means none.
-- Assumes nothing.
use Prim.Native.Nat.{ℕ}
use mathlib.Core.Path.{◌≡◌, refl, sym, ap, ◌∙◌}
use mathlib.Core.Bool.{Bool, true, false, ◌&&◌}
use lib.Dec.{eqb}
use borrow.Author.Tests.{eqb-true}
use Rattle.std.specs.Prelude.{Option, Some, None, unwrap_or}
use Rattle.std.proofs.Common.{rules}
use Rattle.rules.specs.Numbers.{no_item}
use Rattle.rules.specs.Kinds.{some_unless}
use Rattle.rules.specs.Base.{if'◌then◌else◌}
use Rattle.rules.specs.View.{item_name}
use Rattle.rules.specs.Types.{is_cxx, is_untrusted}
use Rattle.names.specs.Known.{sheet, types}
use Rattle.errors.specs.Sink.{meant-if}
use Rattle.typecheck.proofs.structs.check_untrusted.Goals as goal

number_again : (a n : ℕ) → unwrap_or (some_unless a n) a ≡ n
unfolding some_unless if'◌then◌else◌
number_again a n = go (eqb n a) refl
  where
    go : (b : Bool) → eqb n a ≡ b → unwrap_or (if' b then None else Some n) a ≡ n
    go true e = sym (eqb-true n a e)
    go false e = refl

pub returns : goal.returns
returns c =
    let t = types c.args.known.now in
    let n = item_name (sheet c.args.known.now) c.args.i in
    let both : c.if-is_cxx.both ≡ (is_cxx t n && is_untrusted t n) = search rules in
    let last = c.unwrap_or-last.ensures ∙ ap (λ (o : Option ℕ). unwrap_or o no_item) c.untrusted_of.ensures ∙ number_again no_item _ in
    rw (last, c.item_name-n.ensures) at (meant-if _ c.error_if.ensures both)
