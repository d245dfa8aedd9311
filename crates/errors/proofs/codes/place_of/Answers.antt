-- `errors::codes::place_of` meets its contract: each arm is a case of `place_of`. Assumes nothing.
use mathlib.Core.Path.{◌≡◌}
use Prim.Native.Nat.{ℕ}
use borrow.Author.Tests.{ne_eqb}
use borrow.Author.Rules.{rules}
use Rattle.rules.specs.declared.Place.TheVariants.{L}
use Rattle.rules.specs.Base.{if'◌then◌else◌}
use Rattle.errors.specs.Records.{place_of}
use Rattle.errors.proofs.codes.place_of.Goals as goal

rest : (k a x y : ℕ) → (k ≡ 82 → ⊥) → (k ≡ 71 → ⊥) → (k ≡ 73 → ⊥) → (k ≡ 70 → ⊥) → (k ≡ 65 → ⊥) → (k ≡ 79 → ⊥) → (k ≡ 68 → ⊥) → L x y ≡ place_of k a x y
unfolding place_of if'◌then◌else◌
rest k a x y h0 h1 h2 h3 h4 h5 h6 = simp (ne_eqb, if'◌then◌else◌)

pub returns-in-82 : goal.returns-in-82
unfolding place_of if'◌then◌else◌
returns-in-82 c = rw c.in-82.is

pub returns-in-71 : goal.returns-in-71
unfolding place_of if'◌then◌else◌
returns-in-71 c = rw c.in-71.is

pub returns-in-73 : goal.returns-in-73
unfolding place_of if'◌then◌else◌
returns-in-73 c = rw c.in-73.is

pub returns-in-70 : goal.returns-in-70
unfolding place_of if'◌then◌else◌
returns-in-70 c = rw c.in-70.is

pub returns-in-65 : goal.returns-in-65
unfolding place_of if'◌then◌else◌
returns-in-65 c = rw c.in-65.is

pub returns-in-79 : goal.returns-in-79
unfolding place_of if'◌then◌else◌
returns-in-79 c = rw c.in-79.is

pub returns-in-68 : goal.returns-in-68
unfolding place_of if'◌then◌else◌
returns-in-68 c = rw c.in-68.is

pub returns-in_default : goal.returns-in_default
returns-in_default c = search (rules, rest)
