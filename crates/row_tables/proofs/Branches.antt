-- A value that is chosen by a test, which was taken or left; and a test in front of others.
-- Assumes nothing.
use mathlib.Core.Path.{◌≡◌, sym, ap, ◌∙◌}
use mathlib.Core.Bool.{Bool, true, false, ◌&&◌}
use Rattle.rules.specs.Base.{if'◌then◌else◌}

module _ {A : Type 0} (a b : A) where
  pub if-taken : {v : A} {x y : Bool} → x ≡ true → v ≡ a → x ≡ y → v ≡ (if' y then a else b)
  unfolding if'◌then◌else◌
  if-taken t p e = p ∙ ap (λ (z : Bool). if' z then a else b) (sym t ∙ e)

  pub if-left : {v : A} {x y : Bool} → x ≡ false → v ≡ b → x ≡ y → v ≡ (if' y then a else b)
  unfolding if'◌then◌else◌
  if-left t p e = p ∙ ap (λ (z : Bool). if' z then a else b) (sym t ∙ e)

module _ (a b : Bool) where
  pub both-not : a ≡ false → false ≡ (a && b)
  both-not e = rw e

  pub both_so : {x : Bool} → a ≡ true → x ≡ b → x ≡ (a && b)
  both_so e h = rw e h

module _ (a b c : Bool) where
  pub and-not : a ≡ false → false ≡ (a && b && c)
  and-not e = rw e

  pub and_so : {x : Bool} → a ≡ true → x ≡ (b && c) → x ≡ (a && b && c)
  and_so e h = rw e h
