-- A list of diagnostics has one of a message, or one of a message with a detail.
-- Assumes nothing: these are definitions.
use Rattle.std.specs.Prelude.{ℕ, Bool, false, ◌&&◌, ◌||◌, List, [], ◌∷◌, eqb}
use Rattle.rules.specs.declared.Diagnostic.{Diagnostic}

unfoldable pub has : (Diagnostic → Bool) → List Diagnostic → Bool
has p [] = false
has p (d ∷ ds) = p d || has p ds

abbrev pub tells : (message : ℕ) → List Diagnostic → Bool
tells m = has (λ d. eqb d.message m)

abbrev pub tells_with : (message detail : ℕ) → List Diagnostic → Bool
tells_with m n = has (λ d. eqb d.message m && eqb d.detail n)
