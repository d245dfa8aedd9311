-- From bytes back to diagnostics: what is read from the bytes of a list of records is the list, where each of its diagnostics fits a record's fields.
-- Assumes nothing.
use mathlib.Core.Path.{◌≡◌, refl, ◌∙◌, ap}
use Prim.Native.Nat.{ℕ, suc}
use mathlib.Core.List.{List, ◌∷◌, ◌++◌, flat_map, append_assoc}
use lib.ListN.{length}
use Rattle.rules.specs.declared.Diagnostic.{Diagnostic}
use Rattle.rules.specs.Diagnostics.{Small}
use Rattle.laws.proofs.Base.Forms.{All, none, more}
use Rattle.errors.specs.Records.{record_bytes, records_in}
use Rattle.errors.proofs.Inverse.{record-back, records-more}

pub records-back : {ds : List Diagnostic} → All Small ds → (l : List ℕ) → records_in (length ds) (flat_map record_bytes ds ++ l) ≡ ds
unfolding records_in flat_map
records-back none l = refl
records-back (more {x = d} {xs = ds} p ps) l =
    ap (λ (b : List ℕ). records_in (suc (length ds)) b) (append_assoc (record_bytes d) (flat_map record_bytes ds) l)
    ∙ records-more d (flat_map record_bytes ds ++ l) (length ds)
    ∙ ap {B = List Diagnostic} (λ (x : Diagnostic). x ∷ records_in (length ds) (flat_map record_bytes ds ++ l))
    (record-back d p (flat_map record_bytes ds ++ l))
    ∙ ap {B = List Diagnostic} (λ (xs : List Diagnostic). d ∷ xs) (records-back ps l)
