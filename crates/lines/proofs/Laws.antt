-- Bytes appended one after another are appended at once (`also`), and so are the entries of a list (`turn`). Nothing else is ever shown about the buffer.
-- Assumes nothing.
use Prim.Native.Nat.{ℕ, ◌+◌, ◌<◌, ◌≤◌}
use mathlib.Core.Path.{◌≡◌, refl, sym, ap, ◌∙◌}
use mathlib.Core.List.{List, [], ◌++◌, flat_map}
use native.Mathlib.Omega.{arith}
use lib.ListN.{length, get_or, take, length-append}
use lib.Seq.{take_all, length-sets}
use Rattle.laws.proofs.Base.Flat.{flat-more}
use Rattle.errors.specs.Bytes.{Stored}
use Rattle.errors.proofs.Stores.{sized}
use Rattle.errors.proofs.Stores as stores
use Rattle.lines.specs.declared.Text.{Text}
use Rattle.lines.specs.Appends.{Appends}

-- in a buffer as long as before
pub as-long : {b b' : List ℕ} {at m : ℕ} {xs : List ℕ} → Stored b at m xs b' → length b' ≡ length b
as-long {b} {at = at} {xs = xs} p = ap length p.stored ∙ length-sets b at xs

-- nothing
pub none : (t : Text) → Appends t 0 [] t
none t = record { stored = record { stored = refl; long = refl }; reached = omega arith; few = omega arith; long = refl; kept = refl }

module _ {t t' : Text} {m : ℕ} {xs : List ℕ} where
  -- one thing and then another
  pub also : {t'' : Text} {n : ℕ} {ys : List ℕ} → Appends t m xs t' → Appends t' n ys t'' → Appends t (m + n) (xs ++ ys) t''
  also {t''} {ys = ys} p q =
      let more : Stored t'.out.now (t.len + length xs) (length ys) ys t''.out.now = rw (← p.reached) q.stored in
      record {
        stored = sized (stores.also p.stored more) (sym (length-append xs ys));
        reached = q.reached ∙ omega (arith, p.reached, length-append xs ys);
        few = omega (arith, length-append xs ys);
        long = q.long ∙ p.long;
        kept = q.kept ∙ p.kept;
      }

  -- in more room
  pub within : {n : ℕ} → Appends t m xs t' → m ≤ n → Appends t n xs t'
  within p h = record { stored = p.stored; reached = p.reached; few = omega arith; long = p.long; kept = p.kept }

  -- the bytes that the code appended, and those that are meant
  pub meant : {ys : List ℕ} → Appends t m xs t' → xs ≡ ys → Appends t m ys t'
  meant p e = rw e at p

-- ## Entries of a list

module _ {A : Type 0} (f : A → List ℕ) where
  pub start : (t : Text) → Appends t 0 (flat_map f []) t
  unfolding flat_map
  start t = none t

  pub turn : {t t' t'' : Text} {m n w : ℕ} (l : List A) (k : ℕ) (d : A) → k < length l → Appends t m (flat_map f (take k l)) t'
      → Appends t' w (f (get_or l k d)) t'' → m + w ≤ n → Appends t n (flat_map f (take (k + 1) l)) t''
  turn l k d h p q e = within (meant (also p q) (flat-more f l k d h)) e

  pub whole : {t t' : Text} {m n : ℕ} (l : List A) (k : ℕ) → Appends t m (flat_map f (take k l)) t' → (m ≤ n) × (length l ≤ k) → Appends t n (flat_map f l) t'
  whole l k p h = within (meant p (ap (flat_map f) (take_all k l h.1))) h.0
