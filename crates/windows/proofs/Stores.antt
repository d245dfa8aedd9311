-- Records stored at the places of a list, one after another, and the records that bytes hold.
-- Assumes nothing.
use mathlib.Core.Path.{◌≡◌, refl, sym, ◌∙◌, ap}
use Prim.Native.Nat.{ℕ, zero, suc, ◌<◌, ◌≤◌, ◌*◌, ◌+◌, ◌-◌, ◌/◌, min}
use native.Mathlib.Omega.{arith}
use native.Mathlib.Decide.{dec_le}
use mathlib.Core.List.{List, [], ◌∷◌, ◌++◌, flat_map}
use lib.ListN.{length, take, drop, set, length-append}
use lib.Seq.{sets, sets-eq, length-sets, take_all, take-append-le}
use Rattle.rules.specs.declared.Diagnostic.{Diagnostic}
use Rattle.rules.specs.Diagnostics.{Small}
use Rattle.laws.proofs.Base.Forms.{All}
use Rattle.laws.proofs.Base.Stores.{sets-append, sets-cut}
use Rattle.errors.specs.Records.{record_bytes, record_at, record_in, records_in}
use Rattle.errors.specs.Sink.{kept}
use Rattle.errors.proofs.Inverse.{record-in}
use Rattle.errors.proofs.Window.{records-long}
use Rattle.windows.specs.Windows.{least3, stored}
use Rattle.windows.proofs.Records.{records-back}

-- ## One after another

records_in-long : (n : ℕ) (bs : List ℕ) → length (records_in n bs) ≡ n
unfolding records_in
records_in-long zero bs = refl
records_in-long (suc n) bs = length-append (records_in n bs) (record_at bs (8 * n) ∷ []) ∙ rw (records_in-long n bs) (let z : n + 1 ≡ suc n = omega arith in z)

module _ (ys : List Diagnostic) (at : ℕ) (bs : List ℕ) where
  -- places at .. i are stored
  abbrev pub over : ℕ → List Diagnostic
  over i = sets ys at (records_in (i - at) bs)

  pub over-start : over at ≡ ys
  unfolding records_in
  over-start = ap (λ (k : ℕ). sets ys at (records_in k bs)) (let z : at - at ≡ 0 = omega arith in z)

  pub over-one : (i : ℕ) → at ≤ i → i - at < length bs / 8 → set (over i) i (record_in bs (i - at)) ≡ over (i + 1)
  unfolding records_in
  over-one i h l =
      ap (set (over i) i) (sym (record-in bs (i - at) l)) ∙
      let j : i ≡ at + length (records_in (i - at) bs) = omega (arith, records_in-long (i - at) bs) in
      let s : suc (i - at) ≡ i + 1 - at = omega arith in
      ap (λ (m : ℕ). sets (over i) m (record_at bs (8 * (i - at)) ∷ [])) j
      ∙ sets-append ys at (records_in (i - at) bs) (record_at bs (8 * (i - at)) ∷ [])
      ∙ ap (λ (m : ℕ). sets ys at (records_in m bs)) s

  records_in-take : (k n : ℕ) → k ≤ n → records_in k bs ≡ take k (records_in n bs)
  unfolding records_in
  records_in-take k zero h = let z : k ≡ 0 = omega arith in rw z
  records_in-take k (suc n) h = go (dec_le k n) (records_in-take k n)
    where
      go : Dec (k ≤ n) → (k ≤ n → records_in k bs ≡ take k (records_in n bs)) → records_in k bs ≡ take k (records_in (suc n) bs)
      go (yes l) ih = ih l ∙ sym (take-append-le k (records_in n bs) (record_at bs (8 * n) ∷ []) (omega (arith, records_in-long n bs)))
      go (no l) ih = let z : k ≡ suc n = omega arith in rw z (sym (take_all (suc n) (records_in (suc n) bs) (omega (arith, records_in-long (suc n) bs))))

  cut : (m : ℕ) → sets ys at (records_in (min m (length ys - at)) bs) ≡ sets ys at (records_in m bs)
  cut m =
      let fit : min m (length ys - at) ≤ m = omega arith in
      ap (λ (l : List Diagnostic). sets ys at l) (records_in-take (min m (length ys - at)) m fit) ∙ go (dec_le m (length ys - at))
    where
      go : Dec (m ≤ length ys - at) → sets ys at (take (min m (length ys - at)) (records_in m bs)) ≡ sets ys at (records_in m bs)
      go (yes h) = ap (λ (l : List Diagnostic). sets ys at l) (take_all (min m (length ys - at)) (records_in m bs) (omega (arith, records_in-long m bs)))
      go (no h) = sets-cut ys at (min m (length ys - at)) (records_in m bs) (omega arith)

  pub over-end : (n i : ℕ) → i ≡ at + least3 n (length bs / 8) (length ys - at) → over i ≡ sets ys at (stored n bs)
  unfolding stored
  over-end n i e =
      let z : i - at ≡ least3 n (length bs / 8) (length ys - at) = omega arith in
      ap (λ (k : ℕ). sets ys at (records_in k bs)) z
      ∙ cut (min n (length bs / 8))

-- ## Bytes in which all records ds have room: they are read back

module _ (ds : List Diagnostic) (small : All Small ds) (zs : List ℕ) (roomy : 8 * length ds ≤ length zs) where
  abbrev after : List ℕ
  after = kept 0 ds zs

  all-kept : take (length zs / 8 - 0) ds ≡ ds
  all-kept = take_all (length zs / 8 - 0) ds (omega arith)

  after_is : after ≡ flat_map record_bytes ds ++ drop (0 + length (flat_map record_bytes ds)) zs
  unfolding kept
  after_is =
      let b : length (flat_map record_bytes ds) ≡ 8 * length ds = records-long ds in
      ap (λ (l : List Diagnostic). sets zs (8 * 0) (flat_map record_bytes l)) all-kept ∙ sets-eq (flat_map record_bytes ds) zs 0 (omega arith)

  after-long : length after ≡ length zs
  unfolding kept
  after-long = length-sets zs (8 * 0) (flat_map record_bytes (take (length zs / 8 - 0) ds))

  pub kept-stored : stored (length ds) after ≡ ds
  unfolding stored
  kept-stored =
      let all : min (length ds) (length after / 8) ≡ length ds = omega (arith, after-long) in
      ap (λ (m : ℕ). records_in m after) all
      ∙ ap (λ (b : List ℕ). records_in (length ds) b) after_is
      ∙ records-back small (drop (0 + length (flat_map record_bytes ds)) zs)
