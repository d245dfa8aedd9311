-- Which lists of bytes are bridge sheets, and which refusal any other list gets: docs/SHEET.md.
-- A step of the reader goes from a place to the place after what it read, or to a refusal: what is wrong, and at which byte.
-- Assumes nothing: these are definitions.
use Rattle.std.specs.Prelude.{ℕ, zero, suc, ◌+◌, ◌-◌, ◌*◌, ◌≡◌, List, [], ◌∷◌, Bool, true, false, ◌&&◌, ◌||◌, length, get_or, ltb, leb, eqb}
use Rattle.rules.specs.Numbers.{Ident, no_row, row_kind_count, item_kind_count, name_count, derive_kind_count, lifetime_name_count, most_bytes, most_rows}
use Rattle.rules.specs.Numbers.{most_items, most_fields, most_args, most_derives, most_lifetimes, most_variants}
use Rattle.std.specs.Prelude.{Result, Ok, Err}
use Rattle.rules.specs.declared.Refusal.{Refusal}
use Rattle.rules.specs.declared.Fault.{Fault}
use Rattle.rules.specs.declared.Fault.TheVariants.{LongSheet, ShortSheet, TooMany, Misplaced, BadValue, BadRow, EqualRow}

-- ## Steps

abbrev pub Step : Type 0
Step = Result ℕ Refusal

abbrev pub refusal : Fault → (p : ℕ) → Step
refusal w p = Err (record { fault = w; position = p })

-- what follows a step that was not refused
abbrev pub after : Step → (ℕ → Step) → Step
after (Ok p) k = k p
after (Err r) k = Err r

-- a refusal, unless the test holds
abbrev pub check : Bool → (why : Fault) → (p : ℕ) → ℕ → Step
check true w p at = Ok at
check false w p at = refusal w p

-- one after the other
abbrev pub ◌>>◌ : (ℕ → Step) → (ℕ → Step) → ℕ → Step
◌>>◌ m k at = after (m at) k

infixl 20 ◌>>◌
abbrev pub end : ℕ → Step
end at = Ok at

-- n bodies, the first with number i
unfoldable pub each : (ℕ → ℕ → Step) → (n i : ℕ) → ℕ → Step
each body zero i at = Ok at
each body (suc n) i at = after (body i at) (each body n (i + 1))

module _ (s : List ℕ) where
  -- the pair at a place, low byte first; past the end every byte is 0
  unfoldable pub pair_at : ℕ → ℕ
  pair_at at = get_or s at 0 + 256 * get_or s (at + 1) 0

  -- where the contents say that body i starts, rows first
  unfoldable pub offset : ℕ → ℕ
  offset i = pair_at (4 + 2 * i)

  -- a pair that passes a test; what does not is refusal `why` at the pair
  unfoldable pub one : (why : Fault) → (ℕ → Bool) → ℕ → Step
  one w ok at =
      after (check (leb (at + 2) (length s)) Misplaced (length s) at) (λ _.
      after (check (ok (pair_at at)) w at at) (λ _. Ok (at + 2)))

  -- a step, and then one that looks at the pair where the first began
  abbrev pub ◌>>=◌ : (ℕ → Step) → (ℕ → ℕ → Step) → ℕ → Step
  ◌>>=◌ m f at = after (m at) (f (pair_at at))

  unfoldable pub limited : (why : Fault) → (limit : ℕ) → ℕ → Step
  limited w n = one w (λ v. ltb v n)

  abbrev pub below : ℕ → ℕ → Step
  below n = limited BadValue n

  abbrev pub row_below : ℕ → ℕ → Step
  row_below n = limited BadRow n

  unfoldable pub or_none : ℕ → ℕ → Step
  or_none n = one BadRow (λ v. eqb v no_row || ltb v n)

  unfoldable pub times : (ℕ → Step) → ℕ → ℕ → Step
  times p zero at = Ok at
  times p (suc k) at = after (p at) (times p k)

  unfoldable pub list : (most : ℕ) → (why : Fault) → (limit : ℕ) → ℕ → Step
  list most w n = do
    count ← below (most + 1)
    times (limited w n) count

  abbrev pub name : ℕ → Step
  name = below name_count

  abbrev pub lifetimes : ℕ → Step
  lifetimes = list most_lifetimes BadValue lifetime_name_count

  abbrev pub derives : ℕ → Step
  derives = list most_derives BadValue derive_kind_count

  -- ## Type rows. After the kind, by kinds, in row r

  unfoldable pub with_flags : (flags r : ℕ) → ℕ → Step
  with_flags n r = below n >> row_below r

  unfoldable pub signature : ℕ → ℕ → Step
  signature r = below 4 >> or_none r >> list most_args BadRow r

  unfoldable pub row_kinds : ℕ → List (ℕ → Step)
  row_kinds r =
      name
      ∷ row_below r
      ∷ row_below r
      ∷ row_below r
      ∷ row_below r
      ∷ row_below r
      ∷ row_below r
      ∷ with_flags 4 r
      ∷ with_flags 2 r
      ∷ end
      ∷ with_flags 2 r
      ∷ with_flags 65536 r
      ∷ signature r
      ∷ end
      ∷ []

  unfoldable pub body_of : (r k : ℕ) → ℕ → Step
  body_of r k = get_or (row_kinds r) k end

  unfoldable pub row : ℕ → ℕ → Step
  row r = do
    k ← below row_kind_count
    body_of r k

  -- n bytes from a are those from b
  unfoldable pub same_bytes : (n a b : ℕ) → Bool
  same_bytes zero a b = true
  same_bytes (suc n) a b = elim (eqb (get_or s a 0) (get_or s b 0)) [ true ↦ same_bytes n (a + 1) (b + 1) | false ↦ false ]

  -- row i is as long as row r, which ends at next, and has the same bytes
  unfoldable pub equal_rows : (i r next : ℕ) → Bool
  equal_rows i r next =
      elim (eqb (offset (i + 1) - offset i) (next - offset r)) [
        | true ↦ same_bytes (offset (i + 1) - offset i) (offset i) (offset r)
        | false ↦ false
      ]

  -- none of the first i rows equals row r
  unfoldable pub fresh : (i r next : ℕ) → Bool
  fresh zero r next = true
  fresh (suc i) r next = elim (equal_rows i r next) [ true ↦ false | false ↦ fresh i r next ]

  -- row r with its offset, and the test for an equal row before it
  unfoldable pub row_at : ℕ → ℕ → Step
  row_at r at =
      after (check (eqb (offset r) at) Misplaced (4 + 2 * r) at) (λ _.
      after (row r at) (λ next. check (fresh r r next) EqualRow at next))

  -- ## Items, over T rows. After the kind, by kinds

  unfoldable pub type_head : ℕ → Step
  type_head = name >> lifetimes >> derives

  -- a row below T of kind 0
  unfoldable pub repr : (T : ℕ) → ℕ → Step
  repr T = one BadRow (λ v. ltb v T && eqb (pair_at (offset v)) Ident)

  -- how many variants, and how many of them are marked default
  unfoldable pub variants : ℕ → Step
  variants = do
    n ← below (most_variants + 1)
    below (n + 1)

  -- free, associated, method
  unfoldable pub receivers : List (ℕ → Step)
  receivers = end ∷ name ∷ (name >> below 4) ∷ []

  unfoldable pub receiver : ℕ → Step
  receiver = do
    k ← below 3
    get_or receivers k end

  unfoldable pub function : (flags T : ℕ) → ℕ → Step
  function flags T = name >> below flags >> lifetimes >> receiver >> or_none T >> list most_args BadRow T

  unfoldable pub item_kinds : (T : ℕ) → List (ℕ → Step)
  item_kinds T =
      end
      ∷ (type_head >> list most_fields BadRow T)
      ∷ (type_head >> repr T >> below 2 >> variants)
      ∷ (type_head >> below 4)
      ∷ (type_head >> below 4)
      ∷ function 8 T
      ∷ function 4 T
      ∷ type_head
      ∷ (row_below T >> below 2 >> lifetimes)
      ∷ []

  unfoldable pub item_of : (T k : ℕ) → ℕ → Step
  item_of T k = get_or (item_kinds T) k end

  unfoldable pub item : (T : ℕ) → ℕ → Step
  item T = do
    k ← below item_kind_count
    item_of T k

  -- item i with its offset
  unfoldable pub item_at : (T i : ℕ) → ℕ → Step
  item_at T i at = after (check (eqb (offset (T + i)) at) Misplaced (4 + 2 * (T + i)) at) (λ _. item T at)

-- ## The sheet

unfoldable pub read : List ℕ → Step
read s =
    let T = pair_at s 0 in
    let A = pair_at s 2 in
    let contents = 4 + 2 * (T + A) in
    (check (leb (length s) most_bytes) LongSheet 0
    >> check (leb 4 (length s)) ShortSheet 0
    >> check (leb T most_rows) TooMany 0
    >> check (leb A most_items) TooMany 2
    >> check (leb contents (length s)) Misplaced 0
    >> each (row_at s) T 0
    >> each (item_at s T) A 0
    >> (λ at. check (eqb at (length s)) Misplaced at at)) contents

-- the sheet is accepted
pub record Accepted (s : List ℕ) : Type 0 where
  pub ending : ℕ
  pub is : read s ≡ Ok ending
