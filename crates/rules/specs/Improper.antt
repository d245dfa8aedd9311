-- The search for improper structs as improper.rs and the end of `Types::collect` have it, pass after pass until one finds none.
-- Assumes nothing: these are definitions.
use Rattle.std.specs.Prelude.{Bool, true, false, not, ◌&&◌, ◌||◌, List, ℕ, zero, suc, eqb}
use Rattle.rules.specs.Numbers.{name_rust_string, Ident, RustBox, RustVec, Ref, Ptr, Str, SliceRef, Array, Fn, Void, no_item, name_count}
use Rattle.rules.specs.Base.{if'◌then◌else◌}
use Rattle.rules.specs.Names.{Words, empty, add, ◌∋◌, is_atom}
use Rattle.rules.specs.View.{rows, kind, row_name, inner, field_count, field}
use Rattle.rules.specs.Types.{Types, is_struct, is_rust, is_alias, struct_of}

-- what a field is, looked through: proper, improper, or a name whose last struct decides
pub data Look : Type 0 where
  fine bad : Look
  to : ℕ → Look

abbrev pub definite : Bool → Look
definite true = bad
definite false = fine

-- the fields of each name's last struct
pub record Looks : Type 0 where
  pub fields : ℕ → ℕ
  pub look : ℕ → ℕ → Look

-- ## What a row is: `determine_improper_ctype`

module _ (s : List ℕ) (t : Types) where
  -- an atom wins over a struct of its name
  unfoldable pub look_name : ℕ → Look
  look_name n =
      if' is_atom n then definite (eqb n name_rust_string) else
      if' is_struct t n then to n else definite (is_rust t n || is_alias t n)

  -- Ref, Ptr and Array are looked through. Rows refer to smaller rows: above the row, the fuel is of no account
  unfoldable pub look_row : (fuel r : ℕ) → Look
  look_row zero r = fine
  look_row (suc f) r =
      let k = kind s r in
      elim (eqb k Ident) [
        | true ↦ look_name (row_name s r)
        | false ↦ elim (eqb k Ref || eqb k Ptr || eqb k Array) [
          | true ↦ look_row f (inner s r)
          | false ↦ definite (eqb k RustBox || eqb k RustVec || eqb k Str || eqb k Fn || eqb k Void || eqb k SliceRef)
        ]
      ]

  unfoldable pub looks_fields : ℕ → ℕ
  looks_fields n = let i = struct_of t n in if' eqb i no_item then 0 else field_count s i

  unfoldable pub looks_look : ℕ → ℕ → Look
  looks_look n k = look_row (rows s) (field s (struct_of t n) k)

  abbrev pub looks_of : Looks
  looks_of = record { fields = looks_fields; look = looks_look }

-- ## The search, by the improper names found so far

-- a field makes its struct improper: it is improper itself, or leads to one of those names
abbrev pub hits : Words → Look → Bool
hits w fine = false
hits w bad = true
hits w (to n) = w ∋ n

module _ (g : Looks) where
  -- one of the first k fields of name n's last struct does so
  unfoldable pub found : Words → (n k : ℕ) → Bool
  found w n zero = false
  found w n (suc k) = found w n k || hits w (g.look n k)

  -- name n is not in the set yet, and its last struct is improper
  unfoldable pub is_new : Words → (n : ℕ) → Bool
  is_new w n = not (w ∋ n) && found w n (g.fields n)

  -- one pass, over the names below k in order: each that is new enters; and whether one did
  unfoldable pub pass_to : (k : ℕ) → Words → Words × Bool
  pass_to zero w = (w, false)
  pass_to (suc k) w = let r = pass_to k w in elim (is_new r.0 k) [ true ↦ (add r.0 k, true) | false ↦ r ]

  -- at most f passes
  unfoldable pub search : (f : ℕ) → Words → Words
  search zero w = w
  search (suc f) w = let r = pass_to name_count w in elim r.1 [ true ↦ search f r.0 | false ↦ r.0 ]

-- the improper names of a sheet: each pass but the last finds one of 256, so 257 are enough
unfoldable pub improper_of : List ℕ → Types → Words
improper_of s t = search (looks_of s t) 257 empty
