-- Some entry of a list passes, as the code finds out: entry by entry (`any-turn`), over what a function pointer shows (`any-fn`), and over the arguments of a
-- function item by the table of `FindLifetimeMut` (`any-args`).
-- Assumes nothing.
use Prim.Native.Nat.{ℕ, ◌+◌, ◌<◌}
use Rattle.std.specs.Prelude.{Option, Some, None, eqb}
use Rattle.std.specs.Option.{MatchOption}
use mathlib.Core.Path.{◌≡◌, refl, sym, ◌∙◌}
use mathlib.Core.List.{List, [], ◌∷◌, ◌++◌}
use mathlib.Core.Bool.{Bool, true, false, ◌||◌}
use native.Mathlib.Numerals.{add-one}
use Rattle.rules.specs.Numbers.{Fn, no_row}
use Rattle.rules.specs.Kinds.{some_unless}
use Rattle.rules.specs.Base.{if'◌then◌else◌, over, any_of}
use Rattle.rules.specs.Format.{offset}
use Rattle.rules.specs.View.{rows, kind, or_nothing, entries, fn_return, fn_args, shown, arg_count, arg, args}
use Rattle.rules.specs.Types.{Types}
use Rattle.rules.specs.Check.{find_lifetime_mut}
use Rattle.laws.specs.RowTable.{marked}
use Rattle.laws.proofs.Base.Members.{in-over}
use Rattle.laws.proofs.Sheet.Collect.Shown.{shown-fn}
use Rattle.laws.proofs.Rows.Fuel.{any_same}
use Rattle.laws.proofs.Rows.RowTable.{read_is}
use Rattle.row_tables.specs.Tables.{one_of, LifetimeMutRows}

module _ (p : ℕ → Bool) where
  any_append : (a b : List ℕ) → any_of p (a ++ b) ≡ (any_of p a || any_of p b)
  unfolding any_of
  any_append [] b = refl
  any_append (x ∷ a) b = by (any_append a b) (p x)
    where
      by : any_of p (a ++ b) ≡ (any_of p a || any_of p b) → (c : Bool)
          → elim c as (λ _. Bool) [ true ↦ true | false ↦ any_of p (a ++ b) ] ≡ (elim c as (λ _. Bool) [ true ↦ true | false ↦ any_of p a ] || any_of p b)
      by e true = refl
      by e false = e

  pub any-one : (x : ℕ) → any_of p (x ∷ []) ≡ p x
  unfolding any_of
  any-one x = by (p x)
    where
      by : (c : Bool) → elim c as (λ _. Bool) [ true ↦ true | false ↦ false ] ≡ c
      by true = refl
      by false = refl

  -- an option; of an entry the test gives what P says
  pub any-option : (o : Option ℕ) (x : Bool) (P : ℕ → Type 0) → MatchOption o (x ≡ false) P → ((r : ℕ) → P r → x ≡ p r) → x ≡ any_of p (one_of o)
  unfolding any_of
  any-option None x P h some = h
  any-option (Some r) x P h some = some r h ∙ sym (any-one r)

  -- a turn of a loop over a list
  pub any-turn : (f : ℕ → ℕ) (j : ℕ) {a b c : Bool} → a ≡ any_of p (over j (λ k. f k ∷ [])) → b ≡ p (f j) → c ≡ (a || b)
      → c ≡ any_of p (over (j + 1) (λ k. f k ∷ []))
  unfolding over
  any-turn f j q r e = rw (add-one, over, any_append, any-one, ← q, ← r) e

-- a return row as an option
pub one_or_nothing : (r : ℕ) → one_of (some_unless no_row r) ≡ or_nothing r
unfolding some_unless or_nothing if'◌then◌else◌
one_or_nothing r = go (eqb r no_row)
  where
    go : (b : Bool) → one_of (if' b then None else Some r) ≡ if' b then [] else r ∷ []
    go true = refl
    go false = refl

-- what a function pointer shows
module _ (s : List ℕ) (r : ℕ) (p : ℕ → Bool) where
  pub any-fn : kind s r ≡ Fn
      → (any_of p (one_of (some_unless no_row (fn_return s r))) || any_of p (entries s (offset s r + 6))) ≡ any_of p (shown s r)
  unfolding fn_args
  any-fn e = rw (shown-fn s r e, one_or_nothing (fn_return s r)) (sym (any_append p (or_nothing (fn_return s r)) (fn_args s r)))

-- the arguments of a function item
module _ (s : List ℕ) (t : Types) (i : ℕ) (u : List Bool) where
  pub any-args : LifetimeMutRows s t u → ((j : ℕ) → j < arg_count s i → arg s i j < rows s)
      → any_of (marked u) (args s i) ≡ any_of (find_lifetime_mut s t (rows s)) (args s i)
  unfolding args entries arg arg_count
  any-args right below =
      any_same (marked u) (find_lifetime_mut s t (rows s)) (args s i) (λ x h.
      let k = in-over (arg s i) (arg_count s i) x h in read_is (λ b. b) false right x (rw k.2 (below k.0 k.1)))
