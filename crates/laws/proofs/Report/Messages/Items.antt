-- What each diagnostic of an item is: message 27 to 58, at the item, its fields, arguments, return, derives or lifetimes; 28 at the last untrusted CxxType.
-- Assumes nothing.
use Prim.Native.Nat.{ℕ, zero, suc, ◌≤◌, ◌<◌}
use mathlib.Core.Path.{◌≡◌, refl}
use mathlib.Core.Logic.{◌⊎◌, inl, inr}
use mathlib.Core.Bool.{Bool, true, false}
use mathlib.Core.List.{List}
use native.Mathlib.Omega.{arith}
use lib.Dec.{T, leb, leb→le}
use lib.ListN.{get_or}
use Rattle.rules.specs.Numbers.{Struct, Enum, Impl}
use Rattle.rules.specs.declared.Place.{Place}
use Rattle.rules.specs.declared.Place.TheVariants.{R, G, I, F, A, O, D, L}
use Rattle.rules.specs.declared.Diagnostic.{Diagnostic}
use Rattle.rules.specs.Base.{if'◌then◌else◌}
use Rattle.rules.specs.Diagnostics.{tell}
use Rattle.rules.specs.View.{row_name, item_kind, is_type, is_function, item_name, lifetime_count, derive_count, field_count, enum_defaults}
use Rattle.rules.specs.View.{arg_count}
use Rattle.rules.specs.Types.{Types, untrusted_of, reasons_for}
use Rattle.rules.specs.Check as K
use Rattle.laws.proofs.Base.Forms.{All, none, more, ◌&◌, branch, loop, said}
use Rattle.laws.proofs.Sheet.Accepted.Items.{kind-type, kind-function}
use Rattle.laws.proofs.Report.Messages.Rows.{between, no_row}

module _ (s : List ℕ) (t : Types) (i : ℕ) where
  -- the item, or its name's last untrusted CxxType; a field of a struct, an argument or the return of a function, a derive of a type, a lifetime
  abbrev pub ItemPlace : Place → Type 0
  ItemPlace (R r) = ⊥
  ItemPlace (G r j) = ⊥
  ItemPlace (I k) = (k ≡ i) ⊎ (k ≡ untrusted_of t (item_name s i))
  ItemPlace (F k j) = (k ≡ i) × (item_kind s i ≡ Struct) × (j < field_count s i)
  ItemPlace (A k j) = (k ≡ i) × (is_function s i ≡ true) × (j < arg_count s i)
  ItemPlace (O k) = k ≡ i
  ItemPlace (D k j) = (k ≡ i) × (is_type s i ≡ true) × (j < derive_count s i)
  ItemPlace (L k j) = (k ≡ i) × ((is_type s i ≡ true) ⊎ ((is_function s i ≡ true) ⊎ (item_kind s i ≡ Impl))) × (j < lifetime_count s i)

  -- 0, a branch of `describe`, an enum's default variants, or the reasons of the item's name
  abbrev pub ItemDetail : ℕ → Type 0
  ItemDetail x = (x ≤ 21) ⊎ (((item_kind s i ≡ Enum) × (x ≡ enum_defaults s i)) ⊎ (x ≡ reasons_for t (item_name s i)))

  pub record OfItem (d : Diagnostic) : Type 0 where
    pub message : T (between 27 58 d.message)
    pub place : ItemPlace d.place
    pub detail : ItemDetail d.detail

if-le : (n : ℕ) (b : Bool) {x y : ℕ} → x ≤ n → y ≤ n → (if' b then x else y) ≤ n
unfolding if'◌then◌else◌
if-le n true p q = p
if-le n false p q = q

module _ (s : List ℕ) (t : Types) where
  -- the branches of `describe` are 1 to 21
  or_else : (b : Bool) (x : ℕ) {y : ℕ} → T (leb x 21) → y ≤ 21 → (if' b then x else y) ≤ 21
  or_else b x t q = if-le 21 b (leb→le x 21 t) q

  describe-ident-few : (n : ℕ) → K.describe_ident s t n ≤ 21
  unfolding K.describe_ident
  describe-ident-few n = or_else _ 1 tt (or_else _ 2 tt (or_else _ 3 tt (or_else _ 4 tt (or_else _ 5 tt (or_else _ 6 tt (or_else _ 7 tt (omega arith)))))))

  pub describe-few : (r : ℕ) → K.describe s t r ≤ 21
  unfolding K.describe
  describe-few r =
      if-le 21 _ (describe-ident-few (row_name s r))
      (or_else _ 9 tt (or_else _ 10 tt (or_else _ 11 tt (or_else _ 12 tt (or_else _ 13 tt (or_else _ 14 tt
      (or_else _ 15 tt (or_else _ 16 tt (or_else _ 17 tt (or_else _ 18 tt (or_else _ 19 tt (or_else _ 20 tt (omega arith)))))))))))))

module _ (s : List ℕ) (t : Types) (i : ℕ) where
  abbrev Own : Diagnostic → Type 0
  Own = OfItem s t i

  told_with : (m : ℕ) {p : Place} (x : ℕ) → ItemDetail s t i x → T (between 27 58 m) → ItemPlace s t i p → All Own (tell m p x)
  told_with m x l h q = more (record { message = h; place = q; detail = l }) none

  told_at : (m : ℕ) {p : Place} → T (between 27 58 m) → ItemPlace s t i p → All Own (tell m p 0)
  told_at m h q = told_with m 0 (inl (omega arith)) h q

  own : (m : ℕ) → T (between 27 58 m) → All Own (tell m (I i) 0)
  own m h = told_at m h (inl refl)

  reserved : All Own (K.check_reserved_name s t i)
  unfolding K.check_reserved_name
  reserved = said _ (own 57 tt)

  abbrev HasLifetimes : Type 0
  HasLifetimes = (is_type s i ≡ true) ⊎ ((is_function s i ≡ true) ⊎ (item_kind s i ≡ Impl))

  lifetimes : HasLifetimes → All Own (K.check_lifetimes s t i)
  unfolding K.check_lifetimes K.check_reserved_lifetime
  lifetimes e = loop _ _ (λ j l. said _ (told_at 58 tt (refl, e, l)))

  struct : item_kind s i ≡ Struct → is_type s i ≡ true → All Own (K.check_api_struct s t i)
  unfolding K.check_api_struct K.check_struct_derive K.check_struct_field
  struct e y =
      reserved & lifetimes (inl y) & said _ (own 27 tt) & said _ (told_at 28 tt (inr refl))
      & loop _ _ (λ j l. said _ (told_at 29 tt (refl, y, l)) & said _ (told_at 30 tt (refl, y, l)))
      & loop _ _ (λ j l. branch _ (told_at 31 tt (refl, e, l)) (said _ (told_with 32 _ (inl (describe-few s t _)) tt (refl, e, l))))

  enum : item_kind s i ≡ Enum → is_type s i ≡ true → All Own (K.check_api_enum s t i)
  unfolding K.check_api_enum K.check_enum_derive
  enum e y =
      reserved & lifetimes (inl y) & said _ (own 33 tt)
      & loop _ _ (λ j l. said _ (told_with 34 _ (inr (inl (e, refl))) tt (refl, y, l)) & said _ (told_at 35 tt (refl, y, l)))

  extern : is_type s i ≡ true → All Own (K.check_api_type s t i)
  unfolding K.check_api_type K.check_opaque_derive
  extern y =
      reserved & lifetimes (inl y) & loop _ _ (λ j l. said _ (told_at 36 tt (refl, y, l))) & said _ (own 37 tt)
      & said _ (told_with 38 _ (inr (inr refl)) tt (inl refl))

  generics : All Own (K.check_fn_generics s t i)
  unfolding K.check_fn_generics
  generics = branch _ (said _ (own 39 tt)) (said _ (own 40 tt))

  receiver : All Own (K.check_fn_receiver s t i)
  unfolding K.check_fn_receiver
  receiver = branch _ (own 41 tt) (branch _ (own 42 tt) (branch _ (own 43 tt) (said _ (own 44 tt))))

  self_type : All Own (K.check_fn_self_type s t i)
  unfolding K.check_fn_self_type
  self_type = branch _ (own 45 tt) (said _ (own 46 tt))

  arg : is_function s i ≡ true → (j : ℕ) → j < arg_count s i → All Own (K.check_fn_arg s t i j)
  unfolding K.check_fn_arg
  arg y j l =
      branch _ (said _ (told_at 47 tt (refl, y, l)))
      (branch _ (said _ (told_at 48 tt (refl, y, l))) (said _ (told_with 49 _ (inl (describe-few s t _)) tt (refl, y, l))))

  result : All Own (K.check_fn_return s t i)
  unfolding K.check_fn_return
  result = branch _ none (branch _ (told_at 50 tt refl) (said _ (told_with 51 _ (inl (describe-few s t _)) tt refl)))

  mut_return : All Own (K.check_mut_return_restriction s t i)
  unfolding K.check_mut_return_restriction
  mut_return = branch _ none (branch _ none (branch _ none (said _ (own 56 tt))))

  function : is_function s i ≡ true → All Own (K.check_api_fn s t i)
  unfolding K.check_api_fn
  function y = generics & lifetimes (inr (inl y)) & branch _ receiver (branch _ none self_type) & loop _ _ (arg y) & result & branch _ mut_return none

  alias : is_type s i ≡ true → All Own (K.check_api_type_alias s t i)
  unfolding K.check_api_type_alias
  alias y = lifetimes (inl y) & loop _ _ (λ j l. told_at 52 tt (refl, y, l))

  impl : item_kind s i ≡ Impl → All Own (K.check_api_impl s t i)
  unfolding K.check_api_impl K.check_impl_self
  impl e = lifetimes (inr (inr e)) & branch _ (own 53 tt) (branch _ (own 55 tt) (said _ (own 54 tt)))

  by-item-kind : (k : ℕ) → item_kind s i ≡ k → All Own (get_or (K.api_checks s t) k (K.no_check s t) i)
  unfolding K.api_checks
  by-item-kind zero e = no_row s t i
  by-item-kind (suc zero) e = struct e (kind-type s i 1 e)
  by-item-kind (suc (suc zero)) e = enum e (kind-type s i 2 e)
  by-item-kind (suc (suc (suc zero))) e = extern (kind-type s i 3 e)
  by-item-kind (suc (suc (suc (suc zero)))) e = extern (kind-type s i 4 e)
  by-item-kind (suc (suc (suc (suc (suc zero))))) e = function (kind-function s i 5 e)
  by-item-kind (suc (suc (suc (suc (suc (suc zero)))))) e = function (kind-function s i 6 e)
  by-item-kind (suc (suc (suc (suc (suc (suc (suc zero))))))) e = alias (kind-type s i 7 e)
  by-item-kind (suc (suc (suc (suc (suc (suc (suc (suc zero)))))))) e = impl e
  by-item-kind (suc (suc (suc (suc (suc (suc (suc (suc (suc k))))))))) e = no_row s t i

  pub item-told : All (OfItem s t i) (K.check_api s t i)
  unfolding K.check_api
  item-told = by-item-kind (item_kind s i) refl
