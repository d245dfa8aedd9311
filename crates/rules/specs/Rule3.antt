-- Rule 3: what the order, the cyclic diagnostics, the tiers and the improper set are to be, over chains of fields. Its words are read off the sheet and the
-- answer; nothing here is computed by a walk, a search or a table. The clauses on orders and tiers are of any relation between struct items: one item holds
-- another. Fields with a plain name are the first.
-- Assumes nothing: these are definitions.
use Rattle.std.specs.Prelude.{ℕ, suc, ◌≤◌, ◌<◌, min, ◌≡◌, ◌⊎◌, ◌↔◌, List, ◌∷◌, T, get_or, take}
use Rattle.rules.specs.Numbers.{name_rust_string, Ident, RustBox, RustVec, Ref, Ptr, Str, SliceRef, Array, Fn, Void, Struct, RustType, TypeAlias}
use Rattle.rules.specs.Numbers.{atom_count, name_count, improper_set}
use Rattle.std.specs.Prelude.{Ok}
use Rattle.rules.specs.declared.Diagnostic.{Diagnostic}
use Rattle.rules.specs.Count.{count, place}
use Rattle.rules.specs.Names.{Words, empty, ◌∋◌}
use Rattle.rules.specs.View.{kind, row_name, inner, items, item_kind, item_name, field_count, field}
use Rattle.rules.specs.Collect.{structs_to}
use Rattle.rules.specs.declared.Answer.{Answer}
use Rattle.rules.specs.Answer.{name_set, call}
use Rattle.rules.specs.Report.{report}

-- a list has an entry that
pub data Some {A : Type 0} (P : A → Type 0) : List A → Type 0 where
  first : {x : A} {xs : List A} → P x → Some P (x ∷ xs)
  later : {x : A} {xs : List A} → Some P xs → Some P (x ∷ xs)

-- ## Chains of a relation between items

module _ (Holds : (i k : ℕ) → Type 0) where
  -- each link of a chain begins where the one before led to
  pub data Chain : ℕ → ℕ → Type 0 where
    one : {i k : ℕ} → Holds i k → Chain i k
    more : {i j k : ℕ} → Holds i j → Chain j k → Chain i k

  abbrev pub Cycle : Type 0
  Cycle = (i : ℕ) × Chain i i

  pub record Endless (i : ℕ) : Type 0 where
    pub at : ℕ → ℕ
    pub begins : at 0 ≡ i
    pub goes_on : (n : ℕ) → Holds (at n) (at (suc n))

module _ (s : List ℕ) where
  -- ## Words

  -- a struct item is one of kind 1
  pub record IsStruct (i : ℕ) : Type 0 where
    pub below : i < items s
    pub is_struct : item_kind s i ≡ Struct

  -- a name's last struct is the last such item bearing it
  pub record LastStruct (name i : ℕ) : Type 0 where
    pub struct : IsStruct i
    pub bears : item_name s i ≡ name
    pub last : (j : ℕ) → IsStruct j → item_name s j ≡ name → j ≤ i

  -- some item of that kind bears the name
  pub record Borne (k name : ℕ) : Type 0 where
    pub item : ℕ
    pub below : item < items s
    pub is_kind : item_kind s item ≡ k
    pub bears : item_name s item ≡ name

  -- ## Which item holds which

  -- some field of struct item i leads to item k, as rows lead to items
  pub record HoldsBy (Leads : (row k : ℕ) → Type 0) (i k : ℕ) : Type 0 where
    pub holder : IsStruct i
    pub number : ℕ
    pub is_field : number < field_count s i
    pub leads : Leads (field s i number) k

  -- a row that is a plain name leads to the name's last struct, atoms included
  pub record PlainLeads (row k : ℕ) : Type 0 where
    pub plain : kind s row ≡ Ident
    pub last : LastStruct (row_name s row) k

  -- some field of struct item i is a plain name, whose last struct is item k
  abbrev pub Holds : (i k : ℕ) → Type 0
  Holds = HoldsBy PlainLeads

  -- ## Improper names

  -- from a row through Ref, Ptr and Array to one that is none of them
  pub data Through : ℕ → ℕ → Type 0 where
    end : {r : ℕ} → (kind s r ≡ Ref → ⊥) → (kind s r ≡ Ptr → ⊥) → (kind s r ≡ Array → ⊥) → Through r r
    into : {r q : ℕ} → (kind s r ≡ Ref) ⊎ ((kind s r ≡ Ptr) ⊎ (kind s r ≡ Array)) → Through (inner s r) q → Through r q

  -- a row that is improper by itself
  pub data Bad (r : ℕ) : Type 0 where
    rust_string : kind s r ≡ Ident → row_name s r ≡ name_rust_string → Bad r
    box : kind s r ≡ RustBox → Bad r
    vec : kind s r ≡ RustVec → Bad r
    str : kind s r ≡ Str → Bad r
    fn : kind s r ≡ Fn → Bad r
    void : kind s r ≡ Void → Bad r
    slice : kind s r ≡ SliceRef → Bad r
    -- no atom and no struct, but borne by a RustType or an alias
    name : kind s r ≡ Ident → atom_count ≤ row_name s r → (Borne Struct (row_name s r) → ⊥)
        → Borne RustType (row_name s r) ⊎ Borne TypeAlias (row_name s r) → Bad r

  -- the first field belongs to the name's last struct; a name that is no atom but a struct's leads to its last struct
  pub data Improper : (name : ℕ) → Type 0 where
    ends : {n i r : ℕ} (j : ℕ) → LastStruct n i → j < field_count s i → Through (field s i j) r → Bad r → Improper n
    goes : {n i r : ℕ} (j : ℕ) → LastStruct n i → j < field_count s i → Through (field s i j) r → kind s r ≡ Ident → atom_count ≤ row_name s r
        → Improper (row_name s r) → Improper n

  -- ## The rule of an order, and the rule of tiers, of any such relation

  module _ (Holds : (i k : ℕ) → Type 0) where
    -- of an order only the first places count, as many as there are struct items
    pub record OrderRule (order : List ℕ) : Type 0 where
      -- they hold each struct item once, and nothing else
      pub once : (i : ℕ) → IsStruct i → count i (take (structs_to s (items s)) order) ≡ 1
      pub none_else : (i : ℕ) → (IsStruct i → ⊥) → count i (take (structs_to s (items s)) order) ≡ 0
      -- each stands after all that it holds exactly where no chain leads back to its start
      pub after : ((i k : ℕ) → Holds i k → place (take (structs_to s (items s)) order) k < place (take (structs_to s (items s)) order) i) ↔ (Cycle Holds → ⊥)

    -- a table of tiers has 255 where an endless chain starts, 0 without edges, else one more than the largest tier held, at most 254
    pub record TierRule (t : List ℕ) : Type 0 where
      pub endless : (i : ℕ) → IsStruct i → (get_or t i 0 ≡ 255) ↔ Endless Holds i
      pub bare : (i : ℕ) → IsStruct i → ((k : ℕ) → Holds i k → ⊥) → get_or t i 0 ≡ 0
      pub no_less : (i k : ℕ) → IsStruct i → (Endless Holds i → ⊥) → Holds i k → min 254 (suc (get_or t k 0)) ≤ get_or t i 0
      pub no_more : (i : ℕ) → IsStruct i → (Endless Holds i → ⊥) → (get_or t i 0 ≡ 0) ⊎ ((k : ℕ) × Holds i k × (get_or t i 0 ≡ min 254 (suc (get_or t k 0))))
      pub others : (i : ℕ) → (IsStruct i → ⊥) → get_or t i 0 ≡ 0

  -- ## Rule 3

  -- there is a cyclic diagnostic exactly where some chain of plain fields leads back to its start
  abbrev pub Cyclic : (report : List Diagnostic) → Type 0
  Cyclic report = Some (λ (d : Diagnostic). d.message ≡ 2) report ↔ Cycle Holds

  -- of a set of names
  pub record ImproperRule (w : Words) : Type 0 where
    pub improper : (n : ℕ) → n < name_count → T (w ∋ n) ↔ Improper n

  -- of an answer and the full report
  pub record Rule3 (a : Answer) (report : List Diagnostic) : Type 0 where
    pub order : OrderRule Holds a.order
    pub cyclic : Cyclic report
    pub improper : ImproperRule (get_or a.sets improper_set (name_set empty)).words

  -- the rule of tiers, of plain fields
  abbrev pub Tiers3 : (t : List ℕ) → Type 0
  Tiers3 = TierRule Holds

-- what holds of each call that is answered accepted: laws/proofs/Rule3/Due.antt
abbrev pub Due : Type 0
Due =
    (s scratch : List ℕ) (list : List Diagnostic) → (call s scratch list).answer.verdict ≡ Ok tt
    → Rule3 s (call s scratch list).answer (report s) × Tiers3 s (call s scratch list).answer.tiers
