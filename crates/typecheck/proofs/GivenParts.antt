-- What the check of a function, or of a collected row, is given.
-- Assumes nothing.
use Prim.Native.Nat.{ℕ, ◌<◌}
use mathlib.Core.Path.{◌≡◌, ◌∙◌}
use mathlib.Core.List.{List}
use mathlib.Core.Bool.{Bool, true}
use lib.ListN.{get_or}
use Rattle.rules.specs.View.{item_kind, function_kind}
use Rattle.rules.specs.Types.{Types, types_of}
use Rattle.laws.proofs.Sheet.Accepted.Items.{kind-function}
use Rattle.laws.proofs.Sheet.Collect.{all-below}
use Rattle.typecheck_rows.specs.Given.{RowGiven}
use Rattle.names.specs.Known.{sheet}
use Rattle.typecheck.specs.declared.Given.{Given}
use Rattle.typecheck.specs.Given.{RowsGiven, FunctionGiven, ItemGiven}

-- item i is a function
pub function-given : {g : Given} {i k : ℕ} → ItemGiven g i → item_kind (sheet g.known.now) i ≡ k → function_kind k ≡ true → FunctionGiven g i
function-given {g} {i} {k} given e h =
    record {
      faults_right = given.tables.faults_right;
      mut_return =
          record {
            accepted = given.tables.accepted;
            muts_right = given.tables.muts_right;
            below = given.below;
            function = kind-function (sheet g.known.now) i k e ∙ h;
          };
    }

-- pair k of the scratch is a row
module _ {s : List ℕ} {t : Types} {sizes : List Bool} {scratch : List ℕ} {count : ℕ} (given : RowsGiven s t sizes scratch count) where
  pub row-given : (k : ℕ) {r : ℕ} → k < count → r ≡ get_or (types_of s).all k 0 → RowGiven s t sizes r
  row-given k m e =
      record {
        sized = given.sized;
        below = rw e (all-below s given.sized.accepted k (rw given.count at m));
      }
