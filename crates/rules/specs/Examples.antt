-- The eleven sheets of docs/RULES.md and sheets for what came after them, in one table with what is expected of each, and one theorem; and the examples of the
-- refusal table.
-- Assumes nothing.
use native.Mathlib.Omega.{arith}
use Rattle.std.specs.Prelude.{ℕ, ◌<◌, ◌≡◌, refl, List, [], ◌∷◌, ◌++◌, map, replicate}
use Rattle.rules.specs.declared.Place.TheVariants.{R, I, F, A, D}
use Rattle.rules.specs.declared.UnpinReason.TheVariants.{Row, Item}
use Rattle.rules.specs.Diagnostics.{say, tell}
use Rattle.rules.specs.declared.Fault.{Fault}
use Rattle.rules.specs.declared.Fault.TheVariants.{ShortScratch, LongSheet, ShortSheet, TooMany, Misplaced, BadValue, BadRow, EqualRow}
use Rattle.rules.specs.Answer.{Outcome, refused}
use Rattle.rules.specs.Table.{Expected, outcome_of, blanks, scratch}
use Rattle.rules.specs.Computed.{bytes, computed}
use Rattle.rules.specs.Reach.{Reached, here, on}

-- a sheet, as pairs, and what is expected of it
pub record Case : Type 0 where
  pub sheet : List ℕ
  pub expected : Expected

abbrev pub cases : List Case
cases =
    -- 1. all empty
    record {
      sheet = 0 ∷ 0 ∷ [];
      expected = record { name_sets = [] ∷ [] ∷ [] ∷ [] ∷ [] ∷ [] ∷ [] ∷ [] ∷ []; reasons = []; unpin = []; order = []; tiers = []; report = [] };
    }
    -- 2. the worked sheet
    ∷ record {
      sheet = 1 ∷ 2 ∷ 10 ∷ 14 ∷ 26 ∷ 0 ∷ 25 ∷ 1 ∷ 24 ∷ 0 ∷ 0 ∷ 1 ∷ 0 ∷ 1 ∷ 25 ∷ 0 ∷ 0 ∷ 1 ∷ 0 ∷ [];
      expected = record {
        name_sets = (24 ∷ 25 ∷ []) ∷ [] ∷ [] ∷ [] ∷ [] ∷ [] ∷ [] ∷ [] ∷ [];
        reasons = [];
        unpin = [];
        order = (1 ∷ 0 ∷ []);
        tiers = (255 ∷ 255 ∷ []);
        report = say 2 (F 1 0) ++ say 2 (F 0 0);
      };
    }
    -- 3. its two structs exchanged
    ∷ record {
      sheet = 1 ∷ 2 ∷ 10 ∷ 14 ∷ 26 ∷ 0 ∷ 25 ∷ 1 ∷ 25 ∷ 0 ∷ 0 ∷ 1 ∷ 0 ∷ 1 ∷ 24 ∷ 0 ∷ 0 ∷ 1 ∷ 0 ∷ [];
      expected = record {
        name_sets = (24 ∷ 25 ∷ []) ∷ [] ∷ [] ∷ [] ∷ [] ∷ [] ∷ [] ∷ [] ∷ [];
        reasons = [];
        unpin = [];
        order = (0 ∷ 1 ∷ []);
        tiers = (255 ∷ 255 ∷ []);
        report = say 2 (F 0 0);
      };
    }
    -- 4. a struct that holds an array of itself
    ∷ record {
      sheet = 2 ∷ 1 ∷ 10 ∷ 14 ∷ 20 ∷ 0 ∷ 24 ∷ 11 ∷ 3 ∷ 0 ∷ 1 ∷ 24 ∷ 0 ∷ 0 ∷ 1 ∷ 1 ∷ [];
      expected = record {
        name_sets = (24 ∷ []) ∷ [] ∷ [] ∷ [] ∷ [] ∷ [] ∷ [] ∷ [] ∷ [];
        reasons = [];
        unpin = [];
        order = (0 ∷ []);
        tiers = (0 ∷ []);
        report = [];
      };
    }
    -- 5. a name twice
    ∷ record {
      sheet = 2 ∷ 2 ∷ 12 ∷ 16 ∷ 20 ∷ 32 ∷ 0 ∷ 24 ∷ 0 ∷ 2 ∷ 1 ∷ 24 ∷ 0 ∷ 0 ∷ 1 ∷ 0 ∷ 1 ∷ 24 ∷ 0 ∷ 0 ∷ 1 ∷ 1 ∷ [];
      expected = record {
        name_sets = (24 ∷ []) ∷ [] ∷ [] ∷ [] ∷ [] ∷ [] ∷ [] ∷ [] ∷ [];
        reasons = [];
        unpin = [];
        order = (1 ∷ 0 ∷ []);
        tiers = (1 ∷ 0 ∷ []);
        report = say 1 (I 1);
      };
    }
    -- 6. a struct named U8 with a field named U8
    ∷ record {
      sheet = 1 ∷ 1 ∷ 8 ∷ 12 ∷ 0 ∷ 2 ∷ 1 ∷ 2 ∷ 0 ∷ 0 ∷ 1 ∷ 0 ∷ [];
      expected = record {
        name_sets = (2 ∷ []) ∷ [] ∷ [] ∷ [] ∷ [] ∷ [] ∷ [] ∷ [] ∷ [];
        reasons = [];
        unpin = [];
        order = (0 ∷ []);
        tiers = (255 ∷ []);
        report = say 2 (F 0 0) ++ say 57 (I 0);
      };
    }
    -- 7. SharedPtr, UniquePtr and CxxVector of Bool as arguments
    ∷ record {
      sheet = 4 ∷ 1 ∷ 14 ∷ 18 ∷ 22 ∷ 26 ∷ 30 ∷ 0 ∷ 0 ∷ 4 ∷ 0 ∷ 3 ∷ 0 ∷ 6 ∷ 0 ∷ 5 ∷ 30 ∷ 0 ∷ 0 ∷ 0 ∷ 65535 ∷ 3 ∷ 1 ∷ 2 ∷ 3 ∷ [];
      expected = record {
        name_sets = [] ∷ [] ∷ [] ∷ [] ∷ [] ∷ [] ∷ [] ∷ [] ∷ [];
        reasons = [];
        unpin = [];
        order = [];
        tiers = [];
        report = say 9 (R 2) ++ say 17 (R 3)
            ++ tell 49 (A 0 2) 17;
      };
    }
    -- 8. Default on enums with 0, 1 and 2 defaults
    ∷ record {
      sheet = 1 ∷ 3 ∷ 12 ∷ 16 ∷ 34 ∷ 52 ∷ 0 ∷ 2 ∷ 2 ∷ 24 ∷ 0 ∷ 1 ∷ 3 ∷ 0 ∷ 0 ∷ 2 ∷ 0 ∷ 2 ∷ 25 ∷ 0 ∷ 1 ∷ 3 ∷ 0 ∷ 0 ∷ 2 ∷ 1 ∷ 2 ∷ 26 ∷ 0 ∷ 1 ∷ 3 ∷ 0 ∷ 0 ∷ 2 ∷ 2
          ∷ [];
      expected = record {
        name_sets = [] ∷ (24 ∷ 25 ∷ 26 ∷ []) ∷ [] ∷ [] ∷ [] ∷ [] ∷ [] ∷ [] ∷ [];
        reasons = [];
        unpin = [];
        order = [];
        tiers = [];
        report = tell 34 (D 0 0) 0 ++ tell 34 (D 2 0) 2;
      };
    }
    -- 9. no variants, without and with an explicit repr
    ∷ record {
      sheet = 1 ∷ 2 ∷ 10 ∷ 14 ∷ 30 ∷ 0 ∷ 2 ∷ 2 ∷ 24 ∷ 0 ∷ 0 ∷ 0 ∷ 0 ∷ 0 ∷ 0 ∷ 2 ∷ 25 ∷ 0 ∷ 0 ∷ 0 ∷ 1 ∷ 0 ∷ 0 ∷ [];
      expected = record {
        name_sets = [] ∷ (24 ∷ 25 ∷ []) ∷ [] ∷ [] ∷ [] ∷ [] ∷ [] ∷ [] ∷ [];
        reasons = [];
        unpin = [];
        order = [];
        tiers = [];
        report = say 33 (I 0);
      };
    }
    -- 10. A holds &B, B holds RustString
    ∷ record {
      sheet = 3 ∷ 2 ∷ 14 ∷ 18 ∷ 24 ∷ 28 ∷ 40 ∷ 0 ∷ 25 ∷ 7 ∷ 0 ∷ 0 ∷ 0 ∷ 15 ∷ 1 ∷ 24 ∷ 0 ∷ 0 ∷ 1 ∷ 1 ∷ 1 ∷ 25 ∷ 0 ∷ 0 ∷ 1 ∷ 2 ∷ [];
      expected = record {
        name_sets = (24 ∷ 25 ∷ []) ∷ [] ∷ [] ∷ [] ∷ [] ∷ [] ∷ [] ∷ (24 ∷ 25 ∷ []) ∷ [];
        reasons = [];
        unpin = [];
        order = (0 ∷ 1 ∷ []);
        tiers = (0 ∷ 0 ∷ []);
        report = [];
      };
    }
    -- 11. alias then struct, and struct then alias
    ∷ record {
      sheet = 1 ∷ 4 ∷ 14 ∷ 18 ∷ 26 ∷ 38 ∷ 50 ∷ 0 ∷ 2 ∷ 7 ∷ 24 ∷ 0 ∷ 0 ∷ 1 ∷ 24 ∷ 0 ∷ 0 ∷ 1 ∷ 0 ∷ 1 ∷ 25 ∷ 0 ∷ 0 ∷ 1 ∷ 0 ∷ 7 ∷ 25 ∷ 0 ∷ 0 ∷ [];
      expected = record {
        name_sets = (24 ∷ 25 ∷ []) ∷ [] ∷ (24 ∷ 25 ∷ []) ∷ [] ∷ (24 ∷ 25 ∷ []) ∷ [] ∷ [] ∷ [] ∷ [];
        reasons = [];
        unpin = [];
        order = (1 ∷ 2 ∷ []);
        tiers = [];
        report = say 1 (I 3);
      };
    }
    -- one sheet more, for a slip that the eleven do not show: WeakPtr of Bool as an argument is let stand
    ∷ record {
      sheet = 2 ∷ 1 ∷ 10 ∷ 14 ∷ 18 ∷ 0 ∷ 0 ∷ 5 ∷ 0 ∷ 5 ∷ 30 ∷ 0 ∷ 0 ∷ 0 ∷ 65535 ∷ 1 ∷ 1 ∷ [];
      expected = record { name_sets = [] ∷ [] ∷ [] ∷ [] ∷ [] ∷ [] ∷ [] ∷ [] ∷ []; reasons = []; unpin = []; order = []; tiers = []; report = [] };
    }
    -- reasons to be Unpin. A CxxType alone, and a function over a mutable reference to it
    ∷ record {
      sheet = 2 ∷ 2 ∷ 12 ∷ 16 ∷ 22 ∷ 32 ∷ 0 ∷ 27 ∷ 7 ∷ 1 ∷ 0 ∷ 3 ∷ 27 ∷ 0 ∷ 0 ∷ 0 ∷ 5 ∷ 30 ∷ 0 ∷ 0 ∷ 0 ∷ 65535 ∷ 1 ∷ 1 ∷ [];
      expected = record {
        name_sets = [] ∷ [] ∷ (27 ∷ []) ∷ [] ∷ [] ∷ (27 ∷ []) ∷ [] ∷ [] ∷ [];
        reasons = [];
        unpin = (27, Row 1) ∷ [];
        order = [];
        tiers = [];
        report = say 18 (R 1);
      };
    }
    -- an alias with all three: the reference stands, though a slice is collected after it and a method comes later
    ∷ record {
      sheet = 3 ∷ 3 ∷ 16 ∷ 20 ∷ 26 ∷ 32 ∷ 40 ∷ 58 ∷ 0 ∷ 27 ∷ 7 ∷ 1 ∷ 0 ∷ 10 ∷ 1 ∷ 0 ∷ 7 ∷ 27 ∷ 0 ∷ 0 ∷ 5 ∷ 30 ∷ 0 ∷ 0 ∷ 0 ∷ 65535 ∷ 2 ∷ 1 ∷ 2 ∷ 5 ∷ 31 ∷ 0
          ∷ 0 ∷ 2 ∷ 27 ∷ 1 ∷ 65535 ∷ 0 ∷ [];
      expected = record {
        name_sets = [] ∷ [] ∷ (27 ∷ []) ∷ [] ∷ (27 ∷ []) ∷ [] ∷ (27 ∷ []) ∷ [] ∷ [];
        reasons = (27, 1) ∷ [];
        unpin = (27, Row 1) ∷ [];
        order = [];
        tiers = [];
        report = [];
      };
    }
    -- a receiver after a slice: of two methods the last; a pinned method, a pinned reference and an associated function do not count
    ∷ record {
      sheet = 3 ∷ 5 ∷ 20 ∷ 24 ∷ 30 ∷ 36 ∷ 44 ∷ 62 ∷ 80 ∷ 98 ∷ 0 ∷ 27 ∷ 10 ∷ 1 ∷ 0 ∷ 7 ∷ 3 ∷ 0 ∷ 7 ∷ 27 ∷ 0 ∷ 0 ∷ 5 ∷ 30 ∷ 0 ∷ 0 ∷ 2 ∷ 27 ∷ 1 ∷ 65535 ∷ 0 ∷
          6 ∷ 31 ∷ 0 ∷ 0 ∷ 2 ∷ 27 ∷ 1 ∷ 65535 ∷ 0 ∷ 5 ∷ 32 ∷ 0 ∷ 0 ∷ 2 ∷ 27 ∷ 3 ∷ 65535 ∷ 0 ∷ 5 ∷ 33 ∷ 0 ∷ 0 ∷ 1 ∷ 27 ∷ 1 ∷ 1 ∷ 2 ∷ [];
      expected = record {
        name_sets = [] ∷ [] ∷ (27 ∷ []) ∷ [] ∷ (27 ∷ []) ∷ [] ∷ (27 ∷ []) ∷ [] ∷ [];
        reasons = (27, 1) ∷ [];
        unpin = (27, Item 2) ∷ [];
        order = [];
        tiers = [];
        report = [];
      };
    }
    -- struct and alias of one name, with all three: none
    ∷ record {
      sheet = 4 ∷ 4 ∷ 20 ∷ 24 ∷ 30 ∷ 36 ∷ 40 ∷ 52 ∷ 60 ∷ 78 ∷ 0 ∷ 27 ∷ 7 ∷ 1 ∷ 0 ∷ 10 ∷ 1 ∷ 0 ∷ 0 ∷ 2 ∷ 1 ∷ 27 ∷ 0 ∷ 0 ∷ 1 ∷ 3 ∷ 7 ∷ 27 ∷ 0 ∷ 0 ∷ 5 ∷ 30 ∷
          0 ∷ 0 ∷ 0 ∷ 65535 ∷ 2 ∷ 1 ∷ 2 ∷ 5 ∷ 31 ∷ 0 ∷ 0 ∷ 2 ∷ 27 ∷ 1 ∷ 65535 ∷ 0 ∷ [];
      expected = record {
        name_sets = (27 ∷ []) ∷ [] ∷ (27 ∷ []) ∷ [] ∷ (27 ∷ []) ∷ [] ∷ [] ∷ [] ∷ [];
        reasons = [];
        unpin = [];
        order = (0 ∷ []);
        tiers = (0 ∷ []);
        report = say 1 (I 1);
      };
    }
    -- Self is a name like others: a method of it says nothing of the alias before it
    ∷ record {
      sheet = 0 ∷ 2 ∷ 8 ∷ 16 ∷ 7 ∷ 27 ∷ 0 ∷ 0 ∷ 5 ∷ 30 ∷ 0 ∷ 0 ∷ 2 ∷ 23 ∷ 1 ∷ 65535 ∷ 0 ∷ [];
      expected = record {
        name_sets = [] ∷ [] ∷ (27 ∷ []) ∷ [] ∷ (27 ∷ []) ∷ [] ∷ [] ∷ [] ∷ [];
        reasons = [];
        unpin = [];
        order = [];
        tiers = [];
        report = say 41 (I 1);
      };
    }
    -- and has a reason where an alias bears it
    ∷ record {
      sheet = 0 ∷ 2 ∷ 8 ∷ 16 ∷ 7 ∷ 23 ∷ 0 ∷ 0 ∷ 5 ∷ 30 ∷ 0 ∷ 0 ∷ 2 ∷ 23 ∷ 1 ∷ 65535 ∷ 0 ∷ [];
      expected = record {
        name_sets = [] ∷ [] ∷ (23 ∷ []) ∷ [] ∷ (23 ∷ []) ∷ [] ∷ [] ∷ [] ∷ [];
        reasons = [];
        unpin = (23, Item 1) ∷ [];
        order = [];
        tiers = [];
        report = say 41 (I 1);
      };
    }
    -- a slice, a reference and a receiver that are not mutable: none
    ∷ record {
      sheet = 3 ∷ 3 ∷ 16 ∷ 20 ∷ 26 ∷ 32 ∷ 40 ∷ 58 ∷ 0 ∷ 27 ∷ 10 ∷ 0 ∷ 0 ∷ 7 ∷ 0 ∷ 0 ∷ 7 ∷ 27 ∷ 0 ∷ 0 ∷ 5 ∷ 30 ∷ 0 ∷ 0 ∷ 0 ∷ 65535 ∷ 2 ∷ 1 ∷ 2 ∷ 5 ∷ 31 ∷ 0
          ∷ 0 ∷ 2 ∷ 27 ∷ 0 ∷ 65535 ∷ 0 ∷ [];
      expected = record {
        name_sets = [] ∷ [] ∷ (27 ∷ []) ∷ [] ∷ (27 ∷ []) ∷ [] ∷ (27 ∷ []) ∷ [] ∷ [];
        reasons = (27, 1) ∷ [];
        unpin = [];
        order = [];
        tiers = [];
        report = [];
      };
    }
    -- a slice stands; two names; a reference inside an Fn that is a field; all before what declares the names
    ∷ record {
      sheet = 5 ∷ 4 ∷ 22 ∷ 26 ∷ 32 ∷ 36 ∷ 42 ∷ 52 ∷ 68 ∷ 80 ∷ 88 ∷ 0 ∷ 27 ∷ 10 ∷ 1 ∷ 0 ∷ 0 ∷ 28 ∷ 7 ∷ 1 ∷ 2 ∷ 12 ∷ 0 ∷ 65535 ∷ 1 ∷ 3 ∷ 6 ∷ 30 ∷ 0 ∷ 0 ∷ 0
          ∷ 65535 ∷ 1 ∷ 1 ∷ 1 ∷ 24 ∷ 0 ∷ 0 ∷ 1 ∷ 4 ∷ 7 ∷ 27 ∷ 0 ∷ 0 ∷ 7 ∷ 28 ∷ 0 ∷ 0 ∷ [];
      expected = record {
        name_sets = (24 ∷ []) ∷ [] ∷ (27 ∷ 28 ∷ []) ∷ [] ∷ (27 ∷ 28 ∷ []) ∷ [] ∷ (27 ∷ []) ∷ (24 ∷ []) ∷ [];
        reasons = (27, 1) ∷ [];
        unpin = (27, Row 1) ∷ (28, Row 3) ∷ [];
        order = (1 ∷ []);
        tiers = (0 ∷ 0 ∷ []);
        report = say 31 (F 1 0);
      };
    }
    -- slices and references of anything but the plain name, a pinned one, a pinned one that is not mutable; a slice and a reference that no item
    -- reaches: none
    ∷ record {
      sheet = 12 ∷ 2 ∷ 32 ∷ 36 ∷ 42 ∷ 48 ∷ 52 ∷ 58 ∷ 64 ∷ 70 ∷ 76 ∷ 82 ∷ 88 ∷ 94 ∷ 100 ∷ 108 ∷ 0 ∷ 27 ∷ 11 ∷ 27 ∷ 0 ∷ 10 ∷ 1 ∷ 1 ∷ 1 ∷ 0 ∷ 7 ∷ 1 ∷ 3 ∷ 7
          ∷ 0 ∷ 0 ∷ 7 ∷ 1 ∷ 5 ∷ 8 ∷ 1 ∷ 0 ∷ 7 ∷ 3 ∷ 0 ∷ 7 ∷ 2 ∷ 0 ∷ 10 ∷ 1 ∷ 0 ∷ 7 ∷ 1 ∷ 0 ∷ 7 ∷ 27 ∷ 0 ∷ 0 ∷ 5 ∷ 30 ∷ 0 ∷ 0 ∷ 0 ∷ 65535 ∷ 6 ∷ 2 ∷ 4 ∷ 6
          ∷ 7 ∷ 8 ∷ 9 ∷ [];
      expected = record {
        name_sets = [] ∷ [] ∷ (27 ∷ []) ∷ [] ∷ (27 ∷ []) ∷ [] ∷ (27 ∷ []) ∷ [] ∷ [];
        reasons = (27, 1) ∷ [];
        unpin = [];
        order = [];
        tiers = [];
        report = say 19 (R 6) ++ say 48 (A 1 3);
      };
    }
    -- an enum's and alias's name, a RustType's, a name that nothing declares: none
    ∷ record {
      sheet = 10 ∷ 6 ∷ 36 ∷ 40 ∷ 46 ∷ 52 ∷ 56 ∷ 60 ∷ 66 ∷ 72 ∷ 76 ∷ 82 ∷ 88 ∷ 104 ∷ 112 ∷ 122 ∷ 148 ∷ 166 ∷ 0 ∷ 27 ∷ 7 ∷ 1 ∷ 0 ∷ 10 ∷ 1 ∷ 0 ∷ 0 ∷ 2 ∷ 0
          ∷ 28 ∷ 7 ∷ 1 ∷ 4 ∷ 10 ∷ 1 ∷ 4 ∷ 0 ∷ 29 ∷ 7 ∷ 1 ∷ 7 ∷ 10 ∷ 1 ∷ 7 ∷ 2 ∷ 27 ∷ 0 ∷ 0 ∷ 3 ∷ 1 ∷ 1 ∷ 0 ∷ 7 ∷ 27 ∷ 0 ∷ 0 ∷ 4 ∷ 28 ∷ 0 ∷ 0 ∷ 0 ∷ 5 ∷ 30
          ∷ 0 ∷ 0 ∷ 0 ∷ 65535 ∷ 6 ∷ 1 ∷ 2 ∷ 5 ∷ 6 ∷ 8 ∷ 9 ∷ 5 ∷ 31 ∷ 0 ∷ 0 ∷ 2 ∷ 27 ∷ 1 ∷ 65535 ∷ 0 ∷ 6 ∷ 32 ∷ 0 ∷ 0 ∷ 2 ∷ 28 ∷ 1 ∷ 65535 ∷ 0 ∷ [];
      expected = record {
        name_sets = [] ∷ (27 ∷ []) ∷ (27 ∷ []) ∷ (28 ∷ []) ∷ (27 ∷ []) ∷ [] ∷ [] ∷ [] ∷ [];
        reasons = [];
        unpin = [];
        order = [];
        tiers = [];
        report = say 1 (I 1) ++ say 3 (R 7) ++ say 42 (I 4);
      };
    }
    -- an atom, a name of RustType and alias, a reference that is a return; a struct whose bytes read like a method says nothing
    ∷ record {
      sheet = 7 ∷ 7 ∷ 32 ∷ 36 ∷ 42 ∷ 46 ∷ 52 ∷ 56 ∷ 62 ∷ 66 ∷ 80 ∷ 88 ∷ 98 ∷ 106 ∷ 120 ∷ 128 ∷ 0 ∷ 0 ∷ 10 ∷ 1 ∷ 0 ∷ 0 ∷ 27 ∷ 7 ∷ 1 ∷ 2 ∷ 0 ∷ 28 ∷ 7 ∷ 1 ∷ 4
          ∷ 1 ∷ 5 ∷ 1 ∷ 24 ∷ 0 ∷ 0 ∷ 2 ∷ 0 ∷ 1 ∷ 7 ∷ 0 ∷ 0 ∷ 0 ∷ 4 ∷ 27 ∷ 0 ∷ 0 ∷ 0 ∷ 7 ∷ 27 ∷ 0 ∷ 0 ∷ 5 ∷ 30 ∷ 0 ∷ 0 ∷ 0 ∷ 3 ∷ 0 ∷ 7 ∷ 28 ∷ 0 ∷ 0 ∷ 8 ∷ 6
          ∷ 0 ∷ 0 ∷ [];
      expected = record {
        name_sets = (24 ∷ []) ∷ [] ∷ (0 ∷ 27 ∷ 28 ∷ []) ∷ (27 ∷ []) ∷ (0 ∷ 27 ∷ 28 ∷ []) ∷ [] ∷ (0 ∷ []) ∷ (24 ∷ []) ∷ [];
        reasons = (0, 2) ∷ [];
        unpin = (0, Row 1) ∷ (27, Row 3) ∷ (28, Row 5) ∷ [];
        order = (0 ∷ []);
        tiers = (0 ∷ []);
        report = say 1 (I 3) ++ say 5 (R 6) ++ say 56 (I 4);
      };
    }
    ∷ []

-- what the call gives, over a scratch of 4,098 bytes and a list of eight blanks
unfoldable pub outcome : List ℕ → Outcome
unfolding computed
outcome ps = computed (bytes ps) scratch (blanks 8)

eleven : map (λ (c : Case). outcome c.sheet) cases ≡ map (λ (c : Case). outcome_of 8 c.expected) cases
unfolding outcome outcome_of
eleven = refl

-- ## The refusal table's examples

-- a refusal leaves list and scratch as they are
unfoldable pub refused_of : (why : Fault) → (at : ℕ) → Outcome
unfolding refused
refused_of w p = record { answer = refused (record { fault = w; position = p }); list = blanks 8; scratch = scratch }

refusals : (computed (bytes (0 ∷ 0 ∷ [])) (replicate 4095 7) (blanks 8) ≡ record {
  answer = refused (record { fault = ShortScratch; position = 0 });
  list = blanks 8;
  scratch = replicate 4095 7;
})
    × (computed (replicate 32769 0) scratch (blanks 8) ≡ refused_of LongSheet 0)
    × (computed (0 ∷ 0 ∷ 0 ∷ []) scratch (blanks 8) ≡ refused_of ShortSheet 0)
    × (outcome (1025 ∷ 0 ∷ []) ≡ refused_of TooMany 0)
    × (outcome (0 ∷ 1 ∷ []) ≡ refused_of Misplaced 0)
    × (outcome (0 ∷ 1 ∷ 6 ∷ 99 ∷ []) ≡ refused_of BadValue 6)
    × (outcome (1 ∷ 0 ∷ 6 ∷ 3 ∷ 0 ∷ []) ≡ refused_of BadRow 8)
    × (outcome (2 ∷ 0 ∷ 8 ∷ 10 ∷ 9 ∷ 9 ∷ []) ≡ refused_of EqualRow 10)
unfolding computed refused_of outcome
refusals = (refl, refl, refl, refl, refl, refl, refl, refl)

-- ## A list that is too short gets the first records, and the total counts all

worked : List ℕ
worked = bytes (1 ∷ 2 ∷ 10 ∷ 14 ∷ 26 ∷ 0 ∷ 25 ∷ 1 ∷ 24 ∷ 0 ∷ 0 ∷ 1 ∷ 0 ∷ 1 ∷ 25 ∷ 0 ∷ 0 ∷ 1 ∷ 0 ∷ [])

short : ((computed worked scratch (blanks 1)).list ≡ say 2 (F 1 0)) × ((computed worked scratch (blanks 1)).answer.total ≡ 2)
    × ((computed worked scratch []).list ≡ [])
unfolding computed worked
short = (refl, refl, refl)

-- ## What an item reaches: the row that it shows, and the rows that this one shows

-- a CxxType, and a function over a mutable reference to it
handle : List ℕ
handle = bytes (2 ∷ 2 ∷ 12 ∷ 16 ∷ 22 ∷ 32 ∷ 0 ∷ 27 ∷ 7 ∷ 1 ∷ 0 ∷ 3 ∷ 27 ∷ 0 ∷ 0 ∷ 0 ∷ 5 ∷ 30 ∷ 0 ∷ 0 ∷ 0 ∷ 65535 ∷ 1 ∷ 1 ∷ [])

reaches : Reached handle 2 1 × Reached handle 2 0
unfolding computed handle
reaches =
    let one : 0 < 1 = omega arith in
    let item : 1 < 2 = omega arith in (
      record { item = 1; below = item; row = 1; shows = one; reaches = here },
      record { item = 1; below = item; row = 1; shows = one; reaches = on one here },
    )
