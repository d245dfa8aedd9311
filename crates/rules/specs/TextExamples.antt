-- What is printed for the worked sheet of docs/RULES.md, for two more of the eleven sheets and for a refusal, byte for byte; and of more than 512 records the
-- first 512.
-- By computing.
-- Assumes nothing.
use Rattle.std.specs.Prelude.{ℕ, ◌+◌, ◌≡◌, refl, length, replicate}
use mathlib.Core.List.{List, [], ◌∷◌, ◌++◌, flat_map}
use Rattle.rules.specs.declared.Place.TheVariants.{F, G}
use Rattle.rules.specs.Table.{expected_answer}
use Rattle.rules.specs.Computed.{bytes, computed}
use Rattle.rules.specs.Text.{ascii, digits_by, decimal, spaced, line, tiers_along, members_to, place_text, record_line}
use Rattle.rules.specs.Text.{refused_text, accepted_text, text_of, sheet_text}

-- `sheet_text`, with every definition open; of pairs
unfoldable pub text_of_pairs : List ℕ → List ℕ
unfolding computed flat_map digits_by decimal spaced line tiers_along members_to place_text record_line refused_text accepted_text text_of sheet_text
text_of_pairs pairs = sheet_text (bytes pairs)

-- the worked sheet: `improper` stands alone, without a blank
worked : text_of_pairs (1 ∷ 2 ∷ 10 ∷ 14 ∷ 26 ∷ 0 ∷ 25 ∷ 1 ∷ 24 ∷ 0 ∷ 0 ∷ 1 ∷ 0 ∷ 1 ∷ 25 ∷ 0 ∷ 0 ∷ 1 ∷ 0 ∷ [])
    ≡ ascii "accepted 2\n" ++ ascii "order 1 0\n" ++ ascii "tiers 255 255\n" ++ ascii "improper\n" ++ ascii "2 F 1 0 0\n" ++ ascii "2 F 0 0 0\n"
unfolding text_of_pairs
worked = refl

-- a name twice: item 0 has tier 1 and item 1 has tier 0, and they are printed in the order's sequence
along : text_of_pairs (2 ∷ 2 ∷ 12 ∷ 16 ∷ 20 ∷ 32 ∷ 0 ∷ 24 ∷ 0 ∷ 2 ∷ 1 ∷ 24 ∷ 0 ∷ 0 ∷ 1 ∷ 0 ∷ 1 ∷ 24 ∷ 0 ∷ 0 ∷ 1 ∷ 1 ∷ [])
    ≡ ascii "accepted 1\n" ++ ascii "order 1 0\n" ++ ascii "tiers 0 1\n" ++ ascii "improper\n" ++ ascii "1 I 1 0\n"
unfolding text_of_pairs
along = refl

-- A holds &B, B holds RustString: two improper names, rising
rising : text_of_pairs (3 ∷ 2 ∷ 14 ∷ 18 ∷ 24 ∷ 28 ∷ 40 ∷ 0 ∷ 25 ∷ 7 ∷ 0 ∷ 0 ∷ 0 ∷ 15 ∷ 1 ∷ 24 ∷ 0 ∷ 0 ∷ 1 ∷ 1 ∷ 1 ∷ 25 ∷ 0 ∷ 0 ∷ 1 ∷ 2 ∷ [])
    ≡ ascii "accepted 0\n" ++ ascii "order 0 1\n" ++ ascii "tiers 0 0\n" ++ ascii "improper 24 25\n"
unfolding text_of_pairs
rising = refl

-- a kind that there is not
refusal : text_of_pairs (0 ∷ 1 ∷ 6 ∷ 99 ∷ []) ≡ ascii "refused 6 at 6\n"
unfolding text_of_pairs
refusal = refl

-- ## Records

-- two numbers, of several digits
wide : record_line (record { message = 56; place = G 1023 15; detail = 65535 }) ≡ ascii "56 G 1023 15 65535\n"
unfolding text_of_pairs
wide = refl

-- so many records, a line of ten bytes each, after an answer without structs
after : (records : ℕ) → List ℕ
unfolding expected_answer
after n =
    text_of
    (expected_answer (record { name_sets = replicate 8 []; reasons = []; unpin = []; order = []; tiers = []; report = [] }))
    (replicate n (record { message = 2; place = F 1 0; detail = 0 }))

-- 513 print as many as 512
first_512 : (length (after 513) ≡ length (after 0) + 5120) × (length (after 512) ≡ length (after 0) + 5120)
unfolding after text_of_pairs
first_512 = (refl, refl)
