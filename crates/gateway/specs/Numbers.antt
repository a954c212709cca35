-- The numbers that each function can refuse with, in document 01's orders.
use Rattle.std.specs.Prelude.{List, [], ◌∷◌, ℕ}

-- Reading: all of document 01's table, and 21 (request 2/12).
abbrev pub read_numbers : List ℕ
read_numbers =
    1 ∷ 2 ∷ 3 ∷ 4 ∷ 5 ∷ 6 ∷ 7 ∷ 8 ∷ 9 ∷ 10 ∷ 11 ∷ 12 ∷ 13 ∷ 14 ∷ 15 ∷ 16 ∷ 17 ∷ 18 ∷ 21 ∷ 19 ∷ []

abbrev pub decode_numbers : List ℕ
decode_numbers = 5 ∷ 1 ∷ []

abbrev pub aad_numbers : List ℕ
aad_numbers = 1 ∷ []

-- The compact writer.
abbrev pub write_numbers : List ℕ
write_numbers = 3 ∷ 6 ∷ 7 ∷ 8 ∷ 9 ∷ 13 ∷ 14 ∷ 15 ∷ 17 ∷ 18 ∷ 2 ∷ 1 ∷ []

-- Comparing two messages: its own number.
abbrev pub compare_numbers : List ℕ
compare_numbers = 1 ∷ []
