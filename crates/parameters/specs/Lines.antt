-- The lines of a list of differences (document 02, 4/12): eight numbers each.
use Rattle.std.specs.Prelude.{List, [], ◌∷◌, ◌++◌, Bool, cond, ℕ}

-- One side of a line: a parameter's origin, and the start and the length of its value.
pub record Side : Type 0 where
  pub origin : ℕ
  pub start : ℕ
  pub size : ℕ

-- A side that is missing.
abbrev pub missing : Side
missing = record { origin = 0; start = 0; size = 0 }

-- Kinds: 0 form, 1 recipient count, 2 decoded protected header, 3 iv, 4 aad, 5 ciphertext, 6 tag, 7 the key of a recipient, and of its
-- parameters 8 only left, 9 only right, 10 moved to another origin, 11 other value.
pub record Line : Type 0 where
  pub kind : ℕ
  pub recipient : ℕ
  pub left : Side
  pub right : Side

abbrev pub line : ℕ → ℕ → Side → Side → Line
line kind recipient left right = record { kind = kind; recipient = recipient; left = left; right = right }

-- A line where something holds, and none where it does not.
abbrev pub line_if : Bool → Line → List Line
line_if b l = cond b (l ∷ []) []

-- How many numbers a line has, and which.
abbrev pub line_width : ℕ
line_width = 8

abbrev pub line_numbers : Line → List ℕ
line_numbers l =
    l.kind
    ∷ l.recipient
    ∷ l.left.origin
    ∷ l.left.start
    ∷ l.left.size
    ∷ l.right.origin
    ∷ l.right.start
    ∷ l.right.size
    ∷ []

-- Lines laid flat.
unfoldable pub laid : List Line → List ℕ
laid [] = []
laid (l ∷ ls) = line_numbers l ++ laid ls
