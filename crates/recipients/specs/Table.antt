-- The recipients that the JSON writer is given (request 1/12), contents first: one octet, how many they are; for each the
-- length of its header's text and that of its key, four octets each, the highest first; then their bodies, the header before
-- the key.
use Rattle.std.specs.Prelude.{◌≡◌, List, [], ◌∷◌, ◌++◌, ℕ, ◌/◌, ◌%◌, ◌≤◌, ◌<◌, length}
use Rattle.prelude.specs.Limits.{most_recipients, number_limit}

-- A recipient: its own header's text and its raw key; either is absent where it has length 0.
pub record RawRecipient : Type 0 where
  pub header : List ℕ
  pub key : List ℕ

-- A number as four octets, the highest first.
abbrev pub four_octets : ℕ → List ℕ
four_octets n = n / 16777216 ∷ n / 65536 % 256 ∷ n / 256 % 256 ∷ n % 256 ∷ []

-- The lengths of the recipients' headers and keys.
unfoldable pub lengths : List RawRecipient → List ℕ
lengths [] = []
lengths (r ∷ rs) = four_octets (length r.header) ++ (four_octets (length r.key) ++ lengths rs)

-- Their bodies.
unfoldable pub bodies : List RawRecipient → List ℕ
bodies [] = []
bodies (r ∷ rs) = r.header ++ (r.key ++ bodies rs)

-- The table of recipients.
unfoldable pub table_of : List RawRecipient → List ℕ
table_of rs = length rs ∷ (lengths rs ++ bodies rs)

-- Each length fits four octets.
abbrev pub Short : List RawRecipient → Type 0
Short [] = Unit {0}
Short (r ∷ rs) = ((length r.header < number_limit) × (length r.key < number_limit)) × Short rs

-- A table is that of these recipients, 1 to 8 of them.
pub record Lists (table : List ℕ) (rs : List RawRecipient) : Type 0 where
  pub some : 1 ≤ length rs
  pub few : length rs ≤ most_recipients
  pub short : Short rs
  pub octets : table_of rs ≡ table

-- A table is sound where it is the table of some recipients.
abbrev pub Sound : List ℕ → Type 0
Sound table = (rs : List RawRecipient) × Lists table rs
