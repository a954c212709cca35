-- Where the numbers of a result stand (document 01, 'Result'): here once, and the C header's are compared with these
-- (.ci/numbers). A place is two numbers, start and length.
use Rattle.std.specs.Prelude.{ℕ}

abbrev pub number_at : ℕ
number_at = 0

abbrev pub form_at : ℕ
form_at = 1

abbrev pub recipients_at : ℕ
recipients_at = 2

abbrev pub mode_at : ℕ
mode_at = 3

abbrev pub protected_at : ℕ
protected_at = 4

abbrev pub key_at : ℕ
key_at = 6

abbrev pub iv_at : ℕ
iv_at = 8

abbrev pub aad_at : ℕ
aad_at = 10

abbrev pub ciphertext_at : ℕ
ciphertext_at = 12

abbrev pub tag_at : ℕ
tag_at = 14

-- The length of the decoded protected header, and how many parameters are listed.

abbrev pub header_at : ℕ
header_at = 16

abbrev pub parameters_at : ℕ
parameters_at = 17

-- How many numbers a result has.
abbrev pub result_room : ℕ
result_room = 18
