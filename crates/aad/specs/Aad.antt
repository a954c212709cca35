-- The additional authenticated data (RFC 7516, section 5.1, step 14), what its writer answers, and what the lent output
-- holds afterwards.
use Rattle.std.specs.Prelude.{cond, List, [], ◌∷◌, ◌++◌, ℕ, Option, Some, None, length, eqb, ltb}
use Rattle.prelude.specs.Ascii.{full_stop}
use Rattle.prelude.specs.Refusals.{Test, ◌if◌, first}
use Rattle.prelude.specs.Outputs.{output_after, Writes}

-- The encoded protected header; behind it, where there is an aad, a full stop and the encoded aad. Without a protected header
-- the full stop comes first.
unfoldable pub aad_text : List ℕ → List ℕ → List ℕ
aad_text header aad = cond (eqb (length aad) 0) header (header ++ (full_stop ∷ aad))

-- Only 1 can refuse: the output is shorter than the octets.

unfoldable pub aad_order : List ℕ → List ℕ → ℕ → List Test
aad_order header aad room = 1 if ltb room (length (aad_text header aad)) ∷ []

unfoldable pub aad_refusal : List ℕ → List ℕ → ℕ → ℕ
aad_refusal header aad room = first (aad_order header aad room)

-- Document 01's number for each answer, and the octets written: where there is no answer, the output is too short.

abbrev pub aad_number : Option ℕ → ℕ
aad_number (Some n) = 0
aad_number None = 1

abbrev pub aad_count : Option ℕ → ℕ
aad_count (Some n) = n
aad_count None = 0

-- What the output holds afterwards.
abbrev pub aad_buffer : List ℕ → List ℕ → List ℕ → List ℕ
aad_buffer header aad out = output_after (aad_refusal header aad (length out)) (aad_text header aad) out

-- The answer and the output afterwards, of a header, an aad and the output before.
abbrev pub Joins : List ℕ → List ℕ → List ℕ → Option ℕ → List ℕ → Type 0
Joins header aad before answer after =
    Writes (aad_refusal header aad (length before)) (aad_text header aad) before (aad_number answer) (aad_count answer) after
