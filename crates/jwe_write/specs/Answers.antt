-- What the writer answers, and what the lent output holds afterwards.
use Rattle.std.specs.Prelude.{List, ℕ, length}
use Rattle.prelude.specs.Outputs.{output_after, Writes}
use Rattle.jwe_write.specs.Write.{Raw, compact_text, write_refusal}
use Rattle.prelude.specs.Refusals.{Stage}
use Rattle.prelude.specs.Refusals.{Passed, Refused}

-- Document 01's number for each answer, and the octets written.

abbrev pub write_number : Stage → ℕ
write_number (Passed n) = 0
write_number (Refused n) = n

abbrev pub write_count : Stage → ℕ
write_count (Passed n) = n
write_count (Refused n) = 0

-- What the output holds afterwards.
abbrev pub write_buffer : Raw → List ℕ → List ℕ → List ℕ
write_buffer c known out = output_after (write_refusal c known (length out)) (compact_text c) out

-- The answer and the output afterwards, of what is given, a list of known names and the output before.
abbrev pub WritesCompact : Raw → List ℕ → List ℕ → Stage → List ℕ → Type 0
WritesCompact c known before answer after =
    Writes (write_refusal c known (length before)) (compact_text c) before (write_number answer) (write_count answer) after
