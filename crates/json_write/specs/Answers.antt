-- What the JSON writer answers, and what the lent output holds afterwards.
use Rattle.std.specs.Prelude.{List, Bool, ℕ, length}
use Rattle.prelude.specs.Outputs.{Writes}
use Rattle.prelude.specs.Refusals.{Stage}
use Rattle.jwe_write.specs.Answers.{write_number, write_count}
use Rattle.json_message.specs.JsonWrite.{RawJson, written_text, json_write_refusal}

-- The answer and the output afterwards, of what is given, a list of known names and the output before.
abbrev pub WritesJson : Bool → RawJson → List ℕ → List ℕ → Stage → List ℕ → Type 0
WritesJson general c known before answer after =
    Writes (json_write_refusal general c known (length before)) (written_text general c) before (write_number answer) (write_count answer)
    after
