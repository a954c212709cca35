-- The papers' numbers for the answers.
use Rattle.std.specs.Prelude.{ℕ, Option, Some, None}
use Rattle.json_read.specs.declared.Found.{Found}

-- Judging. Document 01's number: 7 where a text is no JSON object within the levels.
abbrev pub judge_refusal : Option Found → ℕ
judge_refusal (Some v) = 0
judge_refusal None = 7

-- The kind of a value, 0 to 6, or 7 where none was found.
abbrev pub value_kind : Option Found → ℕ
value_kind (Some v) = v.kind
value_kind None = 7

-- The position after what was found.
abbrev pub found_end : Option Found → ℕ
found_end (Some v) = v.end.at
found_end None = 0
