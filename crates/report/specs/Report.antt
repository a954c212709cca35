-- What document 01's program writes of a message: `too long`, `refused N`, or `accepted` with what the reader hands out,
-- in lines.
use Rattle.std.specs.Prelude.{List, [], ◌∷◌, ◌++◌, cond, ℕ, ◌+◌, length, eqb, ltb}
use Rattle.prelude.specs.Ascii.{ascii}
use Rattle.grammar.specs.Places.{Place}
use Rattle.rows.specs.Rows.{Entry, read_texts}
use Rattle.jose.specs.HeaderRules.{mode_in}
use Rattle.prelude.specs.Limits.{header_room, list_room}
use Rattle.headers.specs.Components.{Components}
use Rattle.jwe.specs.Judge.{Call, call, refusal, Outcome, outcome}
use Rattle.report.specs.Text.{decimal, word, line}

-- A message of more octets is not read.
abbrev pub most_read : ℕ
most_read = 61440

-- The words for the reader's numbers: forms from 0 on, modes from 1 on, origins from 0 on, kinds from 0 on.

unfoldable pub forms : List (List ℕ)
forms = ascii "compact" ∷ ascii "flattened" ∷ ascii "general" ∷ []

unfoldable pub modes : List (List ℕ)
modes =
    ascii "key-encryption"
    ∷ ascii "key-wrapping"
    ∷ ascii "direct-agreement"
    ∷ ascii "agreement-with-wrapping"
    ∷ ascii "direct-encryption"
    ∷ []

unfoldable pub origins : List (List ℕ)
origins = ascii "p" ∷ ascii "u" ∷ ascii "r" ∷ []

unfoldable pub kinds : List (List ℕ)
kinds =
    ascii "object"
    ∷ ascii "array"
    ∷ ascii "string"
    ∷ ascii "number"
    ∷ ascii "true"
    ∷ ascii "false"
    ∷ ascii "null"
    ∷ []

-- The lines

-- By the form, the recipient count and the mode.
abbrev pub first_line : ℕ → ℕ → ℕ → List ℕ
first_line form count mode =
    line (ascii "accepted" ∷ word (form + 1) forms ∷ decimal count ∷ word mode modes ∷ [])

-- A component by its name and place.
abbrev pub component_line : List ℕ → Place → List ℕ
component_line name q = line (name ∷ decimal q.start ∷ decimal q.size ∷ [])

abbrev pub component_lines : Components → List ℕ
component_lines q =
    component_line (ascii "protected") q.protected
    ++ (component_line (ascii "key") q.key
    ++ (component_line (ascii "iv") q.iv
    ++ (component_line (ascii "aad") q.aad
    ++ (component_line (ascii "ciphertext") q.ciphertext
    ++ component_line (ascii "tag") q.tag))))

-- A parameter: its origin, the name's start and length, the value's start and length, its kind.
abbrev pub parameter_line : Entry → List ℕ
parameter_line e =
    line
    (word (e.origin + 1) origins
    ∷ decimal e.member.name_start
    ∷ decimal e.member.name_size
    ∷ decimal e.member.value_start
    ∷ decimal e.member.value_size
    ∷ word (e.member.kind + 1) kinds
    ∷ [])

unfoldable pub parameter_lines : List Entry → List ℕ
parameter_lines [] = []
parameter_lines (e ∷ es) = parameter_line e ++ parameter_lines es

-- The report

unfoldable pub too_long : List ℕ
too_long = line (ascii "too long" ∷ [])

unfoldable pub refused_report : ℕ → List ℕ
refused_report n = line (ascii "refused" ∷ decimal n ∷ [])

unfoldable pub accepted_report : List ℕ → Outcome → List ℕ
accepted_report message x =
    first_line x.form x.recipients (mode_in (read_texts x.header message) x.entries)
    ++ (component_lines x.components ++ parameter_lines x.entries)

-- Read with no known names, for recipient 0, and with just enough room.
abbrev pub reading : List ℕ → Call
reading message = call message (0 ∷ []) 0 header_room list_room

unfoldable pub report : List ℕ → List ℕ
report message =
    let n = refusal (reading message) in
    cond (ltb most_read (length message)) too_long
    (cond (eqb n 0) (accepted_report message (outcome message 0)) (refused_report n))
