-- The compact serialization (RFC 7516, section 7.1): five parts with four full stops between.
use Rattle.std.specs.Prelude.{List, [], ◌∷◌, ◌++◌, Bool, not, ◌&&◌, ℕ, ◌+◌, ◌-◌, length, eqb, leb, ltb}
use Rattle.parts.specs.Parts.{seek}
use Rattle.grammar.specs.Places.{Place}
use Rattle.prelude.specs.Any.{any}
use Rattle.rows.specs.Rows.{read_texts}
use Rattle.prelude.specs.Refusals.{Test, ◌if◌}
use Rattle.jose.specs.HeaderRules.{recipient_order}
use Rattle.prelude.specs.Ascii.{full_stop}
use Rattle.headers.specs.Components.{absent, Components, places, misspelled, sizes_of}
use Rattle.headers.specs.Headers.{header_text, text_order, protected_entries, object_order}

-- The position of the first full stop after a position.
abbrev pub after : List ℕ → ℕ → ℕ
after message at = seek full_stop message (at + 1)

-- Where the first four full stops stand.
pub record Stops : Type 0 where
  pub first : ℕ
  pub second : ℕ
  pub third : ℕ
  pub fourth : ℕ

unfoldable pub stops : List ℕ → Stops
stops message =
    let a = seek full_stop message 0 in
    let b = after message a in
    let c = after message b in
    let d = after message c in
    record { first = a; second = b; third = c; fourth = d }

-- Exactly four: the fourth is there, and none after it.
unfoldable pub four_stops : List ℕ → Bool
four_stops message =
    let d = (stops message).fourth in
    ltb d (length message) && eqb (after message d) (length message)

-- What stands between two full stops.
abbrev pub between : ℕ → ℕ → Place
between a b = record { start = a + 1; size = b - (a + 1) }

-- The components. There is no aad.
unfoldable pub compact_components : List ℕ → Components
compact_components message =
    let s = stops message in
    record {
      protected = record { start = 0; size = s.first };
      key = between s.first s.second;
      iv = between s.second s.third;
      aad = absent;
      ciphertext = between s.third s.fourth;
      tag = between s.fourth (length message);
    }

-- The refusals of a compact message until its spelling is judged.
abbrev pub compact_spelled : List ℕ → List Test
compact_spelled message =
    4 if not (four_stops message) ∷ 5 if any (misspelled message) (places (compact_components message)) ∷ []

-- Those after it, of its components.
abbrev pub compact_later : List (List ℕ) → List ℕ → Components → ℕ → List Test
compact_later known message q recipient =
    let header = header_text message q.protected in
    let es = protected_entries header in
    text_order header
    ++ (object_order header es
    ++ (recipient_order known (read_texts header message) es (sizes_of q) ++ (19 if leb 1 recipient ∷ [])))

-- The refusals of a compact message, from 4 on.
unfoldable pub compact_order : List ℕ → List (List ℕ) → ℕ → List Test
compact_order message known recipient =
    compact_spelled message ++ compact_later known message (compact_components message) recipient
