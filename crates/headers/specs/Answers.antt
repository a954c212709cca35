-- The code's answers: document 01's number for each, and what they hold.
use Rattle.std.specs.Prelude.{List, cond, ℕ}
use Rattle.prelude.specs.Buffer.{written}
use Rattle.grammar.specs.Places as json
use Rattle.prelude.specs.declared.Place.{Place}
use Rattle.headers.specs.Components as headers
use Rattle.headers.specs.declared.Components.{Components}
use Rattle.headers.specs.Headers.{too_long}

-- A place of the code.
abbrev pub place_of : Place → json.Place
place_of q = record { start = q.start; size = q.len }

-- A place of the code for one of the definitions.
abbrev pub code_place : json.Place → Place
code_place q = record { start = q.start; len = q.size }

-- Components of the code for those of the definitions, and back.

abbrev pub code_components : headers.Components → Components
code_components q = record {
  protected = code_place q.protected;
  key = code_place q.key;
  iv = code_place q.iv;
  aad = code_place q.aad;
  ciphertext = code_place q.ciphertext;
  tag = code_place q.tag;
}

abbrev pub components_of : Components → headers.Components
components_of q = record {
  protected = place_of q.protected;
  key = place_of q.key;
  iv = place_of q.iv;
  aad = place_of q.aad;
  ciphertext = place_of q.ciphertext;
  tag = place_of q.tag;
}

-- The buffer into which a header is decoded.
unfoldable pub header_buffer : List ℕ → List ℕ → List ℕ
header_buffer header buffer = cond (too_long header) buffer (written 0 header buffer)
