-- Between the compact writer and the reader (demand 2): what is read of a written message, and what an accepted compact
-- message is taken apart to.
use Rattle.std.specs.Prelude.{◌≡◌, List, ℕ, ◌+◌, ◌≤◌, length, take, get_or}
use Rattle.prelude.specs.Buffer.{AllBelow, written}
use Rattle.prelude.specs.Outputs.{octets_written}
use Rattle.base64url.specs.Base64url.{encoded, decoded}
use Rattle.base64url.specs.Answers.{decode_refusal, decode_buffer}
use Rattle.grammar.specs.Places.{Place}
use Rattle.rows.specs.Tables.{listed}
use Rattle.headers.specs.Components.{absent, Components}
use Rattle.headers.specs.Headers.{protected_entries}
use Rattle.jwe.specs.Judge.{Call, Outcome, places_in, result_of, header_after, list_after}
use Rattle.shown.specs.Shown.{component_shown}
use Rattle.jwe_write.specs.Write.{Raw, compact_text, write_refusal}
use Rattle.jwe_write.specs.Answers.{write_buffer}

-- What the writer is given is octets.
pub record RawOctets (c : Raw) : Type 0 where
  pub header : AllBelow 256 c.header
  pub key : AllBelow 256 c.key
  pub iv : AllBelow 256 c.iv
  pub ciphertext : AllBelow 256 c.ciphertext
  pub tag : AllBelow 256 c.tag

-- Where the components of a written message stand: one behind the other, a full stop between. There is no aad.

-- The place of some octets, encoded, behind another place and a full stop.
abbrev pub behind : Place → List ℕ → Place
behind q xs = record { start = q.start + q.size + 1; size = length (encoded xs) }

unfoldable pub written_places : Raw → Components
written_places c =
    let protected : Place = record { start = 0; size = length (encoded c.header) } in
    let key = behind protected c.key in
    let iv = behind key c.iv in
    let ciphertext = behind iv c.ciphertext in
    let tag = behind ciphertext c.tag in
    record { protected = protected; key = key; iv = iv; aad = absent; ciphertext = ciphertext; tag = tag }

-- What the reader hands out for a written message: the header that was given, and its parameters.
unfoldable pub written_outcome : Raw → Outcome
written_outcome c = record {
  form = 0;
  recipients = 1;
  components = written_places c;
  header = c.header;
  entries = protected_entries c.header;
}

-- A component that is shown at a place of the message and decoded, as `component` and `decode` do it: where the output has room
-- for the octets, decoding does not refuse, and they are at the output's start, its rest unchanged.
pub record ComesBack (message : List ℕ) (q : Place) (xs : List ℕ) : Type 0 where
  pub accepted : (room : ℕ) → length xs ≤ room → decode_refusal (component_shown message q.start q.size) room ≡ 0
  pub octets : (out : List ℕ) → length xs ≤ length out →
      decode_buffer (component_shown message q.start q.size) out ≡ written 0 xs out

-- The five components at their places in a message come back.
pub record AllComeBack (message : List ℕ) (q : Components) (c : Raw) : Type 0 where
  pub header : ComesBack message q.protected c.header
  pub key : ComesBack message q.key c.key
  pub iv : ComesBack message q.iv c.iv
  pub ciphertext : ComesBack message q.ciphertext c.ciphertext
  pub tag : ComesBack message q.tag c.tag

-- What the writer left at the start of the output: the message.
abbrev pub wrote : Raw → List ℕ → List ℕ → List ℕ
wrote c known out =
    take (octets_written (write_refusal c known (length out)) (compact_text c)) (write_buffer c known out)

-- A message that was written reads back: it is accepted as compact, the header buffer begins with the header that was given
-- and the list with its parameters, the rest of both unchanged, and the components come back at the places that the result
-- has.
pub record ReadsBack (c : Raw) (reading : Call) (buffer list : List ℕ) : Type 0 where
  pub accepted : get_or (result_of reading) 0 0 ≡ 0
  pub compact : get_or (result_of reading) 1 0 ≡ 0
  pub header_left : header_after reading buffer ≡ written 0 c.header buffer
  pub list_left : list_after reading list ≡ written 0 (listed (protected_entries c.header)) list
  pub components : AllComeBack reading.message (places_in (result_of reading)) c

-- A compact message, taken apart by places: what is shown at each, decoded.
unfoldable pub taken_apart : List ℕ → Components → Raw
taken_apart message q =
    let octets : Place → List ℕ = λ p. decoded (component_shown message p.start p.size) in
    record {
      header = octets q.protected;
      key = octets q.key;
      iv = octets q.iv;
      ciphertext = octets q.ciphertext;
      tag = octets q.tag;
    }

-- A message that was read writes back: decoding refuses none of its components, and written with that list they are the message, at the
-- start of the output, its rest unchanged.
pub record WritesBack (message known out : List ℕ) (q : Components) : Type 0 where
  pub components : AllComeBack message q (taken_apart message q)
  pub accepted : write_refusal (taken_apart message q) known (length out) ≡ 0
  pub count :
      octets_written (write_refusal (taken_apart message q) known (length out)) (compact_text (taken_apart message q))
      ≡ length message
  pub left : write_buffer (taken_apart message q) known out ≡ written 0 message out
