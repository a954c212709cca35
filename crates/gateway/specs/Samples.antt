-- Document 01's samples T1 to T12: what is asked of the definitions that the contracts cite, and what they have to answer; and
-- beside them general messages: one whose asked recipient has a key and a mode other than 5, and two on request 2/12.
use Rattle.std.specs.Prelude.{List, [], ◌∷◌, ◌++◌, ℕ, ◌*◌, length, take, get_or, replicate}
use Rattle.prelude.specs.Ascii.{ascii}
use Rattle.prelude.specs.Limits.{header_room, list_room}
use Rattle.prelude.specs.Result.{parameters_at}
use Rattle.rows.specs.Tables.{list_width}
use Rattle.prelude.specs.Outputs.{octets_written}
use Rattle.base64url.specs.Base64url.{encoded, decoded}
use Rattle.base64url.specs.Answers.{decode_refusal, decode_buffer}
use Rattle.grammar.specs.Places.{Place}
use Rattle.shown.specs.Shown.{component_shown}
use Rattle.aad.specs.Aad.{aad_text, aad_refusal, aad_buffer}
use Rattle.jwe.specs.Judge.{call, refused, places_in, result_of, list_after}

pub data Question : Type 0 where
  -- How many characters octets make encoded.
  characters : List ℕ → Question
  encode : List ℕ → Question
  decode : List ℕ → Question
  -- A message, read for a recipient.
  read : List ℕ → ℕ → Question
  -- The AAD of a message.
  aad_of : List ℕ → Question

-- What a function that writes answers: the number, the octets written, and those octets of the output.
abbrev wrote : ℕ → List ℕ → List ℕ → List ℕ
wrote refusal xs output = refusal ∷ octets_written refusal xs ∷ take (octets_written refusal xs) output

-- An output of so many octets, all 0.
abbrev zeros : ℕ → List ℕ
zeros n = replicate n 0

-- Read with no known names and just enough room: the result's eighteen numbers, then as much of the list as they say.
unfoldable pub read_answer : List ℕ → ℕ → List ℕ
read_answer message recipient =
    let c = call message (0 ∷ []) recipient header_room list_room in
    let r = result_of c in
    r ++ take (list_width * get_or r parameters_at 0) (list_after c (zeros list_room))

-- The AAD of the encoded protected header and aad as reading for recipient 0 shows them, into 64 octets.
unfoldable pub aad_answer : List ℕ → List ℕ
aad_answer message =
    let q = places_in (result_of (call message (0 ∷ []) 0 header_room list_room)) in
    let shown : Place → List ℕ = λ p. component_shown message p.start p.size in
    let header = shown q.protected in
    let aad = shown q.aad in
    wrote (aad_refusal header aad 64) (aad_text header aad) (aad_buffer header aad (zeros 64))

unfoldable pub answer : Question → List ℕ
answer (characters xs) = length (encoded xs) ∷ []
answer (encode xs) = encoded xs
answer (decode text) =
    wrote (decode_refusal text (length text)) (decoded text) (decode_buffer text (zeros (length text)))
answer (read message recipient) = read_answer message recipient
answer (aad_of message) = aad_answer message

-- A sample: its T in document 01, 0 where it is not of it; what is asked, and what has to be answered.
pub record Sample : Type 0 where
  pub label : ℕ
  pub input : Question
  pub expected : List ℕ

abbrev T : ℕ → Question → List ℕ → Sample
T label question expected = record { label = label; input = question; expected = expected }

-- T4's header and its text, H of document 01, and M.

abbrev dir : List ℕ
dir = ascii "{\"alg\":\"dir\",\"enc\":\"A128GCM\"}"

abbrev H : List ℕ
H = ascii "eyJhbGciOiJkaXIiLCJlbmMiOiJBMTI4R0NNIn0"

abbrev pub M : List ℕ
M = H ++ ascii "..AA.AQID.Ag"

-- T10's message, and T11's.

abbrev shared_alone : List ℕ
shared_alone = ascii "{\"unprotected\":{\"alg\":\"dir\",\"enc\":\"A128GCM\"},\"aad\":\"AA\",\"ciphertext\":\"\"}"

abbrev empty_iv : List ℕ
empty_iv = ascii "{\"unprotected\":{\"alg\":\"dir\",\"enc\":\"A128GCM\"},\"aad\":\"AA\",\"ciphertext\":\"\",\"iv\":\"\"}"

-- Two recipients: direct encryption, and key wrapping with a key.
abbrev general : List ℕ
general =
    ascii "{\"protected\":\"eyJlbmMiOiJBMTI4R0NNIn0\",\"unprotected\":{\"kid\":\"a\"},\"recipients\":["
    ++ (ascii "{\"header\":{\"alg\":\"dir\"}},{\"header\":{\"alg\":\"A128KW\"},\"encrypted_key\":\"AQI\"}],"
    ++ ascii "\"aad\":\"Aw\",\"iv\":\"BA\",\"ciphertext\":\"BQYH\",\"tag\":\"CA\"}")

-- Two recipients by their own headers' content algorithms, the second as it is spelled.
abbrev contents : List ℕ → List ℕ
contents second =
    ascii "{\"unprotected\":{\"alg\":\"dir\"},\"recipients\":[{\"header\":{\"enc\":\"A128GCM\"}},{\"header\":{\"enc\":\""
    ++ (second ++ ascii "\"}}],\"ciphertext\":\"\"}")

unfoldable pub samples : List Sample
samples =
    T 1 (characters []) (0 ∷ [])
    ∷ T 1 (characters (0 ∷ [])) (2 ∷ [])
    ∷ T 1 (characters (0 ∷ 0 ∷ [])) (3 ∷ [])
    ∷ T 1 (characters (0 ∷ 0 ∷ 0 ∷ [])) (4 ∷ [])
    ∷ T 2 (decode (ascii "AA")) (0 ∷ 1 ∷ 0 ∷ [])
    ∷ T 2 (decode (ascii "AB")) (5 ∷ 0 ∷ [])
    ∷ T 3 (decode (ascii "A")) (5 ∷ 0 ∷ [])
    ∷ T 4 (encode dir) H
    ∷ T 4 (characters dir) (39 ∷ [])
    ∷ T 4 (decode H) (0 ∷ 29 ∷ dir)
    ∷ T 5 (encode (ascii "{\"alg\":\"RSA-OAEP\",\"enc\":\"A256GCM\"}"))
    (ascii "eyJhbGciOiJSU0EtT0FFUCIsImVuYyI6IkEyNTZHQ00ifQ")
    ∷ T 6 (read M 0)
    (0 ∷ 0 ∷ 1 ∷ 5
    ∷ 0 ∷ 39 ∷ 40 ∷ 0 ∷ 41 ∷ 2 ∷ 0 ∷ 0 ∷ 44 ∷ 4 ∷ 49 ∷ 2
    ∷ 29 ∷ 2
    ∷ 0 ∷ 2 ∷ 3 ∷ 7 ∷ 5 ∷ 2
    ∷ 0 ∷ 14 ∷ 3 ∷ 19 ∷ 9 ∷ 2
    ∷ [])
    ∷ T 7 (read (M ++ ascii ".") 0) (refused 4)
    ∷ T 8 (read [] 0) (refused 4)
    ∷ T 9
    (read (encoded (ascii "{\"alg\":\"dir\",\"\\u0061lg\":\"dir\",\"enc\":\"A128GCM\"}") ++ ascii "..AA.AQID.Ag") 0)
    (refused 9)
    ∷ T 10 (read shared_alone 0)
    (0 ∷ 1 ∷ 1 ∷ 5
    ∷ 0 ∷ 0 ∷ 0 ∷ 0 ∷ 0 ∷ 0 ∷ 52 ∷ 2 ∷ 70 ∷ 0 ∷ 0 ∷ 0
    ∷ 0 ∷ 2
    ∷ 1 ∷ 17 ∷ 3 ∷ 22 ∷ 5 ∷ 2
    ∷ 1 ∷ 29 ∷ 3 ∷ 34 ∷ 9 ∷ 2
    ∷ [])
    ∷ T 10 (aad_of shared_alone) (0 ∷ 3 ∷ ascii ".AA")
    ∷ T 11 (read empty_iv 0) (refused 10)
    ∷ T 12 (read (H ++ ascii ".AA.AA.AQID.Ag") 0) (refused 18)
    ∷ T 0 (read general 1)
    (0 ∷ 2 ∷ 2 ∷ 2
    ∷ 14 ∷ 23 ∷ 148 ∷ 3 ∷ 172 ∷ 2 ∷ 162 ∷ 2 ∷ 190 ∷ 4 ∷ 203 ∷ 2
    ∷ 17 ∷ 3
    ∷ 0 ∷ 2 ∷ 3 ∷ 7 ∷ 9 ∷ 2
    ∷ 1 ∷ 55 ∷ 3 ∷ 60 ∷ 3 ∷ 2
    ∷ 2 ∷ 116 ∷ 3 ∷ 121 ∷ 8 ∷ 2
    ∷ [])
    ∷ T 0 (aad_of general) (0 ∷ 26 ∷ ascii "eyJlbmMiOiJBMTI4R0NNIn0.Aw")
    ∷ T 0 (read (contents (ascii "A128GC\\u004d")) 0)
    (0 ∷ 2 ∷ 2 ∷ 5
    ∷ 0 ∷ 0 ∷ 0 ∷ 0 ∷ 0 ∷ 0 ∷ 0 ∷ 0 ∷ 121 ∷ 0 ∷ 0 ∷ 0
    ∷ 0 ∷ 2
    ∷ 1 ∷ 17 ∷ 3 ∷ 22 ∷ 5 ∷ 2
    ∷ 2 ∷ 55 ∷ 3 ∷ 60 ∷ 9 ∷ 2
    ∷ [])
    ∷ T 0 (read (contents (ascii "A256GCM")) 0) (refused 21)
    ∷ []
