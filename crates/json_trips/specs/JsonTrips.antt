-- Between the JSON writer and the reader (request 1/12): what is read of a written message for each of its recipients, when the
-- writer refuses nothing, and the numbers that it refuses with.
use Rattle.std.specs.Prelude.{◌≡◌, List, [], ◌∷◌, ◌++◌, map, Bool, cond, ℕ, ◌≤◌, ◌<◌, length, take, get_or}
use Rattle.prelude.specs.Buffer.{AllBelow, written}
use Rattle.prelude.specs.Limits.{header_room, list_room, levels}
use Rattle.prelude.specs.Outputs.{octets_written, output_after}
use Rattle.prelude.specs.Result.{number_at, form_at, recipients_at, header_at, parameters_at}
use Rattle.grammar.specs.Bounds.{Every}
use Rattle.grammar.specs.Readings.{Reading}
use Rattle.rows.specs.Rows.{Entry, value_of}
use Rattle.rows.specs.Tables.{listed}
use Rattle.headers.specs.Components.{octets_at, Components, flattened_form, general_form}
use Rattle.headers.specs.Headers.{protected_entries}
use Rattle.shape.specs.Shape as shape
use Rattle.shape.specs.Recipients.{top_entries}
use Rattle.jwe.specs.Judge.{Call, call, places_in, result_of, header_after, list_after}
use Rattle.recipients.specs.Table.{RawRecipient, Sound}
use Rattle.recipients.specs.Parsed.{said_count, recipients_in}
use Rattle.json_message.specs.WriteOrder.{most_for}
use Rattle.json_message.specs.JsonWrite.{RawJson, message_of, written_text, json_write_refusal}
use Rattle.json_message.specs.Handed.{numbered_recipient, trimmed, text_entries, moved_entry, Given, member_lists, numbered_list}
use Rattle.json_message.specs.Handed.{PlacesIf}
use Rattle.meets.specs.Meets.{Meets}
use Rattle.round_trips.specs.Trips.{ComesBack}

-- What the writer is given is octets.
pub record JsonOctets (c : RawJson) : Type 0 where
  pub protected : AllBelow 256 c.protected
  pub shared : AllBelow 256 c.shared
  pub aad : AllBelow 256 c.aad
  pub iv : AllBelow 256 c.iv
  pub ciphertext : AllBelow 256 c.ciphertext
  pub tag : AllBelow 256 c.tag
  pub recipients : AllBelow 256 c.recipients

-- What is written reads back

-- What the output holds afterwards, and what the writer left at its start: the message.

abbrev pub json_write_buffer : Bool → RawJson → List ℕ → List ℕ → List ℕ
json_write_buffer general c known out =
    output_after (json_write_refusal general c known (length out)) (written_text general c) out

abbrev pub json_wrote : Bool → RawJson → List ℕ → List ℕ → List ℕ
json_wrote general c known out =
    take (octets_written (json_write_refusal general c known (length out)) (written_text general c))
    (json_write_buffer general c known out)

-- The n-th recipient that was given, counted from 0.
abbrev pub given_recipient : RawJson → ℕ → RawRecipient
given_recipient c n = numbered_recipient (recipients_in c.recipients) n

-- The components at their places in a message come back, the key being that of the recipient r. An empty one is absent, start
-- and size 0, but for the ciphertext, which is there though empty.
pub record JsonComeBack (message : List ℕ) (q : Components) (c : RawJson) (r : RawRecipient) : Type 0 where
  pub places : PlacesIf (message_of c) r q
  pub protected : ComesBack message q.protected c.protected
  pub key : ComesBack message q.key r.key
  pub iv : ComesBack message q.iv c.iv
  pub aad : ComesBack message q.aad c.aad
  pub ciphertext : ComesBack message q.ciphertext c.ciphertext
  pub tag : ComesBack message q.tag c.tag

-- The parameters of the protected, the shared and an own header, the two latter standing in the message from some octets on.
abbrev pub given_rows : RawJson → RawRecipient → ℕ → ℕ → List Entry
given_rows c r shared_from own_from =
    protected_entries c.protected
    ++ (map (moved_entry shared_from) (text_entries 1 c.shared) ++ map (moved_entry own_from) (text_entries 2 r.header))

-- The shared and the own header stand in the message as they were given, from some octets on; their members' values are these
-- texts without the space around them; and the list begins with the parameters of the three headers in order, each with its
-- origin, name, value and kind, its rest unchanged.
pub record TextsComeBack (c : RawJson) (n : ℕ) (r : RawRecipient) (reading : Call) (list : List ℕ) : Type 0 where
  pub shared_from : ℕ
  pub own_from : ℕ
  pub shared_given : Given reading.message shared_from c.shared
  pub own_given : Given reading.message own_from r.header
  pub shared_text : octets_at reading.message (value_of shape.unprotected (top_entries reading.message)) ≡ trimmed c.shared
  pub own_text :
      octets_at reading.message (value_of shape.header (numbered_list (member_lists reading.message) n))
      ≡ trimmed r.header
  pub list_left : list_after reading list ≡ written 0 (listed (given_rows c r shared_from own_from)) list
  pub parameters : get_or (result_of reading) parameters_at 0 ≡ length (given_rows c r shared_from own_from)

-- A message that was written reads back for its n-th recipient: it is accepted in the form that was asked and with as many
-- recipients as were given, the header buffer begins with the protected header that was given, its rest unchanged, and the
-- texts and the components come back at the places that the result has.
pub record JsonReadsBack (general : Bool) (c : RawJson) (n : ℕ) (reading : Call) (buffer list : List ℕ) : Type 0 where
  pub accepted : get_or (result_of reading) number_at 0 ≡ 0
  pub form : get_or (result_of reading) form_at 0 ≡ cond general general_form flattened_form
  pub count : get_or (result_of reading) recipients_at 0 ≡ said_count c.recipients
  pub header_left : header_after reading buffer ≡ written 0 c.protected buffer
  pub header_size : get_or (result_of reading) header_at 0 ≡ length c.protected
  pub texts : TextsComeBack c n (given_recipient c n) reading list
  pub components : JsonComeBack reading.message (places_in (result_of reading)) c (given_recipient c n)

-- When the writer refuses nothing

-- A header's text that is absent, or reads alone as a JSON object within 12 levels.
abbrev pub ReadsAlone : List ℕ → Type 0
ReadsAlone [] = Unit {0}
ReadsAlone (c ∷ w) = Reading levels (c ∷ w)

-- The table of recipients is sound and has no more than the form allows; the shared and each own header reads alone; what would
-- be written meets demand 2 for each recipient, which says that the protected header is short enough and reads; and it fits.
pub record JsonWritable (general : Bool) (c : RawJson) (known : List ℕ) (room : ℕ) : Type 0 where
  pub table : Sound c.recipients
  pub few : said_count c.recipients ≤ most_for general
  pub shared : ReadsAlone c.shared
  pub own : Every (λ r. ReadsAlone r.header) (recipients_in c.recipients)
  pub meets : (n : ℕ) → n < said_count c.recipients → Meets (call (written_text general c) known n header_room list_room)
  pub fits : length (written_text general c) ≤ room

-- The numbers that the writer refuses with, in its order. 4, 5, 11 and 19 are the reader's alone: what is written has the JSON
-- form, is encoded, and has the recipients of a sound table.
abbrev pub json_write_numbers : List ℕ
json_write_numbers = 3 ∷ 20 ∷ 6 ∷ 7 ∷ 2 ∷ 10 ∷ 8 ∷ 9 ∷ 12 ∷ 13 ∷ 14 ∷ 15 ∷ 16 ∷ 17 ∷ 18 ∷ 21 ∷ 1 ∷ []
