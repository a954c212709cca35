-- The demands (minutes, item 4). Each proof cites the file that has it.
--
-- Demand 1's first half, that any octets, lent lengths and recipient number get an answer, is the contracts themselves: no function of
-- crates/gateway/src/lib.rt has a condition, and each is proved to answer and leave what its definitions say, for every input.
-- Those definitions are, for reading, `refusal`, `result_of`, `header_after` and `list_after` (crates/jwe/specs/Judge.antt) of what the
-- reader is called with (`Call`, crates/prelude/specs/Call.antt); for decoding, AAD and writing a refusal (`decode_refusal`,
-- `aad_refusal`, `write_refusal`, `json_write_refusal`), what is written (`decoded`, `aad_text`, `compact_text`, `written_text`), and of
-- both the octets written and the output afterwards (crates/prelude/specs/Outputs.antt); for the header walk `opened`, `handed_by` and `moved`
-- (crates/walk/specs/Walk.antt); for comparing two messages `refusal_of`, `compare_number` and `shown_lines` (crates/differences/specs/Answers.antt).
-- What a message has to meet stands in crates/meets/specs/Meets.antt, over the trees of crate
-- grammar and the encoding of crate base64url.
use mathlib.Core.Path.{◌≡◌}
use mathlib.Core.Bool.{Bool}
use mathlib.Core.Logic.{◌↔◌, ◌⊎◌}
use mathlib.Core.List.{List, [], map}
use Prim.Native.Nat.{ℕ, ◌*◌, ◌≤◌, ◌<◌}
use lib.ListN.{length, get_or}
use denote.Ref.{Bor}
use Rattle.prelude.specs.Ascii.{ascii}
use Rattle.prelude.specs.Buffer.{written}
use Rattle.prelude.specs.Limits.{header_room, list_room, levels}
use Rattle.prelude.specs.Refusals.{OneOf}
use Rattle.prelude.specs.Outputs.{octets_written, ChangesNothing}
use Rattle.base64url.specs.Base64url.{decoded}
use Rattle.base64url.specs.Answers.{decode_refusal, decode_buffer}
use Rattle.grammar.specs.Grammar.{Value}
use Rattle.grammar.specs.Places.{kind}
use Rattle.grammar.specs.Readings.{Reading}
use Rattle.walk.specs.Walk.{walk_refusal, opened, handed_by, after, rows_of, row_or}
use Rattle.std.specs.Prelude.{None}
use Rattle.walk.proofs.Theorems as Walk
use Rattle.jwe.specs.Judge.{Call, call, call_for, refusal, refused, places_in, result_of, header_after, list_after}
use Rattle.aad.specs.Aad.{aad_text, aad_refusal, aad_buffer}
use Rattle.jwe_write.specs.Write.{Raw, compact_text, write_refusal}
use Rattle.jwe_write.specs.Answers.{write_buffer}
use Rattle.meets.specs.Members.{members_of}
use Rattle.meets.specs.Rules.{Present}
use Rattle.meets.specs.Meets.{Meets, count}
use Rattle.meets.proofs.Refused as Refused
use Rattle.meets.proofs.Accepted as Accepted
use Rattle.refusals.specs.Table.{Refuses}
use Rattle.refusals.specs.Numbers.{numbers_table}
use Rattle.refusals.specs.Further.{walk_table, decode_table, aad_table, write_table}
use Rattle.refusals.proofs.Refused as Numbers
use Rattle.refusals.proofs.GeneralAlone as GeneralAlone
use Rattle.refusals.proofs.FurtherRefuses as Further
use Rattle.round_trips.specs.Trips.{RawOctets, wrote, ReadsBack, WritesBack}
use Rattle.round_trips.proofs.RoundTrips as RoundTrips
use Rattle.recipients.specs.Parsed.{said_count}
use Rattle.json_message.specs.JsonWrite.{RawJson, written_text, json_write_refusal}
use Rattle.json_trips.specs.JsonTrips.{JsonOctets, json_write_buffer, json_wrote, JsonReadsBack, JsonWritable, json_write_numbers}
use Rattle.json_trips.specs.JsonNumbers.{json_write_table}
use Rattle.json_trips.proofs.JsonTrips as JsonTrips
use Rattle.means.specs.Means.{HandsOut, ResultMeans}
use Rattle.means.proofs.HandsOut as HandsOut
use Rattle.means.proofs.ResultMeans as ResultMeans
use Rattle.means.proofs.ResultOnce as ResultOnce
use Rattle.parameters.specs.Lines.{Line, line_width, laid}
use Rattle.differences.specs.Differences.{compared, differences}
use Rattle.differences.specs.Answers.{refusal_of, compare_number, shown_lines}
use Rattle.same_values.specs.Same.{SameWith, Same, own, NamesDistinct}
use Rattle.same_values.proofs.Theorems as Values
use Rattle.difference_means.specs.Meaning.{RowsFor, Says, In, Agree, most_lines}
use Rattle.difference_means.proofs.Theorems as Differences
use Rattle.gateway.specs.Numbers.{read_numbers, decode_numbers, aad_numbers, write_numbers, compare_numbers}
use Rattle.gateway.specs.Samples.{Sample, answer, samples}
use Rattle.gateway.proofs.Refusing as Refusing
use Rattle.gateway.proofs.Samples as Samples

-- Demand 1. A refusal has a number from document 01's table; its result is that number with zeros, and both lent buffers are
-- unchanged.
pub refusal_changes_nothing : (c : Call) (buffer list : List ℕ) →
    let n = refusal c in
    (n ≡ 0 → ⊥) →
    OneOf n read_numbers × ((result_of c ≡ refused n) × (header_after c buffer ≡ buffer) × (list_after c list ≡ list))
refusal_changes_nothing c buffer list n =
    (Refusing.read_listed c n, Refused.refusal_changes_nothing c n buffer list)

-- So have decoding, AAD and writing, with no octets and the output unchanged.

pub decoding_changes_nothing : (text out : List ℕ) →
    let n = decode_refusal text (length out) in
    (n ≡ 0 → ⊥) → ChangesNothing decode_numbers n (octets_written n (decoded text)) out (decode_buffer text out)
decoding_changes_nothing = Refusing.decoding_changes_nothing

pub aad_changes_nothing : (header aad out : List ℕ) →
    let n = aad_refusal header aad (length out) in
    (n ≡ 0 → ⊥) → ChangesNothing aad_numbers n (octets_written n (aad_text header aad)) out (aad_buffer header aad out)
aad_changes_nothing = Refusing.aad_changes_nothing

pub writing_changes_nothing : (c : Raw) (known out : List ℕ) →
    let n = write_refusal c known (length out) in
    (n ≡ 0 → ⊥) → ChangesNothing write_numbers n (octets_written n (compact_text c)) out (write_buffer c known out)
writing_changes_nothing = Refusing.writing_changes_nothing

pub json_writing_changes_nothing : (general : Bool) (c : RawJson) (known out : List ℕ) → JsonOctets c →
    let n = json_write_refusal general c known (length out) in
    (n ≡ 0 → ⊥) →
    ChangesNothing json_write_numbers n (octets_written n (written_text general c)) out (json_write_buffer general c known out)
json_writing_changes_nothing = JsonTrips.json_writing_changes_nothing

-- Demand 2, acceptance. A message is accepted exactly when what is lent is enough and it meets the rules and has the
-- recipient.
pub accepted_exactly : (c : Call) → (refusal c ≡ 0) ↔ Meets c
accepted_exactly = Accepted.accepted_exactly

-- Demand 2, refusal. A number is given exactly where its rule is the first in document 01's order that is broken: its sentence
-- does not hold, and those before it do (crates/refusals/specs/Numbers.antt). 0: none is broken.
pub refused_exactly : (c : Call) (k : ℕ) → (refusal c ≡ k) ↔ Refuses (numbers_table c) k
refused_exactly = Numbers.refused_exactly

-- So are the numbers of opening a header walk, decoding, AAD and writing (crates/refusals/specs/Further.antt).

pub walk_refused_exactly : (text : List ℕ) (k : ℕ) → (walk_refusal text ≡ k) ↔ Refuses (walk_table text) k
walk_refused_exactly = Further.walk_refused_exactly

pub decode_refused_exactly : (text : List ℕ) (room k : ℕ) →
    (decode_refusal text room ≡ k) ↔ Refuses (decode_table text room) k
decode_refused_exactly = Further.decode_refused_exactly

pub aad_refused_exactly : (header aad : List ℕ) (room k : ℕ) →
    (aad_refusal header aad room ≡ k) ↔ Refuses (aad_table header aad room) k
aad_refused_exactly = Further.aad_refused_exactly

pub write_refused_exactly : (c : Raw) (known : List ℕ) (room k : ℕ) →
    (write_refusal c known room ≡ k) ↔ Refuses (write_table c known room) k
write_refused_exactly = Further.write_refused_exactly

pub json_write_refused_exactly : (general : Bool) (c : RawJson) (known : List ℕ) (room : ℕ) → JsonOctets c → (k : ℕ) →
    (json_write_refusal general c known room ≡ k) ↔ Refuses (json_write_table general c known room) k
json_write_refused_exactly = JsonTrips.json_write_refused_exactly

-- 21 (request 2/12) is given to general messages alone: what it refuses reads as JSON and has a top-level member `recipients`. So no
-- compact and no flattened message gets it.
pub content_general : (c : Call) → refusal c ≡ 21 →
    (r : Reading levels c.message) × Present (ascii "recipients") (members_of r.text.value)
content_general = GeneralAlone.content_general

-- Demand 2, round trips (crates/round_trips/specs/Trips.antt). What the compact writer leaves of octets, read for recipient 0 with
-- the same list and the room that is asked for, reads back to what was given.
pub written_reads_back : (c : Raw) (known out buffer list : List ℕ) → RawOctets c →
    write_refusal c known (length out) ≡ 0 → header_room ≤ length buffer → list_room ≤ length list →
    ReadsBack c (call (wrote c known out) known 0 (length buffer) (length list)) buffer list
written_reads_back = RoundTrips.written_reads_back

-- An accepted compact message, taken apart at the places of its result and written again with the same list and room for it,
-- gives the same octets.
pub read_writes_back : (c : Call) →
    let r = result_of c in
    get_or r 0 0 ≡ 0 → get_or r 1 0 ≡ 0 → (out : List ℕ) → length c.message ≤ length out →
    WritesBack c.message c.known out (places_in r)
read_writes_back = RoundTrips.read_writes_back

-- The writer refuses nothing exactly when what it would write meets demand 2 and fits.
pub writes_exactly : (c : Raw) (known : List ℕ) (room : ℕ) → RawOctets c →
    (write_refusal c known room ≡ 0)
    ↔ (Meets (call (compact_text c) known 0 header_room list_room) × (length (compact_text c) ≤ room))
writes_exactly = RoundTrips.writes_exactly

-- The JSON writer (crates/json_trips/specs/JsonTrips.antt). What it leaves of octets, read for any of its recipients with the same list
-- and the room that is asked for, reads back to what was given.
pub json_written_reads_back : (general : Bool) (c : RawJson) (known out buffer list : List ℕ) → JsonOctets c →
    json_write_refusal general c known (length out) ≡ 0 → header_room ≤ length buffer → list_room ≤ length list → (n : ℕ) →
    n < said_count c.recipients →
    JsonReadsBack general c n (call (json_wrote general c known out) known n (length buffer) (length list)) buffer list
json_written_reads_back = JsonTrips.json_written_reads_back

-- It refuses nothing exactly when what it would write meets demand 2 for all its recipients, the pieces read alone, and it fits.
pub json_writes_exactly : (general : Bool) (c : RawJson) (known : List ℕ) (room : ℕ) → JsonOctets c →
    (json_write_refusal general c known room ≡ 0) ↔ JsonWritable general c known room
json_writes_exactly = JsonTrips.json_writes_exactly

-- Demand 3 (crates/means/specs/Means.antt). For each message that demand 2 accepts with what is lent, and each recipient
-- number n below its count: one header and one list of rows apply to n by the grammar, whatever was known and lent; they are
-- what the lent memory begins with, its rest unchanged, and their lengths stand in the result; they are the header's octets
-- and, one for one, the parameters of what the message meets; and the message, if it is JSON, and the header, if there is one,
-- each have exactly one reading.
pub handed_out : (c : Call) (m : Meets c) (n : ℕ) → n < count m.form → (buffer list : List ℕ) →
    HandsOut (call_for n c) buffer list m.form
handed_out = HandsOut.hands_out

-- The numbers of the result mean what the message meets, and no other numbers do.

pub result_means : (c : Call) (m : Meets c) (n : ℕ) → n < count m.form → ResultMeans m.form n (result_of (call_for n c))
result_means = ResultMeans.result_means

pub result_once : (c : Call) (m : Meets c) (n : ℕ) → n < count m.form → (r : List ℕ) → ResultMeans m.form n r →
    r ≡ result_of (call_for n c)
result_once = ResultOnce.result_once

-- The header walk. Call k on a text that is not refused hands out the k-th member of its reading by the grammar, every member
-- once, in text order, then the end for ever; on a text that is refused, the end at once.

pub walk_hands : (x : Bor (List ℕ)) (r : Reading 12 x.now) → walk_refusal x.now ≡ 0 → (k : ℕ) →
    handed_by (after k (opened x)) ≡ row_or (rows_of x.now r) k
walk_hands = Walk.walk_hands

pub walk_refused : (x : Bor (List ℕ)) → (walk_refusal x.now ≡ 0 → ⊥) → (k : ℕ) →
    handed_by (after k (opened x)) ≡ None
walk_refused = Walk.walk_refused

-- What differs between two messages (request 4/12)

-- Where any refuses there are no lines, and the list is unchanged; the own number is 1 exactly where both are accepted and the list cannot
-- hold all lines, and never another but 0.

pub comparing_changes_nothing : (left right known list : List ℕ) →
    let shown = shown_lines left right known (length list) in
    ((refusal_of left known ≡ 0 → ⊥) ⊎ ((refusal_of right known ≡ 0 → ⊥) ⊎ (compare_number left right known (length list) ≡ 0 → ⊥))) →
    (length shown ≡ 0) × (written 0 (laid shown) list ≡ list)
comparing_changes_nothing = Refusing.comparing_changes_nothing

pub compare_listed : (left right known : List ℕ) (room : ℕ) →
    let n = compare_number left right known room in (n ≡ 0 → ⊥) → OneOf n compare_numbers
compare_listed = Refusing.compare_listed

pub compare_short : (left right known : List ℕ) (room : ℕ) →
    (compare_number left right known room ≡ 1)
    ↔ ((refusal_of left known ≡ 0) × (refusal_of right known ≡ 0)
    × (room < length (differences (compared left) (compared right)) * line_width))
compare_short = Refusing.compare_short

-- What its lines mean (crates/difference_means/specs/Meaning.antt), over what both messages meet: a line is in the list exactly if what it says
-- holds, its places being those of the rows that apply; and there are such rows.

pub lines_say : (left right known : List ℕ) (m : Meets (call left known 0 header_room list_room))
    (k : Meets (call right known 0 header_room list_room)) (x : RowsFor m.form) (y : RowsFor k.form) (l : Line) →
    In l (differences (compared left) (compared right)) ↔ Says m.form k.form x y l
lines_say = Differences.lines_say

pub rows_for_lem : (message known : List ℕ) (m : Meets (call message known 0 header_room list_room)) → RowsFor m.form
rows_for_lem = Differences.rows_for_lem

-- There are none exactly if the messages agree in all that is compared; so a message compared with itself shows no difference.

pub no_difference : (left right known : List ℕ) (m : Meets (call left known 0 header_room list_room))
    (k : Meets (call right known 0 header_room list_room)) →
    (differences (compared left) (compared right) ≡ []) ↔ Agree m.form k.form
no_difference = Differences.no_difference

pub same_message : (message known : List ℕ) → refusal_of message known ≡ 0 →
    differences (compared message) (compared message) ≡ []
same_message = Differences.same_message

-- There are at most 1,551.
pub few_lines : (left right known : List ℕ) (m : Meets (call left known 0 header_room list_room))
    (k : Meets (call right known 0 header_room list_room)) → length (differences (compared left) (compared right)) ≤ most_lines
few_lines = Differences.few_lines

-- Two values are the same (crates/same_values/specs/Same.antt) level by level, and no other relation has that equation; it is one of
-- equivalence, values with the same octets are the same, and an object that repeats a name is the same as its own octets alone.

pub same_is : (v w : Value) → Same v w ↔ SameWith Same v w
same_is = Values.same_is

pub same_only : (R : Value → Value → Type 0) → ((v w : Value) → R v w ↔ SameWith R v w) → (v w : Value) → R v w ↔ Same v w
same_only = Values.same_only

pub same_itself : (v : Value) → Same v v
same_itself = Values.same_itself

pub same_symmetric : (v w : Value) → Same v w → Same w v
same_symmetric = Values.same_symmetric

pub same_transitive : (u v w : Value) → Same u v → Same v w → Same u w
same_transitive = Values.same_transitive

pub same_octets : (v w : Value) → own v ≡ own w → Same v w
same_octets = Values.same_octets

pub repeated_only : (v w : Value) → (NamesDistinct v → ⊥) → kind v ≡ 0 → Same v w → own v ≡ own w
repeated_only = Values.repeated_only

-- Every sample of document 01 holds.
pub samples_hold : map (λ (s : Sample). answer s.input) samples ≡ map (λ (s : Sample). s.expected) samples
samples_hold = Samples.samples_hold
