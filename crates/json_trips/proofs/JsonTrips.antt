-- The JSON writer and the reader (request 1/12), on one page. Each proof cites the file that has it.
use mathlib.Core.Path.{◌≡◌}
use mathlib.Core.Bool.{Bool}
use mathlib.Core.List.{List}
use mathlib.Core.Logic.{◌↔◌}
use Prim.Native.Nat.{ℕ, ◌≤◌, ◌<◌}
use lib.ListN.{length}
use Rattle.prelude.specs.Limits.{header_room, list_room}
use Rattle.prelude.specs.Outputs.{octets_written, ChangesNothing}
use Rattle.jwe.specs.Judge.{call}
use Rattle.recipients.specs.Parsed.{said_count}
use Rattle.json_message.specs.JsonWrite.{RawJson, written_text, json_write_refusal}
use Rattle.refusals.specs.Table.{Refuses}
use Rattle.json_trips.specs.JsonTrips.{JsonOctets, json_write_buffer, json_wrote, JsonReadsBack, JsonWritable, json_write_numbers}
use Rattle.json_trips.specs.JsonNumbers.{json_write_table}
use Rattle.json_trips.proofs.WrittenReads as WrittenReads
use Rattle.json_trips.proofs.WritesExactly as WritesExactly
use Rattle.json_trips.proofs.Refusing as Refusing
use Rattle.json_trips.proofs.RefusedExactly as RefusedExactly

-- What the writer leaves of octets, read for any of its recipients with the same list and the room that is asked for, reads back
-- to what was given.
pub json_written_reads_back : (general : Bool) (c : RawJson) (known out buffer list : List ℕ) → JsonOctets c →
    json_write_refusal general c known (length out) ≡ 0 → header_room ≤ length buffer → list_room ≤ length list → (n : ℕ) →
    n < said_count c.recipients →
    JsonReadsBack general c n (call (json_wrote general c known out) known n (length buffer) (length list)) buffer list
json_written_reads_back = WrittenReads.json_written_reads_back

-- The writer refuses nothing exactly when what it would write meets demand 2 for all its recipients, the pieces read alone, and
-- it fits.
pub json_writes_exactly : (general : Bool) (c : RawJson) (known : List ℕ) (room : ℕ) → JsonOctets c →
    (json_write_refusal general c known room ≡ 0) ↔ JsonWritable general c known room
json_writes_exactly = WritesExactly.json_writes_exactly

-- A refusal has one of the writer's numbers, no octets are written and the output is unchanged.
pub json_writing_changes_nothing : (general : Bool) (c : RawJson) (known out : List ℕ) → JsonOctets c →
    let n = json_write_refusal general c known (length out) in
    (n ≡ 0 → ⊥) →
    ChangesNothing json_write_numbers n (octets_written n (written_text general c)) out (json_write_buffer general c known out)
json_writing_changes_nothing = Refusing.json_writing_changes_nothing

-- A number is given exactly where its rule is the first in the writer's order that is broken; 0 where none is.
pub json_write_refused_exactly : (general : Bool) (c : RawJson) (known : List ℕ) (room : ℕ) → JsonOctets c → (k : ℕ) →
    (json_write_refusal general c known room ≡ k) ↔ Refuses (json_write_table general c known room) k
json_write_refused_exactly = RefusedExactly.json_write_refused_exactly
