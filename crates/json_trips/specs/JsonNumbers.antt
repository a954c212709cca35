-- What each number says with which the JSON writer refuses (request 1/12), in its order: 3; 20; 6; 7 on each text; 2 and then the
-- reader's from 7 on, over what would be written; 1 last.
use Rattle.std.specs.Prelude.{List, Bool, ℕ, ◌≤◌, length}
use Rattle.prelude.specs.Limits.{longest, header_room}
use Rattle.grammar.specs.Bounds.{Every}
use Rattle.recipients.specs.Table.{Sound}
use Rattle.recipients.specs.Parsed.{said_count, recipients_in}
use Rattle.json_message.specs.WriteOrder.{most_for}
use Rattle.json_message.specs.JsonWrite.{RawJson, written_text}
use Rattle.meets.specs.Meets.{Known}
use Rattle.refusals.specs.Table.{Table, pass, rule, given, fork}
use Rattle.refusals.specs.Numbers.{json_table}
use Rattle.json_trips.specs.JsonTrips.{ReadsAlone}

-- The rules of a table, and behind them those of another.
unfoldable pub followed_by : Table → Table → Table
followed_by pass u = u
followed_by (rule n P rest) u = rule n P λ p. followed_by (rest p) u
followed_by (given P rest) u = given P λ p. followed_by (rest p) u
followed_by (fork P s t) u = fork P (followed_by s u) (followed_by t u)

-- The reader is asked for the first recipient: its rules but 19 are the same for each.
unfoldable pub json_write_table : Bool → RawJson → List ℕ → ℕ → Table
json_write_table general c known room =
    rule 3 (Known known) λ k.
    rule 20 (Sound c.recipients × (said_count c.recipients ≤ most_for general)) λ table.
    rule 6 (length c.protected ≤ header_room) λ short.
    rule 7 (ReadsAlone c.protected
    × (ReadsAlone c.shared × Every (λ r. ReadsAlone r.header) (recipients_in c.recipients))) λ alone.
    rule 2 (length (written_text general c) ≤ longest) λ size.
    followed_by (json_table k.names (written_text general c) 0)
    (rule 1 (length (written_text general c) ≤ room) λ lent. pass)
