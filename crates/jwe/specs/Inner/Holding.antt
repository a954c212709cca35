-- What `hold` leaves of an accepted message: what it holds (specs/Judge `Held`) in the answer and in the lent tables.
use Rattle.std.specs.Prelude.{◌≡◌, List, ◌++◌, ℕ, ◌*◌, ◌≤◌, ◌<◌, length, take, drop, get_or}
use Rattle.prelude.specs.Limits.{header_room, most_members, most_recipients}
use Rattle.prelude.specs.Refusals.{Test, first}
use Rattle.rows.specs.Rows.{read_texts}
use Rattle.rows.specs.Tables.{entries_of, width, header_table}
use Rattle.rows.specs.Inner.Prints.{flat, Printed}
use Rattle.headers.specs.Headers.{header_text, protected_entries}
use Rattle.headers.specs.Answers.{components_of}
use Rattle.shape.specs.Shape.{Recipient}
use Rattle.shape.specs.Recipients.{Top}
use Rattle.shape.specs.Inner.Answers.{recipient_width}
use Rattle.jwe.specs.General.{shared_entries, own_entries}
use Rattle.jwe.specs.Judge.{Share, Held, asked}
use Rattle.jwe.specs.Inner.Stages.{recipient_at}
use Rattle.jwe.specs.Answers.{Holding}

-- As `json_held`, by what the top level holds and by the recipients.
abbrev pub held_of : List ℕ → Top → List Recipient → Held
held_of message t rs =
    let header = header_text message t.components.protected in
    record {
      form = t.form;
      components = t.components;
      header = header;
      common = protected_entries header ++ shared_entries message t;
      recipients = length rs;
      share = λ n. let r = asked rs n in record { key = r.key; own = own_entries message r };
    }

-- The n-th recipient's: the place of its key in the table of recipients, and its own parameters in their table, 32 entries apart.
pub record HoldsShare (message : List ℕ) (x : Share) (of own counts : List ℕ) (n : ℕ) : Type 0 where
  pub key : (recipient_at (drop (n * recipient_width) of)).key ≡ x.key
  pub few : get_or counts n 0 ≤ most_members
  pub counted : get_or counts n 0 ≡ length x.own
  pub laid : take (get_or counts n 0 * width) (drop (n * header_table) own) ≡ flat message x.own
  pub entries : entries_of (get_or counts n 0) (drop (n * header_table) own) ≡ x.own

-- The n parameters that are all recipients', at the start of a table, with the fingerprints of their names.
pub record HoldsCommon (message : List ℕ) (h : Held) (n : ℕ) (table : List ℕ) : Type 0 where
  pub few : n ≤ 2 * most_members
  pub entries : entries_of n table ≡ h.common
  pub printed : Printed (read_texts h.header message) n table

-- All that it holds. There is a first recipient.
pub record Holds (message : List ℕ) (h : Held) (r : Holding) (text table of own counts : List ℕ) : Type 0 where
  pub form : r.form ≡ h.form
  pub recipients : r.recipients ≡ h.recipients
  pub some : 1 ≤ r.recipients
  pub few : r.recipients ≤ most_recipients
  pub components : components_of r.components ≡ h.components
  pub fits : r.header ≤ header_room
  pub header : take r.header text ≡ h.header
  pub common : HoldsCommon message h r.common table
  pub share : (n : ℕ) → n < r.recipients → HoldsShare message (h.share n) of own counts n

-- A message judged by an order: the number is that of its first refusal, and where nothing is refused, what it holds is left. Elsewhere the
-- contents are free.
pub record HoldsBy (message : List ℕ) (order : List Test) (h : Held) (r : Holding) (text table of own counts : List ℕ)
    : Type 0 where
  pub number : r.number ≡ first order
  pub holds : first order ≡ 0 → Holds message h r text table of own counts

-- The own parameters of the i-th recipient put behind the n that are all recipients': the table begins with m in all, and still with
-- those n, so that the next recipient's can be put there.
pub record Gathers (message : List ℕ) (h : Held) (i n m : ℕ) (table : List ℕ) : Type 0 where
  pub common : HoldsCommon message h n table
  pub few : m * width ≤ length table
  pub entries : entries_of m table ≡ h.common ++ (h.share i).own
  pub printed : Printed (read_texts h.header message) m table
