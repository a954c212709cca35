-- The JSON serialization's tables and refusals, stage by stage, as the code comes to them.
use Rattle.std.specs.Prelude.{◌≡◌, Bool, cond, ℕ, zero, suc, ◌+◌, ◌*◌, ◌≤◌, ◌<◌, length, take, drop, get_or, leb}
use mathlib.Core.List.{List, [], ◌∷◌, ◌++◌, map, flat_map}
use Rattle.std.proofs.Math.Option.{Option}
use Rattle.prelude.specs.Limits.{levels, most_members, most_recipients}
use Rattle.grammar.specs.Grammar.{curly}
use Rattle.grammar.specs.Bounds.{Every}
use Rattle.json_read.specs.Inner.Known.{KnownIn}
use Rattle.rows.specs.Rows.{Entry, Texts, read_texts}
use Rattle.rows.specs.Tables.{entries_of, width, header_table, recipient_table}
use Rattle.rows.specs.Inner.Prints.{flat, Printed}
use Rattle.prelude.specs.Refusals.{Test, ◌if◌, first}
use Rattle.jose.specs.HeaderRules.{recipient_order}
use Rattle.jose.specs.ContentAlgorithm.{content_algorithm, differing}
use Rattle.jose.specs.Inner.Content.{named_in, shown_in}
use Rattle.headers.specs.Headers.{text_order, outermost, protected_entries, object_order}
use Rattle.prelude.specs.Refusals.{Stage}
use Rattle.prelude.specs.Refusals.{Passed, Refused}
use Rattle.headers.specs.Components.{Components, with_key, sizes_of}
use Rattle.shape.specs.Shape.{Recipient}
use Rattle.shape.specs.Inner.Answers.{recipient_width}
use Rattle.jwe.specs.General.{own_entries, is_hollow}
use Rattle.jwe.specs.Judge.{Outcome, answered}
use Rattle.jwe.specs.Answers.{numbers, BeginsWith}
use Rattle.jwe.specs.Answers.{Result}

-- The room for the entries that are handed out: those of a recipient's three headers where the message is JSON, else of the
-- protected one.
abbrev pub table_room : Bool → ℕ
table_room json = cond json recipient_table header_table

-- The recipients of a table

-- The first, of three numbers: where its own header stands, its key's start and length.
abbrev pub recipient_at : List ℕ → Recipient
recipient_at t = record { header = get_or t 0 0; key = record { start = get_or t 1 0; size = get_or t 2 0 } }

-- The first n.
unfoldable pub recipients_of : ℕ → List ℕ → List Recipient
recipients_of zero t = []
recipients_of (suc n) t = recipient_at t ∷ recipients_of n (drop recipient_width t)

-- The room of a table for the own headers of all recipients.
abbrev pub own_table : ℕ
own_table = most_recipients * header_table

-- The own entries of the k-th.
abbrev pub own_at : List ℕ → List ℕ → ℕ → List Entry
own_at message of k = own_entries message (recipient_at (drop (k * recipient_width) of))

-- Entries of the message, collected into a table 32 entries apart as the k-th there, with how many they are.
pub record LaidAt (message : List ℕ) (es : List Entry) (own counts : List ℕ) (k : ℕ) : Type 0 where
  pub few : get_or counts k 0 ≤ most_members
  pub counted : get_or counts k 0 ≡ length es
  pub entries : take (get_or counts k 0 * width) (drop (k * header_table) own) ≡ flat message es

-- The own headers so collected; k is below the number of recipients.
abbrev pub OwnAt : List ℕ → List ℕ → List ℕ → List ℕ → ℕ → Type 0
OwnAt message of own counts k = LaidAt message (own_at message of k) own counts k

abbrev pub Owned : ℕ → List ℕ → List ℕ → List ℕ → List ℕ → Type 0
Owned number message of own counts = (k : ℕ) → k < number → OwnAt message of own counts k

-- What collecting them leaves. Where it refuses the contents are free and the lengths are kept: nothing reads both tables then.
abbrev pub LeavesOwn : ℕ → List ℕ → List ℕ → List ℕ → List ℕ → Stage → Type 0
LeavesOwn number message of own counts (Passed n) = Owned number message of own counts
LeavesOwn number message of own counts (Refused n) = (length own ≡ own_table) × (length counts ≡ most_recipients)

-- A table whose first n entries are unchanged, with the fingerprints of their names.
pub record KeepsFront (ts : Texts) (n : ℕ) (before after : List ℕ) : Type 0 where
  pub entries : entries_of n after ≡ entries_of n before
  pub printed : Printed ts n after

-- The content algorithm of the k-th own header, and those of n of them from the k-th on.

abbrev pub own_content : List ℕ → List ℕ → List ℕ → ℕ → Option (List ℕ)
own_content message own counts k = shown_in message (named_in (entries_of (get_or counts k 0) (drop (k * header_table) own)))

unfoldable pub own_contents : List ℕ → List ℕ → List ℕ → ℕ → ℕ → List (Option (List ℕ))
own_contents message own counts k zero = []
own_contents message own counts k (suc n) = own_content message own counts k ∷ own_contents message own counts (k + 1) n

-- What is known of the headers of a message that has been judged: where one stands, what opens in it reads.

abbrev pub HeaderKnown : List ℕ → ℕ → Type 0
HeaderKnown message start = (start ≡ 0 → ⊥) → KnownIn curly levels message start

abbrev pub HeadersKnown : List ℕ → List Recipient → Type 0
HeadersKnown message rs = Every (λ r. HeaderKnown message r.header) rs

-- Refusals

-- 6 and 7 on the protected header, if there is one.
unfoldable pub text_tests : Bool → List ℕ → List Test
text_tests there header = cond there (text_order header) []

-- 10 where it has no member; 8 and 9 on it.
unfoldable pub protected_tests : Bool → List ℕ → List Test
protected_tests there header =
    cond there (10 if is_hollow (outermost header) ∷ []) [] ++ object_order header (protected_entries header)

-- 8 and 9 on each recipient's own header.
unfoldable pub own_tests : List ℕ → List Recipient → List Test
own_tests message rs = flat_map (λ r. object_order message (own_entries message r)) rs

-- 12 to 18 on each recipient, whose parameters are some that are all recipients', and its own; and whose components but the
-- key are all recipients'.
unfoldable pub rule_tests : List (List ℕ) → List ℕ → List ℕ → List Entry → Components → List Recipient → List Test
rule_tests known header message front q rs =
    flat_map
    (λ r.
    recipient_order known (read_texts header message) (front ++ own_entries message r) (sizes_of (with_key q r.key)))
    rs

-- 21 on all of them.
unfoldable pub content_tests : List ℕ → List ℕ → List Entry → List Recipient → List Test
content_tests header message front rs =
    21 if differing 0 (map (λ r. content_algorithm (read_texts header message) (front ++ own_entries message r)) rs) ∷ []

-- Both.
unfoldable pub ruled_tests : List (List ℕ) → List ℕ → List ℕ → List Entry → Components → List Recipient → List Test
ruled_tests known header message front q rs =
    rule_tests known header message front q rs ++ content_tests header message front rs

-- All recipients judged.
unfoldable pub all_tests : List (List ℕ) → List ℕ → List ℕ → List Entry → Components → List Recipient → List Test
all_tests known header message front q rs = own_tests message rs ++ ruled_tests known header message front q rs

-- From the own headers on.
unfoldable pub headed_order : List (List ℕ) → List ℕ → List ℕ → List Entry → Components → List Recipient → ℕ → List Test
headed_order known header message front q rs recipient =
    all_tests known header message front q rs ++ (19 if leb (length rs) recipient ∷ [])

-- A message judged by an order: the result is that of its first refusal and of its outcome. Where nothing is refused, the decoded
-- header stands at the start of the text buffer and the entries, with the fingerprints of their names, at the start of the table. Where it is
-- refused the contents of both are free and their lengths are kept: nothing reads them then.
pub record Judges (message : List ℕ) (order : List Test) (x : Outcome) (r : Result) (text₀ text table₀ table : List ℕ) : Type 0 where
  pub answers : numbers r ≡ answered message (first order) x
  pub same_text : length text ≡ length text₀
  pub same_table : length table ≡ length table₀
  pub header : first order ≡ 0 → take (length x.header) text ≡ x.header
  pub entries : first order ≡ 0 → BeginsWith x.entries table₀ table
  pub printed : first order ≡ 0 → Printed (read_texts x.header message) (length x.entries) table
