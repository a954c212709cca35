-- What the functions of the code answer and leave.
use Rattle.std.specs.Prelude.{◌≡◌, List, [], ◌∷◌, ◌++◌, cond, ℕ, ◌*◌, length, eqb, ltb}
use Rattle.prelude.specs.Buffer.{written}
use Rattle.grammar.specs.Places.{Element}
use Rattle.rows.specs.Rows.{Entry, present}
use Rattle.rows.specs.Inner.Prints.{collected_table}
use Rattle.prelude.specs.Refusals.{Test, ◌if◌, first}
use Rattle.prelude.specs.Limits.{most_recipients}
use Rattle.prelude.specs.Refusals.{Stage}
use Rattle.prelude.specs.Refusals.{Passed, Refused}
use Rattle.shape.specs.Shape.{Recipient, recipient_of, recipients, wrong_elements}
use Rattle.headers.specs.Headers.{unread}
use Rattle.headers.specs.Answers.{components_of}
use Rattle.shape.specs.Recipients.{Top, top_entries, elements_in, element_entries, element_order}
use Rattle.shape.specs.declared.held.Top as declared

-- The table into which the top level is collected: unchanged where the message does not read (7) or has more than 32
-- members (8); it begins with the entries otherwise, also where 9 or 10 refuses them.
unfoldable pub top_table : List ℕ → List ℕ → List ℕ
top_table message table = cond (unread message) table (collected_table 0 message (top_entries message) table)

-- What the code holds of the top level.
abbrev pub top_in : declared.Top → Top
top_in t = record {
  form = t.form;
  protected = t.protected;
  shared = t.shared;
  components = components_of t.components;
}

-- Recipients as numbers in a table, three each: where the own header stands, the key's start and length.

abbrev pub recipient_width : ℕ
recipient_width = 3

abbrev pub recipients_room : ℕ
recipients_room = most_recipients * recipient_width

abbrev pub three : Recipient → List ℕ
three r = r.header ∷ r.key.start ∷ r.key.size ∷ []

unfoldable pub flat_recipients : List Recipient → List ℕ
flat_recipients [] = []
flat_recipients (r ∷ rs) = three r ++ flat_recipients rs

-- The elements of `recipients`: 10 and 11 on them, and where they start.

unfoldable pub array_order : List Element → List Test
array_order xs = 10 if wrong_elements xs ∷ 11 if ltb most_recipients (length xs) ∷ []

unfoldable pub starts_of : List Element → List ℕ
starts_of [] = []
starts_of (x ∷ xs) = x.start ∷ starts_of xs

-- The answer where all are objects, and no more than 8.
abbrev pub counted : ℕ → Stage
counted n = cond (eqb n 0) (Refused 10) (Passed n)

-- The elements at some starts: 8, 9, 10 on each in turn, and the recipients that they are.

unfoldable pub starts_order : List ℕ → List ℕ → List Test
starts_order message [] = []
starts_order message (start ∷ rest) = element_order message start ++ starts_order message rest

unfoldable pub recipients_at : List ℕ → List ℕ → List Recipient
recipients_at message [] = []
recipients_at message (start ∷ rest) = recipient_of (element_entries message start) ∷ recipients_at message rest

-- The recipients before the first element that is refused: those that are written.
unfoldable pub passed_at : List ℕ → List ℕ → List Recipient
passed_at message [] = []
passed_at message (start ∷ rest) =
    let later = passed_at message rest in
    cond (eqb (first (element_order message start)) 0) (recipient_of (element_entries message start) ∷ later) []

-- The recipients that a message's table then begins with: all where none is refused, none where 10 or 11 refuses
-- `recipients` itself.
unfoldable pub written_in : List ℕ → List Entry → List Recipient
written_in message es =
    let xs = elements_in message es in
    cond (present recipients es)
    (cond (eqb (first (array_order xs)) 0) (passed_at message (starts_of xs)) [])
    (recipient_of es ∷ [])

-- What the walk along the elements leaves: where it passes, the starts, and the rest of the table unchanged. Where it refuses,
-- the contents are free and only the length is kept: the table is a local one of `recipients`, which does not read it
-- then.
abbrev pub Leaves : List ℕ → List ℕ → List ℕ → Stage → Type 0
Leaves starts before after (Passed n) = after ≡ written 0 starts before
Leaves starts before after (Refused n) = length after ≡ length before

-- What one element leaves: where it passes, the numbers from a position on; else the table is unchanged.
abbrev pub LeavesAt : ℕ → List ℕ → List ℕ → List ℕ → Stage → Type 0
LeavesAt at numbers before after (Passed n) = after ≡ written at numbers before
LeavesAt at numbers before after (Refused n) = after ≡ before
