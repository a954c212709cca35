-- What the reader is called with. It stands below the reader, so that what a message has to meet is said without it.
use Rattle.std.specs.Prelude.{List, ℕ}

-- The message, the list of known names, the recipient's number, and how much was lent for the header and for the list.
pub record Call : Type 0 where
  pub message : List ℕ
  pub known : List ℕ
  pub recipient : ℕ
  pub header_lent : ℕ
  pub list_lent : ℕ

abbrev pub call : List ℕ → List ℕ → ℕ → ℕ → ℕ → Call
call message known recipient header_lent list_lent = record {
  message = message;
  known = known;
  recipient = recipient;
  header_lent = header_lent;
  list_lent = list_lent;
}

-- The same call for another recipient.
abbrev pub call_for : ℕ → Call → Call
call_for n c = call c.message c.known n c.header_lent c.list_lent
