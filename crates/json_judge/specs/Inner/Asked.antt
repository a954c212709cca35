-- What the code asks of the pieces, stage by stage.
use Rattle.std.specs.Prelude.{◌≡◌, Bool, true, false, ◌||◌, ℕ, ◌≤◌, length}
use mathlib.Core.List.{List, [], ◌∷◌, ◌++◌, map, flat_map}
use Rattle.std.proofs.Math.Option.{Option}
use Rattle.prelude.specs.Any.{any}
use Rattle.prelude.specs.Limits.{levels, longest}
use Rattle.prelude.specs.Refusals.{Test, ◌if◌}
use Rattle.grammar.specs.Bounds.{Every}
use Rattle.rows.specs.Rows.{texts}
use Rattle.rows.specs.Tables.{entries_of}
use Rattle.rows.specs.Inner.Prints.{Printed}
use Rattle.jose.specs.declared.Sizes.{Sizes}
use Rattle.jose.specs.HeaderRules.{recipient_order}
use Rattle.jose.specs.ContentAlgorithm.{content_algorithm, differing}
use Rattle.headers.specs.Headers.{too_long, protected_entries, object_order}
use Rattle.recipients.specs.Table.{RawRecipient}
use Rattle.json_message.specs.Handed.{text_entries}
use Rattle.json_message.specs.WriteOrder.{unread_within}
use Rattle.json_message.specs.Inner.Judged.{shared_levels, own_levels}
use Rattle.json_message.specs.Inner.PiecesOrder.{pieces_entries, hollow_text}

-- A text that can be collected: it is absent or reads, and its places can be counted.
pub record Readable (w : List ℕ) : Type 0 where
  pub short : length w ≤ longest
  pub reads : unread_within levels w ≡ false

-- The same of every own header.
abbrev pub OwnReadable : List RawRecipient → Type 0
OwnReadable rs = Every (λ r. Readable r.header) rs

abbrev pub OwnShort : List RawRecipient → Type 0
OwnShort rs = Every (λ r. length r.header ≤ longest) rs

-- The first entries of a table are those of the protected and the shared header, with the fingerprints of their names;
-- whatever the recipient's own header is.
pub record Front (header shared : List ℕ) (front : ℕ) (table : List ℕ) : Type 0 where
  pub entries : entries_of front table ≡ protected_entries header ++ text_entries 1 shared
  pub printed : (own : List ℕ) → Printed (texts header shared own) front table

-- The sizes of what is all recipients', with a key's.
abbrev pub with_key_size : Sizes → ℕ → Sizes
with_key_size z key = record { key = key; iv = z.iv; ciphertext = z.ciphertext; tag = z.tag }

-- 8 and 9 on an own header.
abbrev pub own_tests : List ℕ → List Test
own_tests own = object_order own (text_entries 2 own)

-- 12 to 18 on a recipient with this own header and these sizes.
abbrev pub rules_tests : List (List ℕ) → List ℕ → List ℕ → List ℕ → Sizes → List Test
rules_tests known header shared own z = recipient_order known (texts header shared own) (pieces_entries header shared own) z

-- The content algorithm of a recipient with this own header.
abbrev pub content_in : List ℕ → List ℕ → List ℕ → Option (List ℕ)
content_in header shared own = content_algorithm (texts header shared own) (pieces_entries header shared own)

-- Both on all recipients, and 21.
unfoldable pub recipients_tests : List (List ℕ) → List ℕ → List ℕ → Sizes → List RawRecipient → List Test
recipients_tests known header shared z rs =
    flat_map (λ r. own_tests r.header) rs
    ++ (flat_map (λ r. rules_tests known header shared r.header (with_key_size z (length r.key))) rs
    ++ (21 if differing 0 (map (λ r. content_in header shared r.header) rs) ∷ []))

-- 8 and 9 on the protected and the shared header before.
unfoldable pub parameters_tests : List (List ℕ) → List ℕ → List ℕ → Sizes → List RawRecipient → List Test
parameters_tests known header shared z rs =
    object_order header (protected_entries header)
    ++ (object_order shared (text_entries 1 shared) ++ recipients_tests known header shared z rs)

-- 7 on all texts, each within so many levels, the protected header within all.
unfoldable pub unread_texts : ℕ → ℕ → List ℕ → List ℕ → List RawRecipient → Bool
unread_texts l m header shared rs =
    unread_within levels header || (unread_within l shared || any (λ r. unread_within m r.header) rs)

-- 10 on all texts.
unfoldable pub hollow_texts : List ℕ → List ℕ → List RawRecipient → Bool
hollow_texts header shared rs = hollow_text header || (hollow_text shared || any (λ r. hollow_text r.header) rs)

-- From 6 on, of a message that would be too long, and of one that would not.

unfoldable pub over_tests : List ℕ → List ℕ → List RawRecipient → List Test
over_tests header shared rs =
    6 if too_long header ∷ 7 if unread_texts levels levels header shared rs ∷ 2 if true ∷ []

unfoldable pub within_tests : Bool → List (List ℕ) → List ℕ → List ℕ → Sizes → List RawRecipient → List Test
within_tests general known header shared z rs =
    6 if too_long header
    ∷ 7 if unread_texts shared_levels (own_levels general) header shared rs
    ∷ 10 if hollow_texts header shared rs
    ∷ parameters_tests known header shared z rs
