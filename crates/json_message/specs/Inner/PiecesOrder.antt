-- The reader's refusals from 7 on of a written message, by its pieces: what the writer can ask before it writes anything. The
-- texts have been judged alone before.
use mathlib.Core.List.{List, [], ◌∷◌, ◌++◌, map, flat_map}
use Rattle.std.proofs.Math.Option.{Option}
use Rattle.std.specs.Prelude.{Bool, false, ◌||◌, ℕ, length}
use Rattle.prelude.specs.Any.{any}
use Rattle.prelude.specs.Refusals.{Test, ◌if◌}
use Rattle.rows.specs.Rows.{Entry, texts}
use Rattle.jose.specs.declared.Sizes.{Sizes}
use Rattle.jose.specs.HeaderRules.{recipient_order}
use Rattle.jose.specs.ContentAlgorithm.{content_algorithm, differing}
use Rattle.headers.specs.Headers.{text_order, outermost, protected_entries, object_order}
use Rattle.jwe.specs.General.{is_hollow}
use Rattle.recipients.specs.Table.{RawRecipient}
use Rattle.json_message.specs.JsonText.{RawMessage}
use Rattle.json_message.specs.WriteOrder.{unread_within}
use Rattle.json_message.specs.Handed.{text_entries}
use Rattle.json_message.specs.Inner.Judged.{shared_levels, own_levels}

-- 7 on the shared and the own headers, within the levels that are left to them.
unfoldable pub unread_inside : Bool → RawMessage → Bool
unread_inside general c =
    unread_within shared_levels c.shared || any (λ r. unread_within (own_levels general) r.header) c.recipients

-- A header's text without a member; an absent one is none.
abbrev pub hollow_text : List ℕ → Bool
hollow_text [] = false
hollow_text (c ∷ w) = is_hollow (outermost (c ∷ w))

-- 10 on the shared and the own headers.
unfoldable pub hollow_inside : RawMessage → Bool
hollow_inside c = hollow_text c.shared || any (λ r. hollow_text r.header) c.recipients

-- 6, 7 and 10 on the protected header, if there is one.
unfoldable pub protected_tests : List ℕ → List Test
protected_tests [] = []
protected_tests (c ∷ w) = text_order (c ∷ w) ++ (10 if is_hollow (outermost (c ∷ w)) ∷ [])

-- The parameters of a recipient, each counted in its own text.
unfoldable pub pieces_entries : List ℕ → List ℕ → List ℕ → List Entry
pieces_entries header shared own = protected_entries header ++ (text_entries 1 shared ++ text_entries 2 own)

-- How many octets a recipient's components have.
abbrev pub raw_sizes : RawMessage → RawRecipient → Sizes
raw_sizes c r = record {
  key = length r.key;
  iv = length c.iv;
  ciphertext = length c.ciphertext;
  tag = length c.tag;
}

-- 8 and 9 on each text, 12 to 18 for each recipient, and 21.

unfoldable pub objects_order : RawMessage → List Test
objects_order c =
    object_order c.protected (protected_entries c.protected)
    ++ (object_order c.shared (text_entries 1 c.shared)
    ++ flat_map (λ r. object_order r.header (text_entries 2 r.header)) c.recipients)

abbrev pub rules_of : List (List ℕ) → RawMessage → RawRecipient → List Test
rules_of known c r =
    recipient_order known (texts c.protected c.shared r.header)
    (pieces_entries c.protected c.shared r.header) (raw_sizes c r)

-- 21, by the content algorithm of each.

abbrev pub raw_content : RawMessage → RawRecipient → Option (List ℕ)
raw_content c r =
    content_algorithm (texts c.protected c.shared r.header) (pieces_entries c.protected c.shared r.header)

unfoldable pub content_test : RawMessage → Test
content_test c = 21 if differing 0 (map (raw_content c) c.recipients)

unfoldable pub parameters_order : List (List ℕ) → RawMessage → List Test
parameters_order known c = objects_order c ++ (flat_map (rules_of known c) c.recipients ++ (content_test c ∷ []))

-- All of them.
unfoldable pub pieces_order : Bool → List (List ℕ) → RawMessage → List Test
pieces_order general known c =
    7 if unread_inside general c
    ∷ 10 if hollow_inside c
    ∷ (protected_tests c.protected ++ parameters_order known c)
