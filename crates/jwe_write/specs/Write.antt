-- The compact writer (RFC 7516, section 7.1; document 01, 'Further requests'): what it writes, and its refusals in order.
use Rattle.std.specs.Prelude.{List, [], ◌∷◌, ◌++◌, not, ℕ, length, ltb}
use Rattle.names.specs.Names.{names, sound}
use Rattle.rows.specs.Rows.{Entry, one_text}
use Rattle.prelude.specs.Refusals.{Test, ◌if◌, first}
use Rattle.jose.specs.declared.Sizes.{Sizes}
use Rattle.jose.specs.HeaderRules.{rules_order, protected_rules}
use Rattle.prelude.specs.Limits.{longest}
use Rattle.headers.specs.Components.{dotted}
use Rattle.headers.specs.Headers.{text_order, protected_entries, object_order}

-- What the writer is given: the header's text and the raw components.
pub record Raw : Type 0 where
  pub header : List ℕ
  pub key : List ℕ
  pub iv : List ℕ
  pub ciphertext : List ℕ
  pub tag : List ℕ

abbrev pub raw : List ℕ → List ℕ → List ℕ → List ℕ → List ℕ → Raw
raw header key iv ciphertext tag = record { header = header; key = key; iv = iv; ciphertext = ciphertext; tag = tag }

-- How many octets the components have.
abbrev pub raw_sizes : Raw → Sizes
raw_sizes c = record {
  key = length c.key;
  iv = length c.iv;
  ciphertext = length c.ciphertext;
  tag = length c.tag;
}

-- The message: each component encoded, with full stops between.
unfoldable pub compact_text : Raw → List ℕ
compact_text c = dotted c.header c.key c.iv c.ciphertext c.tag

-- The reader's rules on a recipient whose parameters are those of one protected header: 12 and 16 are not among them, since they
-- cannot be broken.
abbrev pub writer_rules : List (List ℕ) → List ℕ → List Entry → Sizes → List Test
writer_rules known header es z = rules_order known (one_text header) es z protected_rules

-- Those of the header's object and its parameters, 8, 9 and 13 to 18.
abbrev pub parameters_order : List (List ℕ) → List ℕ → Sizes → List Test
parameters_order known header z =
    let es = protected_entries header in
    object_order header es ++ writer_rules known header es z

-- All refusals in order, of what is given, a list of known names and the length of the lent output: 3; 6; 7, 8, 9; 13, 14,
-- 15, 17, 18; 2; 1.
unfoldable pub write_order : Raw → List ℕ → ℕ → List Test
write_order c known room =
    let es = protected_entries c.header in
    3 if not (sound known)
    ∷ (text_order c.header
    ++ (object_order c.header es
    ++ (writer_rules (names known) c.header es (raw_sizes c)
    ++ (2 if ltb longest (length (compact_text c))
    ∷ 1 if ltb room (length (compact_text c))
    ∷ []))))

unfoldable pub write_refusal : Raw → List ℕ → ℕ → ℕ
write_refusal c known room = first (write_order c known room)
