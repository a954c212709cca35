-- What differs between two messages (document 02, 4/12), over what each accepted message holds (crates/jwe/specs/Judge.antt `Held`): 'the
-- exact differences in this order: form; recipient count; decoded protected header octets; then iv, aad, ciphertext, tag and the key of
-- each recipient number in both, by octets; then for each such number, parameters by name'.
use Rattle.std.specs.Prelude.{List, [], ◌++◌, Bool, not, ℕ, zero, suc, min, eqb}
use Rattle.grammar.specs.Places.{Place}
use Rattle.grammar.specs.Spellings.{equal}
use Rattle.rows.specs.Rows.{Entry, Texts, read_texts}
use Rattle.headers.specs.Components.{octets_at}
use Rattle.jwe.specs.Judge.{Held, held}
use Rattle.parameters.specs.Lines.{missing, Line, line, line_if}
use Rattle.parameters.specs.Parameters.{parameter_lines}

-- A message that is compared, and what it holds.
pub record Compared : Type 0 where
  pub message : List ℕ
  pub holds : Held

abbrev pub compared : List ℕ → Compared
compared message = record { message = message; holds = held message }

abbrev pub texts_of : Compared → Texts
texts_of x = read_texts x.holds.header x.message

-- The parameters of recipient n.
abbrev pub parameters_of : Compared → ℕ → List Entry
parameters_of x n = x.holds.common ++ (x.holds.share n).own

-- Components are compared as they are spelled: of accepted messages, octets have one spelling, and none is spelled where a component is
-- absent or empty.
abbrev pub other_component : Compared → Place → Compared → Place → Bool
other_component l q r p = not (equal (octets_at l.message q) (octets_at r.message p))

-- A line of kind 0 to 6.
abbrev pub whole : ℕ → Line
whole k = line k 0 missing missing

-- Form, recipient count, decoded protected header, iv, aad, ciphertext, tag.
unfoldable pub message_lines : Compared → Compared → List Line
message_lines l r =
    let q = l.holds.components in
    let p = r.holds.components in
    line_if (not (eqb l.holds.form r.holds.form)) (whole 0)
    ++ (line_if (not (eqb l.holds.recipients r.holds.recipients)) (whole 1)
    ++ (line_if (not (equal l.holds.header r.holds.header)) (whole 2)
    ++ (line_if (other_component l q.iv r p.iv) (whole 3)
    ++ (line_if (other_component l q.aad r p.aad) (whole 4)
    ++ (line_if (other_component l q.ciphertext r p.ciphertext) (whole 5)
    ++ line_if (other_component l q.tag r p.tag) (whole 6))))))

-- The key of recipient n.
unfoldable pub key_lines : Compared → Compared → ℕ → List Line
key_lines l r n = line_if (other_component l (l.holds.share n).key r (r.holds.share n).key) (line 7 n missing missing)

-- The parameters of recipient n.
unfoldable pub recipient_lines : Compared → Compared → ℕ → List Line
recipient_lines l r n = parameter_lines (texts_of l) (texts_of r) (parameters_of l n) (parameters_of r n) n

-- Of each number below m, in order.
unfoldable pub up_to : (ℕ → List Line) → ℕ → List Line
up_to f zero = []
up_to f (suc m) = up_to f m ++ f m

-- All lines, in order.
unfoldable pub differences : Compared → Compared → List Line
differences l r =
    let both = min l.holds.recipients r.holds.recipients in
    message_lines l r ++ (up_to (key_lines l r) both ++ up_to (recipient_lines l r) both)
