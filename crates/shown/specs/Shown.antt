-- Document 01, 'Further requests': a component and a value shown as parts of the caller's own texts.
use Rattle.std.specs.Prelude.{cond, List, [], ℕ, eqb, leb}
use Rattle.std.specs.Borrow.{Bor}
use Rattle.parts.specs.Parts.{fits, part, part_at}

-- A component: that part of the message; the empty part where the place does not fit.
abbrev pub component_shown : List ℕ → ℕ → ℕ → List ℕ
component_shown message start size = part message start size

-- Where it points: into the message itself.
abbrev pub component_at : Bor (List ℕ) → ℕ → ℕ → ℕ × ℕ
component_at message start size = part_at message start size

-- A value: a part of the decoded header for origin 0, of the message for 1 and 2, as the place says; the empty part for an
-- origin above 2, and where the place does not fit.
unfoldable pub value_shown : List ℕ → List ℕ → ℕ → ℕ → ℕ → List ℕ
value_shown message header origin start size =
    cond (eqb origin 0) (part header start size) (cond (leb origin 2) (part message start size) [])

-- Where it points: into the header for origin 0 where the place fits it, into the message for 1 and 2; the empty part is at
-- the message's start.
unfoldable pub value_at : Bor (List ℕ) → Bor (List ℕ) → ℕ → ℕ → ℕ → ℕ × ℕ
value_at message header origin start size =
    cond (eqb origin 0)
    (cond (fits header.now start size) (part_at header start size) message.ref_ptr)
    (cond (leb origin 2) (part_at message start size) message.ref_ptr)
