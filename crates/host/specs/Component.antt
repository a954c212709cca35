-- One component of a message, decoded: its octets, and the refusal.
use Rattle.std.specs.Prelude.{List, [], ◌∷◌, cond, ℕ, zero, suc, length, eqb, ltb}
use Rattle.base64url.specs.Base64url.{decoded}
use Rattle.grammar.specs.Places.{Place}
use Rattle.headers.specs.Components.{octets_at, absent, Components, places}
use Rattle.jwe.specs.Judge.{Call, refusal, outcome}

-- The n-th of some places, counted from 0; where there is none, that of an absent component.
unfoldable pub place_at : List Place → ℕ → Place
place_at [] n = absent
place_at (q ∷ qs) zero = q
place_at (q ∷ qs) (suc n) = place_at qs n

-- Components 0 to 5 are protected, key, iv, aad, ciphertext and tag; others are absent.
unfoldable pub component_place : Components → ℕ → Place
component_place q n = place_at (places q) n

-- A component's octets: what its text in the message decodes to.
unfoldable pub component_octets : List ℕ → ℕ → ℕ → List ℕ
component_octets message recipient n =
    decoded (octets_at message (component_place (outcome message recipient).components n))

-- The reader's refusal; then 1 where the output is shorter than the octets. (5 is the reader's.)
unfoldable pub component_refusal : Call → ℕ → ℕ → ℕ
component_refusal c n room =
    let refused = refusal c in
    cond (eqb refused 0) (cond (ltb room (length (component_octets c.message c.recipient n))) 1 0) refused
