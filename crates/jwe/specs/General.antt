-- The JSON serialization (RFC 7516, section 7.2), general and flattened: the parameters of its recipients, and its refusals
-- in order.
use mathlib.Core.List.{List, [], ◌∷◌, ◌++◌, map, flat_map}
use Rattle.std.specs.Prelude.{Bool, true, false, cond, ℕ, length, leb}
use Rattle.std.proofs.Math.Option.{Option}
use Rattle.grammar.specs.Places.{Place, Member}
use Rattle.prelude.specs.Any.{any}
use Rattle.rows.specs.Rows.{Entry, read_texts}
use Rattle.prelude.specs.Refusals.{Test, ◌if◌}
use Rattle.jose.specs.HeaderRules.{recipient_order}
use Rattle.jose.specs.ContentAlgorithm.{content_algorithm, differing}
use Rattle.headers.specs.Components.{Components, misspelled, sizes_of}
use Rattle.headers.specs.Headers.{header_text, text_order, outermost, protected_entries, header_entries, object_order}
use Rattle.shape.specs.Shape.{Recipient}
use Rattle.shape.specs.Recipients.{Top, top_of, top_entries, top_order, elements_order, recipients_in, components_in}

-- The parameters of the shared header.
unfoldable pub shared_entries : List ℕ → Top → List Entry
shared_entries message t = header_entries message 1 t.shared

-- Those of a recipient's own header.
unfoldable pub own_entries : List ℕ → Recipient → List Entry
own_entries message r = header_entries message 2 r.header

-- The parameters of a recipient: protected, shared, own.
unfoldable pub parameters : List ℕ → List ℕ → Top → Recipient → List Entry
parameters header message t r = protected_entries header ++ (shared_entries message t ++ own_entries message r)

-- All components: those of the top level, and the recipients' keys.
unfoldable pub all_places : Components → List Recipient → List Place
all_places q rs = q.protected ∷ q.iv ∷ q.aad ∷ q.ciphertext ∷ q.tag ∷ map (λ r. r.key) rs

-- 5 on all components.
unfoldable pub any_misspelled : List ℕ → List Entry → Bool
any_misspelled message es = any (misspelled message) (all_places (top_of es).components (recipients_in message es))

-- The decoded protected header has no member.
abbrev pub is_hollow : List Member → Bool
is_hollow [] = true
is_hollow (m ∷ ms) = false

-- 6, 7 and 10 on the protected header, if there is one.
unfoldable pub protected_order : Top → List ℕ → List Test
protected_order t header = cond t.protected (text_order header ++ (10 if is_hollow (outermost header) ∷ [])) []

-- 8 and 9 on each header: protected, shared, each own.
unfoldable pub headers_order : List ℕ → List ℕ → Top → List Recipient → List Test
headers_order header message t rs =
    object_order header (protected_entries header)
    ++ (object_order message (shared_entries message t)
    ++ flat_map (λ r. object_order message (own_entries message r)) rs)

-- 12 to 18 for each recipient in turn.
unfoldable pub recipients_order : List (List ℕ) → List ℕ → List ℕ → Top → List Recipient → List Test
recipients_order known header message t rs =
    flat_map
    (λ r. recipient_order known (read_texts header message) (parameters header message t r) (sizes_of (components_in t r)))
    rs

-- The content algorithm of a recipient.
abbrev pub content_of : List ℕ → List ℕ → Top → Recipient → Option (List ℕ)
content_of header message t r = content_algorithm (read_texts header message) (parameters header message t r)

-- 21: that of some recipient differs from the first one's.
unfoldable pub content_order : List ℕ → List ℕ → Top → List Recipient → List Test
content_order header message t rs = 21 if differing 0 (map (content_of header message t) rs) ∷ []

-- The refusals of a JSON message until its spelling is judged: from 7 on, and 5.
unfoldable pub json_spelled : List ℕ → List Test
json_spelled message =
    let es = top_entries message in
    top_order message ++ (elements_order message es ++ (5 if any_misspelled message es ∷ []))

-- Those after it, by what its top level holds and by its recipients.
unfoldable pub json_later : List (List ℕ) → List ℕ → Top → List Recipient → ℕ → List Test
json_later known message t rs recipient =
    let header = header_text message t.components.protected in
    protected_order t header
    ++ (headers_order header message t rs
    ++ (recipients_order known header message t rs
    ++ (content_order header message t rs ++ (19 if leb (length rs) recipient ∷ []))))

-- The refusals of a JSON message, from 7 on.
unfoldable pub json_order : List ℕ → List (List ℕ) → ℕ → List Test
json_order message known recipient =
    let es = top_entries message in
    json_spelled message ++ json_later known message (top_of es) (recipients_in message es) recipient
