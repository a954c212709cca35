-- What applies to a recipient of an accepted message is one header and one list of rows: the message has one reading,
-- no name twice, and no second form. So what is handed out is what applies, whatever was lent.
use mathlib.Core.Path.{◌≡◌, ap, sym, subst, ◌∙◌}
use mathlib.Core.Bool.{Bool, true, false, true≢false}
use mathlib.Core.Logic.{◌⊎◌, inl, inr}
use mathlib.Core.List.{List, [], ◌∷◌, ◌++◌}
use Prim.Native.Nat.{ℕ}
use lib.ListN.{length, get_or}
use Rattle.prelude.specs.Ascii.{ascii}
use Rattle.prelude.specs.Buffer.{written}
use Rattle.base64url.specs.Base64url.{encoded}
use Rattle.names.specs.Names.{names}
use Rattle.grammar.specs.Places.{Placed, Parts, placed_text, parts_of, Member}
use Rattle.grammar.specs.Reader.{opens_object}
use Rattle.grammar.specs.Readings.{Reading, octets_at}
use Rattle.grammar.specs.Shown.{Shown, EverywhereIn}
use Rattle.grammar.proofs.Theorems.{one_reading, read_shows}
use Rattle.rows.specs.Rows.{Entry, repeated, one_text}
use Rattle.prelude.specs.Refusals.{first}
use Rattle.headers.specs.Headers.{outermost}
use Rattle.shape.specs.Shape.{member_entries}
use Rattle.shape.specs.Recipients.{top_entries}
use Rattle.jwe.specs.General.{json_order}
use Rattle.jwe.specs.Judge.{Call, refusal, result_of, header_after, list_after}
use Rattle.meets.specs.Handed.{Rows, entries, count, MemberAt, NoMember, PartAt, RecipientAt, ProtectedRows}
use Rattle.meets.specs.Handed.{within, RowsOf, Applies, compact, json}
use Rattle.meets.specs.Meets.{Octets}
use Rattle.meets.proofs.FormsApart.{forms_apart}
use Rattle.meets.proofs.HandedOut.{outermost_rows}
use Rattle.meets.proofs.PlacedNames.{NamesStand, Sits, reading_names, reading_sits}
use Rattle.meets.proofs.MemberPlaced.{member_everywhere, part_everywhere, everywhere_here, everywhere_in}
use Rattle.meets.proofs.MemberPlaced.{entries_at, Missing, Found, member_at_lem}
use Rattle.meets.proofs.JsonPassed.{Passed, json_passed}
use Rattle.meets.proofs.JsonHeaders.{name_recipients}
use Rattle.meets.proofs.JsonApplies.{element_distinct}
use Rattle.meets.proofs.HandedExactly.{handed_exactly}
use Rattle.meets.proofs.HandedFits.{form_tests, form_passed}
use Rattle.meets.proofs.HeaderOctets.{read_octets, encoded_once, first_once, encoded_opens_none}
use Rattle.meets.proofs.MemberOnce.{Once, no_member, member_once, rows_once, recipient_once}

-- The protected header

pub protected_octets : (header : List ℕ) (ms : List Member) → ProtectedRows header ms → Octets header
protected_octets header ms p = read_octets header p.reading.well_formed

-- One header has one list of rows.
read_once : (h k : List ℕ) (ms ns : List Member) → h ≡ k → ProtectedRows h ms → ProtectedRows k ns → ms ≡ ns
read_once h k ms ns e p q =
    p.rows ∙ sym (outermost_rows h p.reading) ∙ ap outermost e ∙ outermost_rows k q.reading ∙ sym q.rows

abbrev ProtectedAt : List ℕ → Parts → List ℕ → List Member → Type 0
ProtectedAt message ps header ms =
    (NoMember message (ascii "protected") ps × (header ≡ []) × (ms ≡ []))
    ⊎ ((v : Placed) × MemberAt message (ascii "protected") v ps
    × (octets_at message (within v) ≡ encoded header) × ProtectedRows header ms)

protected_once : (message : List ℕ) (ps : Parts) → Once message (ascii "protected") ps →
    (h k : List ℕ) (ms ns : List Member) → ProtectedAt message ps h ms → ProtectedAt message ps k ns →
    (h ≡ k) × (ms ≡ ns)
protected_once message ps one h k ms ns (inl a) (inl b) = (a.1 ∙ sym b.1, a.2 ∙ sym b.2)
protected_once message ps one h k ms ns (inl a) (inr b) =
    absurd (no_member message (ascii "protected") b.0 ps a.0 b.1)
protected_once message ps one h k ms ns (inr a) (inl b) =
    absurd (no_member message (ascii "protected") a.0 ps b.0 a.1)
protected_once message ps one h k ms ns (inr a) (inr b) =
    let same = one a.0 b.0 a.1 b.1 in
    let e : encoded h ≡ encoded k =
    sym a.2 ∙ ap (λ (v : Placed). octets_at message (within v)) same ∙ b.2 in
    let header = encoded_once h k (protected_octets h ms a.3) (protected_octets k ns b.3) e in
    (header, read_once h k ms ns header a.3 b.3)

rows_same : (x y : Rows) → x.protected ≡ y.protected → x.shared ≡ y.shared → x.own ≡ y.own → x ≡ y
rows_same x y p s o =
    ap (λ (ms : List Member). record { protected = ms; shared = x.shared; own = x.own }) p
    ∙ ap (λ (ms : List Member). record { protected = y.protected; shared = ms; own = x.own }) s
    ∙ ap (λ (ms : List Member). record { protected = y.protected; shared = y.shared; own = ms }) o

-- The recipient's object has names that stand, and none twice.
module _ (message : List ℕ) (n : ℕ) (ps : Parts) (names : NamesStand message ps)
    (shown : EverywhereIn (Shown 12 message) ps) (sits : EverywhereIn (Sits message 1) ps)
    (passed : Passed message n (entries_at message ps)) where
  abbrev Distinct : Parts → Type 0
  Distinct rs = NamesStand message rs × (repeated false (one_text message) (entries_at message rs) ≡ false)

  element_stands : (v x : Placed) → MemberAt message (ascii "recipients") v ps → PartAt n x (parts_of v) →
      Distinct (parts_of x)
  element_stands v x m at =
      let there = member_everywhere (Sits message 1) message (ascii "recipients") v ps m sits in
      let here = part_everywhere (Sits message 1) n x (parts_of v) at (everywhere_in (Sits message 1) v there) in
      ((everywhere_here (Sits message 1) x here).names, twice)
    where
      cases : Missing message 4 (ascii "recipients") ps ⊎ Found message 4 (ascii "recipients") ps →
          repeated false (one_text message) (entries_at message (parts_of x)) ≡ false
      cases (inl a) = absurd (no_member message (ascii "recipients") v ps a.none m)
      cases (inr f) =
          let same = member_once message (ascii "recipients") ps names passed.repeats v f.value m f.there in
          element_distinct message n ps names shown sits passed f x
          (subst (λ (u : Placed). PartAt n x (parts_of u)) same at)

      twice : repeated false (one_text message) (entries_at message (parts_of x)) ≡ false
      twice =
          cases (member_at_lem message 4 (ascii "recipients") name_recipients.0 name_recipients.1 ps names)

  pub own_stands : (rs : Parts) → RecipientAt message ps n rs → Distinct rs
  own_stands rs (inl a) = subst Distinct (sym a.1) (names, passed.repeats)
  own_stands rs (inr a) = subst Distinct (sym a.4) (element_stands a.0 a.1 a.2 a.3)

-- Accepted messages
module _ (c : Call) (accepted : refusal c ≡ 0) where
  abbrev message : List ℕ
  message = c.message

  abbrev recipient : ℕ
  recipient = c.recipient

  abbrev known : List (List ℕ)
  known = names c.known

  order_passed : opens_object message ≡ true → first (json_order message known recipient) ≡ 0
  order_passed opens = sym (ap (λ (b : Bool). first (form_tests c b)) opens) ∙ (form_passed c accepted).2

  pub reading_passed : (r : Reading 12 c.message) →
      Passed c.message c.recipient (entries_at c.message (parts_of (placed_text r.text)))
  unfolding top_entries member_entries
  reading_passed r =
      subst (λ (es : List Entry). Passed message recipient es) (ap (member_entries message) (outermost_rows message r))
      (json_passed known message recipient (order_passed ((forms_apart known message).1 r))).1

  -- The two forms exclude each other.
  no_both : (header rest : List ℕ) → Octets header → Reading 12 message →
      encoded header ++ (46 ∷ rest) ≡ message → ⊥
  no_both header rest o r e =
      true≢false
      (sym ((forms_apart known message).1 r) ∙ ap opens_object (sym e) ∙ encoded_opens_none header rest o)

  pub applies_once : (h k : List ℕ) (x y : Rows) → Applies c.message c.recipient h x →
      Applies c.message c.recipient k y → (h ≡ k) × (x ≡ y)
  applies_once h k x y (compact rest e p s o) (compact more f q t u) =
      let header =
      first_once h k rest more (protected_octets h _ p) (protected_octets k _ q) (e ∙ sym f) in
      (header, rows_same x y (read_once h k _ _ header p q) (s ∙ sym t) (o ∙ sym u))
  applies_once h k x y (compact rest e p s o) (json r q t rs a u) =
      absurd (no_both h rest (protected_octets h _ p) r e)
  applies_once h k x y (json r q t rs a u) (compact rest e p s o) =
      absurd (no_both k rest (protected_octets k _ p) r e)
  applies_once h k x y (json r p s rs a o) (json r' q t os b u) =
      let ps = parts_of (placed_text r.text) in
      let same : parts_of (placed_text r'.text) ≡ ps = ap parts_of (one_reading 12 message r' r).1 in
      let passed = reading_passed r in
      let stand = reading_names message r in
      let shown = everywhere_in (Shown 12 message) (placed_text r.text) (read_shows 12 message r) in
      let sits = reading_sits message r in
      let one : (w : List ℕ) → Once message w ps = λ w. member_once message w ps stand passed.repeats in
      let header =
      protected_once message ps (one (ascii "protected")) h k x.protected y.protected p
      (subst (λ (z : Parts). ProtectedAt message z k y.protected) same q) in
      let shared =
      rows_once message (ascii "unprotected") ps (one (ascii "unprotected")) x.shared y.shared s
      (subst (λ (z : Parts). RowsOf message (ascii "unprotected") z y.shared) same t) in
      let recipient_is : rs ≡ os =
      recipient_once message ps (one (ascii "recipients")) recipient rs os a
      (subst (λ (z : Parts). RecipientAt message z recipient os) same b) in
      let d = own_stands message recipient ps stand shown sits passed rs a in
      let own =
      rows_once message (ascii "header") rs (member_once message (ascii "header") rs d.0 d.1) x.own y.own o
      (subst (λ (z : Parts). RowsOf message (ascii "header") z y.own) (sym recipient_is) u) in
      (header.0, rows_same x y header.1 shared own)

-- Whatever applies is what is handed out.
pub applies_handed : (c : Call) (buffer list : List ℕ) → refusal c ≡ 0 →
    (header : List ℕ) (x : Rows) → Applies c.message c.recipient header x →
    (header_after c buffer ≡ written 0 header buffer)
    × (list_after c list ≡ written 0 (entries x) list)
    × (get_or (result_of c) 16 0 ≡ length header)
    × (get_or (result_of c) 17 0 ≡ count x)
applies_handed c buffer list accepted header x a =
    let h = handed_exactly c buffer list accepted in
    let e = applies_once c accepted h.header header h.rows x h.applies a in (
      h.header_is ∙ ap (λ (w : List ℕ). written 0 w buffer) e.0,
      h.list_is ∙ ap (λ (z : Rows). written 0 (entries z) list) e.1,
      h.header_length ∙ ap length e.0,
      h.parameter_count ∙ ap count e.1,
    )
