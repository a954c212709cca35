-- What an accepted message hands out fits what was lent for it: a header of at most 4,096 octets, and at most 32
-- parameters of each of three headers, six numbers each.
use mathlib.Core.Path.{◌≡◌, refl, ap, sym, subst, ◌∙◌}
use mathlib.Core.Bool.{Bool, true, false, not, ◌||◌, cond}
use mathlib.Core.List.{List, [], ◌∷◌, ◌++◌}
use Prim.Native.Nat.{ℕ, zero, suc, ◌*◌, ◌≤◌, ◌<◌}
use native.Mathlib.Omega.{arith}
use lib.ListN.{length, length-append}
use lib.Dec.{ltb}
use borrow.Author.Tests.{ltb-false}
use Rattle.names.specs.Names.{names, sound}
use Rattle.grammar.specs.Places.{Place}
use Rattle.grammar.specs.Bounds.{Every}
use Rattle.grammar.specs.Reader.{opens_object}
use Rattle.prelude.specs.Any.{any}
use Rattle.rows.specs.Rows.{Entry, numbered, present, value_of, read_texts}
use Rattle.rows.specs.Tables.{listed}
use Rattle.prelude.specs.Refusals.{Test, ◌if◌, first}
use Rattle.jose.specs.Registered.{registered}
use Rattle.prelude.specs.Limits.{longest, header_room, list_room}
use Rattle.headers.specs.Headers.{header_text, protected_entries}
use Rattle.shape.specs.Shape.{protected, component, inner, Recipient}
use Rattle.shape.specs.Recipients.{top_of, top_entries, recipients_in, components_in}
use Rattle.jwe.proofs.Outcomes.{by_form}
use Rattle.jwe.specs.Compact.{compact_order}
use Rattle.jwe.specs.General.{shared_entries, own_entries, parameters, json_order}
use Rattle.jwe.specs.Judge.{Call, order, refusal, asked, outcome, Outcome}
use Rattle.jwe.specs.Inner.Outcomes.{compact_outcome, outcome_of, json_outcome}
use Rattle.meets.specs.Meets.{members_read, Compact}
use Rattle.meets.proofs.OneForOne.{zip_length}
use Rattle.meets.proofs.Deciding.{or_false, first_none}
use Rattle.meets.proofs.InOrder.{first_append}
use Rattle.meets.proofs.SpelledDecided.{Spelled, spelled_header}
use Rattle.meets.proofs.Entries.{EntryStands}
use Rattle.meets.proofs.CompactHeader.{protected_stands}
use Rattle.meets.proofs.CompactDecided.{compact_decided}
use Rattle.meets.proofs.JsonPassed.{Passed, json_passed}
use Rattle.meets.proofs.JsonHeaders.{absent_header}

-- Six numbers for each entry.
listed_length : (es : List Entry) → length (listed es) ≡ 6 * length es
unfolding listed
listed_length [] = refl
listed_length (e ∷ es) = let h = listed_length es in omega arith

-- A header and entries within the sizes.
abbrev Small : List ℕ → List Entry → Type 0
Small header es = (length header ≤ 4096) × (length es ≤ 96)

-- Compact

compact_small : (known : List (List ℕ)) (message : List ℕ) → Compact known message →
    Small (compact_outcome message).header (compact_outcome message).entries
unfolding compact_outcome
compact_small known message c =
    let s : Spelled message = record {
      header = c.header;
      key = c.key;
      iv = c.iv;
      ciphertext = c.ciphertext;
      tag = c.tag;
      octets = c.octets;
      spelled = c.spelled;
    } in
    let few = c.object.few in
    let same : length (members_read c.protected) ≡ length (protected_entries c.header) =
    zip_length (EntryStands registered (read_texts c.header message) 0) (members_read c.protected)
    (protected_entries c.header) (protected_stands c.header message c.protected) in
    subst (λ (h : List ℕ). Small h (protected_entries h)) (sym (spelled_header message s))
    (c.protected.short, omega arith)

-- JSON

-- A number that no entry has is at no place.
value_absent : (n : ℕ) (es : List Entry) → present n es ≡ false → value_of n es ≡ record { start = 0; size = 0 }
unfolding present any value_of
value_absent n [] e = refl
value_absent n (x ∷ es) e =
    let t = (or_false (numbered n x) (any (numbered n) es)).0 e in
    ap (λ (b : Bool). cond b (record { start = x.member.value_start; size = x.member.value_size }) (value_of n es))
    t.0 ∙ value_absent n es t.1

pub asked_every : (P : Recipient → Type 0) (rs : List Recipient) → Every P rs → (n : ℕ) → n < length rs → P (asked rs n)
unfolding asked
asked_every P [] h n l = absurd (omega arith)
asked_every P (r ∷ rs) h zero l = h.0
asked_every P (r ∷ rs) h (suc n) l = asked_every P rs h.1 n (omega arith)

module _ (message : List ℕ) (recipient : ℕ) (es : List Entry) (passed : Passed message recipient es) where
  header_short : length (header_text message (component protected es)) ≤ 4096
  header_short = cases (present protected es) refl
    where
      cases : (b : Bool) → present protected es ≡ b → length (header_text message (component protected es)) ≤ 4096
      cases true p = ltb-false 4096 _ (passed.protected p).0
      cases false p =
          let e : header_text message (component protected es) ≡ [] =
          ap (λ (q : Place). header_text message (inner q)) (value_absent protected es p) ∙ absent_header message in
          let l = ap length e in
          omega arith

  parameters_few : length
      (parameters (header_text message (component protected es)) message (top_of es) (asked (recipients_in message es) recipient))
      ≤ 96
  unfolding parameters
  parameters_few =
      let r = asked (recipients_in message es) recipient in
      let ps = protected_entries (header_text message (component protected es)) in
      let ss = shared_entries message (top_of es) in
      let os = own_entries message r in
      let a = length-append ps (ss ++ os) in
      let b = length-append ss os in
      let few = passed.few in
      let p = few.0 in
      let s = few.1 in
      let o = asked_every (λ (x : Recipient). length (own_entries message x) ≤ 32) (recipients_in message es) few.2
      recipient passed.asked in
      omega arith

json_small : (known : List (List ℕ)) (message : List ℕ) (recipient : ℕ) →
    first (json_order message known recipient) ≡ 0 →
    Small (json_outcome message recipient).header (json_outcome message recipient).entries
unfolding json_outcome outcome_of components_in
json_small known message recipient e =
    let es = top_entries message in
    let passed = (json_passed known message recipient e).1 in
    (header_short message recipient es passed, parameters_few message recipient es passed)

-- Where nothing is refused, there is room, and no test on the message's form refuses.
module _ (c : Call) where
  abbrev message : List ℕ
  message = c.message

  abbrev recipient : ℕ
  recipient = c.recipient

  abbrev pub form_tests : Bool → List Test
  form_tests b =
      cond b (json_order c.message (names c.known) c.recipient) (compact_order c.message (names c.known) c.recipient)

  pub form_passed : refusal c ≡ 0 →
      (header_room ≤ c.header_lent) × (list_room ≤ c.list_lent) × (first (form_tests (opens_object c.message)) ≡ 0)
  unfolding refusal order any
  form_passed e =
      let lent : List Test =
      1 if (ltb c.header_lent header_room || ltb c.list_lent list_room)
      ∷ 2 if ltb longest (length message)
      ∷ 3 if not (sound c.known)
      ∷ [] in
      let t = (first_append lent (form_tests (opens_object message)) refl).0 e in
      let room =
      (or_false (ltb c.header_lent header_room) (ltb c.list_lent list_room)).0 ((first_none lent refl).0 t.0).0 in
      (ltb-false c.header_lent header_room room.0, ltb-false c.list_lent list_room room.1, t.1)

  outcome_small : first (form_tests (opens_object message)) ≡ 0 →
      Small (outcome message recipient).header (outcome message recipient).entries
  outcome_small e =
      by_form message recipient (λ (x : Outcome). Small x.header x.entries) (cases (opens_object message) e)
    where
      cases : (b : Bool) → first (form_tests b) ≡ 0 →
          Small (cond b (json_outcome message recipient) (compact_outcome message)).header
          (cond b (json_outcome message recipient) (compact_outcome message)).entries
      cases true f = json_small (names c.known) message recipient f
      cases false f =
          compact_small (names c.known) message ((compact_decided (names c.known) message recipient).0 f).0

  pub handed_fits : refusal c ≡ 0 →
      (length (outcome c.message c.recipient).header ≤ c.header_lent)
      × (length (listed (outcome c.message c.recipient).entries) ≤ c.list_lent)
  handed_fits e =
      let t = form_passed e in
      let small = outcome_small t.2 in
      let numbers = listed_length (outcome message recipient).entries in
      let header = small.0 in
      let count = small.1 in
      let room = t.0 in
      let space = t.1 in
      (omega arith, omega arith)
