-- What a message hands out where it is accepted is bounded by the message's length alone: a full stop stands at most
-- one past the text for each that was sought, a member's value stands within the text, and there are no more members
-- and elements than the reader has turns, which are the text's octets.
use mathlib.Core.Path.{◌≡◌, refl, ap}
use mathlib.Core.List.{List, [], ◌∷◌, ◌++◌, map}
use Rattle.std.specs.Prelude.{Option, None, Some}
use Prim.Native.Nat.{ℕ, zero, suc, ◌+◌, ◌≤◌, ◌<◌, zero-le}
use native.Mathlib.Omega.{arith}
use lib.ListN.{length, drop, length-append, length-map, length-take, length-drop}
use lib.Dec.{leb, eqb}
use borrow.Author.Tests.{eqb-false}
use Rattle.prelude.specs.Buffer.{AllBelow}
use Rattle.base64url.proofs.Laws.{decoded_length_lem}
use Rattle.parts.specs.Parts.{part, seek}
use Rattle.parts.proofs.Laws.{seek_bounds}
use Rattle.grammar.specs.Grammar.{curly, square}
use Rattle.grammar.specs.Places.{Place, Member, Element}
use Rattle.grammar.specs.Bounds.{Every, Inside}
use Rattle.grammar.specs.Reader.{step, skip_space, members_at, elements_at, opens_object}
use Rattle.grammar.proofs.Endings.{either}
use Rattle.json_read.proofs.Within.{members_within}
use Rattle.json_read.proofs.MemberRows.{rows_at_most, members_first, elements_first}
use Rattle.names.specs.Names.{number_in}
use Rattle.rows.specs.Rows.{Entry, Texts, read_texts, entry_of, entries_in, value_in, numbered, present, value_of}
use Rattle.jose.specs.Registered.{registered, alg}
use Rattle.algorithms.specs.Algorithms.{algs, alg_names, mode, nth, mode_of}
use Rattle.jose.specs.HeaderRules.{mode_in}
use Rattle.prelude.specs.Limits.{levels}
use Rattle.algorithms.specs.declared.Alg.{Alg}
use Rattle.algorithms.specs.declared.Alg.TheVariants.{Rsa15, RsaOaep, RsaOaep256, A128Kw, A192Kw, A256Kw}
use Rattle.algorithms.specs.declared.Alg.TheVariants.{A128GcmKw, A192GcmKw, A256GcmKw, Pbes2A128Kw}
use Rattle.algorithms.specs.declared.Alg.TheVariants.{Pbes2A192Kw, Pbes2A256Kw, EcdhEs, EcdhEsA128Kw}
use Rattle.algorithms.specs.declared.Alg.TheVariants.{EcdhEsA192Kw, EcdhEsA256Kw, Dir}
use Rattle.headers.specs.Components.{octets_at, absent, places}
use Rattle.headers.specs.Headers.{header_text, outermost, protected_entries, members_of, header_entries}
use Rattle.shape.specs.Shape.{member_names, member_entries, protected, encrypted_key, recipients, iv, aad, ciphertext, tag}
use Rattle.shape.specs.Shape.{inner, component, Recipient, recipient_of}
use Rattle.shape.specs.Recipients.{Top, top_of, top_entries, elements_in, element_entries, recipients_in, components_in}
use Rattle.prelude.specs.Ascii.{full_stop}
use Rattle.jwe.specs.Compact.{after, stops, between, compact_components}
use Rattle.jwe.specs.General.{shared_entries, own_entries, parameters}
use Rattle.jwe.specs.Judge.{Outcome, asked, outcome, place, accepted}
use Rattle.jwe.specs.Inner.Outcomes.{compact_outcome, outcome_of, json_outcome}
use Rattle.jwe.proofs.Outcomes.{by_form}

-- Modes

algorithm_mode : (a : Alg) → mode a ≤ 5
algorithm_mode Rsa15 = omega arith
algorithm_mode RsaOaep = omega arith
algorithm_mode RsaOaep256 = omega arith
algorithm_mode A128Kw = omega arith
algorithm_mode A192Kw = omega arith
algorithm_mode A256Kw = omega arith
algorithm_mode A128GcmKw = omega arith
algorithm_mode A192GcmKw = omega arith
algorithm_mode A256GcmKw = omega arith
algorithm_mode Pbes2A128Kw = omega arith
algorithm_mode Pbes2A192Kw = omega arith
algorithm_mode Pbes2A256Kw = omega arith
algorithm_mode EcdhEs = omega arith
algorithm_mode EcdhEsA128Kw = omega arith
algorithm_mode EcdhEsA192Kw = omega arith
algorithm_mode EcdhEsA256Kw = omega arith
algorithm_mode Dir = omega arith

listed_mode : (x : Option Alg) → mode_of x ≤ 5
listed_mode None = zero-le
listed_mode (Some a) = algorithm_mode a

pub mode_low : (ts : Texts) (es : List Entry) → mode_in ts es ≤ 5
unfolding mode_in
mode_low ts [] = zero-le
mode_low ts (e ∷ es) =
    let rest = mode_low ts es in
    either (λ m. m ≤ 5) (numbered alg e)
    (λ _. listed_mode (nth algs (number_in alg_names (value_in ts e))))
    (λ _. rest)

-- Sizes of headers

part_short : (s : List ℕ) (start size : ℕ) → length (part s start size) ≤ length s
unfolding part
part_short s start size =
    either (λ (t : List ℕ). length t ≤ length s) (leb (start + size) (length s))
    (λ _. omega (arith, length-take size (drop start s), length-drop start s))
    (λ _. zero-le)

pub header_short : (message : List ℕ) (q : Place) → length (header_text message q) ≤ length message
unfolding header_text
header_short message q =
    omega (arith, decoded_length_lem (octets_at message q), part_short message q.start q.size)

-- Counts of members and of elements

members_few : (l : ℕ) (s : List ℕ) (at : ℕ) → length (members_at l s at) ≤ length s
members_few l s at =
    let q = skip_space s (step s at) in
    omega (arith, ap length (members_first s l at (step s at) q refl refl), rows_at_most curly s l (length s) q)

elements_few : (l : ℕ) (s : List ℕ) (at : ℕ) → length (elements_at l s at) ≤ length s
elements_few l s at =
    let q = skip_space s (step s at) in
    omega (arith, elements_first s l at (step s at) q refl refl, rows_at_most square s l (length s) q)

entries_few : (names : List (List ℕ)) (s : List ℕ) (o n : ℕ) (ms : List Member) → length ms ≤ n →
    length (entries_in names s o ms) ≤ n
unfolding entries_in
entries_few names s o n ms h = omega (arith, length-map ms (entry_of names s o))

protected_few : (header : List ℕ) → length (protected_entries header) ≤ length header
unfolding protected_entries outermost
protected_few header =
    entries_few registered header 0 (length header) (members_at levels header (skip_space header 0))
    (members_few levels header (skip_space header 0))

header_few : (message : List ℕ) (o start : ℕ) → length (header_entries message o start) ≤ length message
unfolding header_entries members_of
header_few message o start =
    entries_few registered message o (length message) (members_of message start)
    (either (λ (ms : List Member). length ms ≤ length message) (eqb start 0)
    (λ _. zero-le)
    (λ _. members_few levels message start))

pub parameters_few : (header message : List ℕ) (t : Top) (r : Recipient) →
    length (parameters header message t r) ≤ length header + (length message + length message)
unfolding parameters shared_entries own_entries
parameters_few header message t r =
    let shared = header_entries message 1 t.shared in
    let own = header_entries message 2 r.header in
    omega (
      arith,
      length-append (protected_entries header) (shared ++ own),
      length-append shared own,
      protected_few header,
      header_few message 1 t.shared,
      header_few message 2 r.header,
    )

-- Places

-- Both numbers of it are at most n.
abbrev pub Low : ℕ → Place → Type 0
Low n q = (q.start ≤ n) × (q.size ≤ n)

-- The compact form: each full stop is sought from one past the one before, so that it is at most one further past the
-- text, whether it is there or not.
module _ (message : List ℕ) where
  after_low : (at k : ℕ) → at ≤ length message + k → after message at ≤ length message + (k + 1)
  after_low at k h = omega (arith, (seek_bounds full_stop message (at + 1)).1)

  between_low : (n a b : ℕ) → a < n → b ≤ n → Low n (between a b)
  between_low n a b h i = (omega arith, omega arith)

  pub compact_places : Every (Low (length message + 4)) (places (compact_components message))
  unfolding compact_components stops
  compact_places = found (seek full_stop message 0) (omega (arith, (seek_bounds full_stop message 0).1))
    where
      found : (a : ℕ) → a ≤ length message + 0 →
          let b = after message a in
          let c = after message b in
          let d = after message c in
          let n = length message + 4 in
          Low n (record { start = 0; size = a })
          × (Low n (between a b)
          × (Low n (between b c)
          × (Low n absent
          × (Low n (between c d)
          × (Low n (between d (length message)) × Unit {0})))))
      found a h =
          let n = length message + 4 in
          let b = after message a in
          let c = after message b in
          let d = after message c in
          let i = after_low a 0 h in
          let j = after_low b 1 i in
          let k = after_low c 2 j in (
            (zero-le, omega (arith, h)),
            (
              between_low n a b (omega (arith, h)) (omega (arith, i)),
              (
                between_low n b c (omega (arith, i)) (omega (arith, j)),
                (
                  (zero-le, zero-le),
                  (
                    between_low n c d (omega (arith, j)) (omega (arith, k)),
                    (between_low n d (length message) (omega (arith, k)) (omega arith), tt),
                  ),
                ),
              ),
            ),
          )

-- The JSON form: places of values, which end within the text.

abbrev Fits : ℕ → Place → Type 0
Fits n q = q.start + q.size ≤ n

abbrev EntryFits : ℕ → Entry → Type 0
EntryFits n e = e.member.value_start + e.member.value_size ≤ n

entries_fit : (names : List (List ℕ)) (s : List ℕ) (o n : ℕ) (ms : List Member) → Every (Inside curly n) ms →
    Every (EntryFits n) (entries_in names s o ms)
unfolding entries_in
entries_fit names s o n [] h = tt
entries_fit names s o n (m ∷ ms) h = (h.0.value, entries_fit names s o n ms h.1)

value_fits_lem : (k n : ℕ) (es : List Entry) → Every (EntryFits n) es → Fits n (value_of k es)
unfolding value_of
value_fits_lem k n [] h = omega arith
value_fits_lem k n (e ∷ es) h =
    let rest = value_fits_lem k n es h.1 in
    either (Fits n) (numbered k e) (λ _. h.0) (λ _. rest)

-- Without its quotation marks.
inner_fits : (n : ℕ) (q : Place) → Fits n q → Fits n (inner q)
inner_fits n q h =
    either (Fits n) (eqb q.size 0) (λ _. omega arith)
    (λ e. let p = positive q.size (eqb-false q.size 0 e) in omega (arith, h, p))
  where
    positive : (k : ℕ) → (k ≡ 0 → ⊥) → 1 ≤ k
    positive zero f = absurd (f refl)
    positive (suc k) f = omega arith

component_fits : (k n : ℕ) (es : List Entry) → Every (EntryFits n) es → Fits n (component k es)
component_fits k n es h = inner_fits n (value_of k es) (value_fits_lem k n es h)

fits_low : (n : ℕ) (q : Place) → Fits n q → Low (n + 4) q
fits_low n q h = (omega arith, omega arith)

module _ (message : List ℕ) where
  object_fits : (at : ℕ) → Every (EntryFits (length message)) (member_entries message (members_at levels message at))
  unfolding member_entries
  object_fits at =
      entries_fit member_names message 1 (length message) (members_at levels message at)
      (members_within levels message at)

  top_fits : Every (EntryFits (length message)) (top_entries message)
  unfolding top_entries outermost
  top_fits = object_fits (skip_space message 0)

  element_fits : (start : ℕ) → Every (EntryFits (length message)) (element_entries message start)
  unfolding element_entries
  element_fits start = object_fits start

  abbrev KeyFits : Recipient → Type 0
  KeyFits r = Fits (length message) r.key

  elements_fit : (xs : List Element) →
      Every KeyFits (map (λ (x : Element). recipient_of (element_entries message x.start)) xs)
  elements_fit [] = tt
  elements_fit (x ∷ xs) =
      let es = element_entries message x.start in
      (component_fits encrypted_key (length message) es (element_fits x.start), elements_fit xs)

  recipients_fit : (es : List Entry) → Every (EntryFits (length message)) es → Every KeyFits (recipients_in message es)
  unfolding recipients_in
  recipients_fit es h =
      either (Every KeyFits) (present recipients es) (λ _. elements_fit (elements_in message es))
      (λ _. (component_fits encrypted_key (length message) es h, tt))

  pub recipients_few : (es : List Entry) → length (recipients_in message es) ≤ length message + 1
  unfolding recipients_in elements_in
  recipients_few es =
      let start = (value_of recipients es).start in
      let xs = elements_at levels message start in
      either (λ (rs : List Recipient). length rs ≤ length message + 1) (present recipients es)
      (λ _.
      omega (
        arith,
        length-map xs (λ (x : Element). recipient_of (element_entries message x.start)),
        elements_few levels message start,
      ))
      (λ _. omega arith)

  asked_fits : (rs : List Recipient) (k : ℕ) → Every KeyFits rs → KeyFits (asked rs k)
  unfolding asked
  asked_fits [] k h = component_fits encrypted_key (length message) [] tt
  asked_fits (r ∷ rs) zero h = h.0
  asked_fits (r ∷ rs) (suc k) h = asked_fits rs k h.1

  pub json_places : (k : ℕ) →
      Every (Low (length message + 4))
      (places (components_in (top_of (top_entries message)) (asked (recipients_in message (top_entries message)) k)))
  unfolding components_in
  json_places k =
      let rs = recipients_in message (top_entries message) in
      let key = asked_fits rs k (recipients_fit (top_entries message) top_fits) in (
        top protected,
        (fits_low (length message) (asked rs k).key key, (top iv, (top aad, (top ciphertext, (top tag, tt))))),
      )
    where
      top : (j : ℕ) → Low (length message + 4) (component j (top_entries message))
      top j =
          fits_low (length message) (component j (top_entries message))
          (component_fits j (length message) (top_entries message) top_fits)

-- Outcomes

-- Of a message of n octets.
pub record Bounded (n : ℕ) (x : Outcome) : Type 0 where
  pub form : x.form ≤ 2
  pub recipients : x.recipients ≤ n + 1
  pub components : Every (Low (n + 4)) (places x.components)
  pub header : length x.header ≤ n
  pub entries : length x.entries ≤ n + (n + n)

module _ (message : List ℕ) where
  pub compact_bounded : Bounded (length message) (compact_outcome message)
  unfolding compact_outcome
  compact_bounded =
      let header = header_text message (compact_components message).protected in
      let short = header_short message (compact_components message).protected in
      record {
        form = zero-le;
        recipients = omega arith;
        components = compact_places message;
        header = short;
        entries = omega (arith, protected_few header, short);
      }

  pub json_bounded : (recipient : ℕ) → Bounded (length message) (json_outcome message recipient)
  unfolding json_outcome outcome_of
  json_bounded recipient =
      let es = top_entries message in
      let r = asked (recipients_in message es) recipient in
      let q = component protected es in
      let short = header_short message q in
      record {
        form = either (λ k. k ≤ 2) (present recipients es) (λ _. omega arith) (λ _. omega arith);
        recipients = recipients_few message es;
        components = json_places message recipient;
        header = short;
        entries = omega (arith, parameters_few (header_text message q) message (top_of es) r, short);
      }

  pub outcome_bounded : (recipient : ℕ) → Bounded (length message) (outcome message recipient)
  outcome_bounded recipient =
      by_form message recipient (Bounded (length message))
      (either (Bounded (length message)) (opens_object message) (λ _. json_bounded recipient) (λ _. compact_bounded))

-- All numbers of an outcome are below a limit past three times the message.
pub accepted_below : (limit n : ℕ) (message : List ℕ) (x : Outcome) → n + (n + n) + 5 < limit → Bounded n x →
    AllBelow limit (accepted message x)
unfolding accepted
accepted_below limit n message x room b =
    let form : x.form < limit = omega (arith, room, b.form) in
    let count : x.recipients < limit = omega (arith, room, b.recipients) in
    let m = mode_low (read_texts x.header message) x.entries in
    let mode : mode_in (read_texts x.header message) x.entries < limit = omega (arith, room, m) in
    (omega (arith, room), (form, (count, (mode, others))))
  where
    near : (q : Place) → Low (n + 4) q → (q.start < limit) × (q.size < limit)
    near q h = (omega (arith, room, h.0), omega (arith, room, h.1))

    others : AllBelow limit
        (place x.components.protected
        (place x.components.key
        (place x.components.iv
        (place x.components.aad
        (place x.components.ciphertext
        (place x.components.tag (length x.header ∷ length x.entries ∷ [])))))))
    others =
        let c = b.components in
        let p = near x.components.protected c.0 in
        let k = near x.components.key c.1.0 in
        let i = near x.components.iv c.1.1.0 in
        let a = near x.components.aad c.1.1.1.0 in
        let d = near x.components.ciphertext c.1.1.1.1.0 in
        let t = near x.components.tag c.1.1.1.1.1.0 in
        let h : length x.header < limit = omega (arith, room, b.header) in
        let e : length x.entries < limit = omega (arith, room, b.entries) in
        let end : AllBelow limit (length x.header ∷ length x.entries ∷ []) = (h, (e, tt)) in
        (p.0, (p.1, (k.0, (k.1, (i.0, (i.1, (a.0, (a.1, (d.0, (d.1, (t.0, (t.1, end))))))))))))
