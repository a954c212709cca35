-- What the result of an accepted message means, number by number.
use mathlib.Core.Path.{◌≡◌, refl, ap, sym, subst, ◌∙◌}
use mathlib.Core.Bool.{Bool, true, false, cond}
use mathlib.Core.Logic.{inl, inr}
use mathlib.Core.List.{List, [], append-nil}
use Prim.Native.Nat.{ℕ, ◌<◌, zero-le}
use lib.ListN.{length}
use borrow.Author.Tests.{eq-eqb}
use Rattle.prelude.specs.Ascii.{ascii}
use Rattle.base64url.specs.Base64url.{sextets, encoded}
use Rattle.parts.proofs.Laws.{part_fits}
use Rattle.grammar.specs.Places.{placed_text, parts_of}
use Rattle.grammar.specs.Reader.{opens_object}
use Rattle.rows.specs.Rows.{Entry, present, value_of, read_texts}
use Rattle.jose.specs.HeaderRules.{mode_in}
use Rattle.headers.specs.Components.{octets_at}
use Rattle.headers.specs.Headers.{header_text, outermost, protected_entries}
use Rattle.shape.specs.Shape.{member_entries, component}
use Rattle.shape.specs.Recipients.{top_entries, recipients_in, components_in, top_of}
use Rattle.jwe.proofs.Outcomes.{outcome_is}
use Rattle.jwe.specs.Compact.{compact_components}
use Rattle.jwe.specs.General.{shared_entries, own_entries, parameters}
use Rattle.jwe.specs.Judge.{Call, call_for, refusal, asked, outcome, accepted, refused, result_of}
use Rattle.jwe.specs.Inner.Outcomes.{compact_outcome, outcome_of, json_outcome}
use Rattle.round_trips.specs.Trips.{written_places}
use Rattle.round_trips.proofs.Places.{dotted_written, places_are}
use Rattle.meets.specs.Members.{Member, members_of}
use Rattle.meets.specs.Rules.{EveryNamed}
use Rattle.meets.specs.Rules as rules
use Rattle.meets.specs.Meets.{Octets, Plain, Component, RecipientsIn, Compact, Json, Message, compact, json, count, Meets}
use Rattle.meets.proofs.OneForOne.{OneForOne}
use Rattle.meets.proofs.Standing.{MemberStands}
use Rattle.meets.proofs.Rows.{outermost_stand}
use Rattle.meets.proofs.MemberEntries.{IsMember, protected_number, recipients_number, iv_number, aad_number_lem}
use Rattle.meets.proofs.MemberEntries.{ciphertext_number, tag_number}
use Rattle.meets.proofs.Lookups.{Lookup, missing, single, none_named, only_there}
use Rattle.meets.proofs.EachRecipient.{plain_of, protected_entries_lem, shared_entries_lem, own_entries_lem}
use Rattle.meets.proofs.SpelledDecided.{Spelled, spelled_parts, spelled_header}
use Rattle.meets.proofs.FiveParts.{parts_placed}
use Rattle.meets.proofs.FormsApart.{forms_apart}
use Rattle.meets.proofs.MemberPlaced.{entries_at}
use Rattle.meets.proofs.HandedOut.{outermost_rows}
use Rattle.meets.proofs.HandedExactly.{each_recipient}
use Rattle.meets.proofs.JsonPassed.{Passed}
use Rattle.meets.proofs.JsonDecided.{look, spelling}
use Rattle.meets.proofs.AppliesOnce.{reading_passed}
use Rattle.meets.proofs.Accepted.{accepted_exactly}
use Rattle.means.specs.Means.{json_form, headers_of, contents_of, PlacesShow, JsonPlaces, raw_of, ResultMeans}
use Rattle.means.proofs.FormTold.{form_told}
use Rattle.means.proofs.ModeMeans.{ModeMeans, entries_many, mode_means}
use Rattle.means.proofs.JsonStands.{json_stands}
use Rattle.means.proofs.PlacesMean.{json_places}

-- Compact

module _ (known : List (List ℕ)) (message : List ℕ) (c : Compact known message) (n : ℕ) where
  abbrev spelled : Spelled message
  spelled = record {
    header = c.header;
    key = c.key;
    iv = c.iv;
    ciphertext = c.ciphertext;
    tag = c.tag;
    octets = c.octets;
    spelled = c.spelled;
  }

  abbrev header : List ℕ
  header = header_text message (compact_components message).protected

  pub compact_header : header_text message (compact_components message).protected ≡ c.header
  compact_header = spelled_header message spelled

  compact_places : compact_components message ≡ written_places (raw_of c)
  compact_places =
      let o = c.octets in
      ap compact_components (sym c.spelled ∙ dotted_written (raw_of c))
      ∙ places_are (raw_of c) (record { header = o.0; key = o.1; iv = o.2; ciphertext = o.3; tag = o.4 })

  compact_shows : PlacesShow message (compact_components message) (contents_of (compact c) n)
  unfolding compact_components encoded sextets
  compact_shows =
      let p = parts_placed message (spelled_parts message spelled) in
      record {
        protected = p.header;
        key = p.key;
        iv = p.iv;
        aad = part_fits message 0 0 zero-le;
        ciphertext = p.ciphertext;
        tag = p.tag;
      }

  pub compact_stand : OneForOne (MemberStands header) (headers_of (compact c) n).protected (outermost header)
  compact_stand =
      subst (λ (w : List ℕ). OneForOne (MemberStands w) (headers_of (compact c) n).protected (outermost w))
      (sym compact_header) (outermost_stand c.header c.protected.reading)

  compact_many : length (protected_entries header) ≡ length (rules.parameters (headers_of (compact c) n))
  compact_many =
      let h = headers_of (compact c) n in
      let es = protected_entries header in
      ap length (sym (append-nil es))
      ∙ entries_many (read_texts header message) h es [] [] (protected_entries_lem header message h.protected compact_stand) tt tt

  compact_mode : ModeMeans (rules.parameters (headers_of (compact c) n))
      (mode_in (read_texts header message) (protected_entries header))
  compact_mode =
      let h = headers_of (compact c) n in
      let es = protected_entries header in
      subst (λ (fs : List Entry). ModeMeans (rules.parameters h) (mode_in (read_texts header message) fs)) (append-nil es)
      (mode_means (read_texts header message) h es [] [] (protected_entries_lem header message h.protected compact_stand) tt tt known
      c.key (record { protected = c.object.distinct; shared = tt; own = tt }) c.rules)

  compact_means : ResultMeans (compact c) n (accepted message (compact_outcome message))
  unfolding accepted compact_outcome
  compact_means =
      let m = compact_mode in
      record {
        size = refl;
        number = refl;
        form = refl;
        told = form_told (compact c);
        recipients = refl;
        alg = m.alg;
        named = m.named;
        mode_is = m.is;
        no_other = m.no_other;
        places = compact_places;
        shows = compact_shows;
        header_length = ap length compact_header;
        parameter_count = compact_many;
      }

-- JSON

form_is : (message : List ℕ) (es : List Entry) (ms : List Member) (rs : List (List Member)) (i : RecipientsIn ms rs) →
    Lookup message (ascii "recipients") ms (value_of 5 es) (present 5 es) → cond (present 5 es) 2 1 ≡ json_form ms rs i
form_is message es ms rs (inl i) (missing t a e) = ap (λ (b : Bool). cond b 2 1) t
form_is message es ms rs (inr i) (missing t a e) = absurd (none_named (ascii "recipients") ms i.0 a i.1)
form_is message es ms rs (inl i) (single v t o) =
    absurd (only_there message (ascii "recipients") ms (value_of 5 es) v o i.0)
form_is message es ms rs (inr i) (single v t o) = ap (λ (b : Bool). cond b 2 1) t

module _ (known : List (List ℕ)) (message : List ℕ) (j : Json known message) (n : ℕ)
    (below : n < length j.recipients) where
  abbrev es : List Entry
  es = top_entries message

  json_mode : ModeMeans (rules.parameters (headers_of (json j) n))
      (mode_in (read_texts (json_outcome message n).header message) (json_outcome message n).entries)
  unfolding json_outcome outcome_of components_in parameters
  json_mode =
      let s = json_stands known message j n below in
      let h = headers_of (json j) n in
      let H = header_text message (component 1 es) in
      let r = asked (recipients_in message es) n in
      mode_means (read_texts H message) h (protected_entries H) (shared_entries message (top_of es)) (own_entries message r)
      (protected_entries_lem H message h.protected s.protected)
      (shared_entries_lem H message es h.shared s.shared) (own_entries_lem H message r h.own s.own) known s.key
      s.once s.rules

  json_many : length (json_outcome message n).entries ≡ length (rules.parameters (headers_of (json j) n))
  unfolding json_outcome outcome_of components_in parameters
  json_many =
      let s = json_stands known message j n below in
      let h = headers_of (json j) n in
      let H = header_text message (component 1 es) in
      let r = asked (recipients_in message es) n in
      entries_many (read_texts H message) h (protected_entries H) (shared_entries message (top_of es)) (own_entries message r)
      (protected_entries_lem H message h.protected s.protected)
      (shared_entries_lem H message es h.shared s.shared) (own_entries_lem H message r h.own s.own)

  component_shown_lem : (k : ℕ) (w : List ℕ) → IsMember k w →
      EveryNamed w Plain (members_of j.reading.text.value) → (xs : List ℕ) → Octets xs →
      Component w (members_of j.reading.text.value) xs → octets_at message (component k es) ≡ encoded xs
  component_shown_lem k w is plain xs o c =
      let s = spelling message j.reading j.object k w is plain in
      s.is ∙ sym ((s.means xs o).0 c)

  json_shows : PlacesShow message (json_outcome message n).components (contents_of (json j) n)
  unfolding json_outcome outcome_of components_in
  json_shows =
      let o = j.octets in
      let t = j.shape in
      let ms = members_of j.reading.text.value in
      record {
        protected =
            component_shown_lem 1 (ascii "protected") protected_number (plain_of (ascii "protected") ms t.protected) _
            o.0 j.protected_spelled;
        key = (json_stands known message j n below).key_shown;
        iv = component_shown_lem 6 (ascii "iv") iv_number (plain_of (ascii "iv") ms t.iv) _ o.1 j.iv_spelled;
        aad = component_shown_lem 7 (ascii "aad") aad_number_lem (plain_of (ascii "aad") ms t.aad) _ o.2 j.aad_spelled;
        ciphertext =
            component_shown_lem 8 (ascii "ciphertext") ciphertext_number t.ciphertext _ o.3 j.ciphertext_spelled;
        tag = component_shown_lem 9 (ascii "tag") tag_number (plain_of (ascii "tag") ms t.tag) _ o.4 j.tag_spelled;
      }

  json_header : (json_outcome message n).header ≡ j.header
  unfolding json_outcome outcome_of components_in
  json_header = (json_stands known message j n below).header_is

  module _ (passed : Passed message n (entries_at message (parts_of (placed_text j.reading.text)))) where
    places_mean : JsonPlaces message (parts_of (placed_text j.reading.text)) n (json_outcome message n).components
    unfolding json_outcome outcome_of top_entries member_entries
    places_mean =
        subst (λ (fs : List Entry).
        JsonPlaces message (parts_of (placed_text j.reading.text)) n
        (components_in (top_of fs) (asked (recipients_in message fs) n)))
        (sym (ap (member_entries message) (outermost_rows message j.reading)))
        (json_places message n j.reading passed)

    json_means : ResultMeans (json j) n (accepted message (json_outcome message n))
    unfolding accepted json_outcome outcome_of
    json_means =
        let m = json_mode in
        record {
          size = refl;
          number = refl;
          form =
              form_is message es (members_of j.reading.text.value) j.recipients j.recipients_read
              (look message j.reading j.object 5 (ascii "recipients") recipients_number);
          told = form_told (json j);
          recipients = (json_stands known message j n below).many;
          alg = m.alg;
          named = m.named;
          mode_is = m.is;
          no_other = m.no_other;
          places = places_mean;
          shows = json_shows;
          header_length = ap length json_header;
          parameter_count = json_many;
        }

-- Both

module _ (c : Call) (passes : refusal c ≡ 0) where
  abbrev message : List ℕ
  message = c.message

  abbrev n : ℕ
  n = c.recipient

  result_is : result_of c ≡ accepted message (outcome message n)
  unfolding result_of
  result_is =
      let m = refusal c in
      ap (λ (b : Bool). cond b (accepted message (outcome message n)) (refused m)) (eq-eqb m 0 passes)

  outcome_as : (b : Bool) → opens_object message ≡ b →
      outcome message n ≡ cond b (json_outcome message n) (compact_outcome message)
  outcome_as b e = outcome_is message n ∙ ap (λ (x : Bool). cond x (json_outcome message n) (compact_outcome message)) e

  pub passed_means : (names : List (List ℕ)) (f : Message names c.message) → c.recipient < count f →
      ResultMeans f c.recipient (result_of c)
  passed_means names (compact x) below =
      subst (ResultMeans (compact x) n)
      (sym (result_is ∙ ap (accepted message) (outcome_as false ((forms_apart names message).0 x))))
      (compact_means names message x n)
  passed_means names (json j) below =
      subst (ResultMeans (json j) n)
      (sym (result_is ∙ ap (accepted message) (outcome_as true ((forms_apart names message).1 j.reading))))
      (json_means names message j n below (reading_passed c passes j.reading))

-- For each recipient below the count.
pub result_means : (c : Call) (m : Meets c) (n : ℕ) → n < count m.form → ResultMeans m.form n (result_of (call_for n c))
result_means c m n below =
    passed_means (call_for n c) ((accepted_exactly (call_for n c)).1 (each_recipient c m n below)) m.list.names m.form below
