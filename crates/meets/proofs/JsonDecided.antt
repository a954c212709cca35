-- A JSON message: none of its tests refuses exactly where it meets the rules and has the recipient asked for. Both ways
-- go through what the stages find: the reading, the members of the top level, the components, the headers and the
-- recipients.
use mathlib.Core.Path.{◌≡◌, sym, subst}
use mathlib.Core.Bool.{false}
use mathlib.Core.Logic.{◌↔◌}
use mathlib.Core.List.{List}
use Prim.Native.Nat.{ℕ, ◌<◌}
use native.Mathlib.Omega.{arith}
use lib.ListN.{length}
use borrow.Author.Tests.{leb-false, lt-leb}
use Rattle.prelude.specs.Ascii.{ascii}
use Rattle.grammar.specs.Readings.{Reading}
use Rattle.rows.specs.Rows.{Entry, present, value_of}
use Rattle.prelude.specs.Refusals.{first}
use Rattle.jose.specs.Registered.{registered}
use Rattle.headers.specs.Components.{misspelled}
use Rattle.headers.specs.Headers.{header_text, outermost, protected_entries, object_order}
use Rattle.headers.specs.Headers as headers
use Rattle.shape.specs.Shape.{member_names, inner, component}
use Rattle.shape.specs.Recipients.{top_of, top_entries, recipients_in}
use Rattle.jwe.specs.General.{shared_entries, json_order}
use Rattle.meets.specs.Members.{Member, members_of}
use Rattle.meets.specs.Rules.{EveryNamed}
use Rattle.meets.specs.Meets.{Octets, Object, Plain, TopShape, Component, HeaderIn, ProtectedIn, Json}
use Rattle.meets.proofs.OneForOne.{OneForOne, zip_length}
use Rattle.meets.proofs.Standing.{MemberStands}
use Rattle.meets.proofs.Rows.{unread_decides}
use Rattle.meets.proofs.NamesApart.{object_decided}
use Rattle.meets.proofs.MemberEntries.{Holds, IsMember, top_holds, protected_number, unprotected_number}
use Rattle.meets.proofs.MemberEntries.{recipients_number, iv_number, aad_number_lem, ciphertext_number, tag_number}
use Rattle.meets.proofs.Lookups.{Lookup, lookup, header_found, header_stands}
use Rattle.meets.proofs.ShapeDecided.{top_where, top_arrays, top_recipient, top_shape_decided}
use Rattle.meets.proofs.ShapeDecided.{recipients_shape_decided}
use Rattle.meets.proofs.ComponentsDecided.{Spelling, component_spelling, misspelled_decided, decoded_is}
use Rattle.meets.proofs.RecipientsDecided.{Holder, recipients_found, recipients_stand}
use Rattle.meets.proofs.RecipientsDecided.{elements_order_decided}
use Rattle.meets.proofs.ProtectedDecided.{protected_stands, protected_decided}
use Rattle.meets.proofs.EachRecipient.{plain_of, protected_entries_lem, shared_entries_lem, recipients_decided}
use Rattle.meets.proofs.EachRecipient.{one_content_decided}
use Rattle.meets.proofs.JsonTests.{Passed, top_passes, components_pass, headers_pass, recipients_pass}
use Rattle.meets.proofs.JsonTests.{json_passes}

module _ (message : List ℕ) where
  abbrev es : List Entry
  es = top_entries message

  abbrev header : List ℕ
  header = header_text message (component 1 es)

  -- 8 and 9 on the protected and on the shared header, by their members.

  protected_object_lem : (hs : List Member) → OneForOne (MemberStands header) hs (outermost header) →
      (first (object_order header (protected_entries header)) ≡ 0) ↔ Object hs
  protected_object_lem hs z =
      object_decided registered header 0 hs (protected_entries header) (protected_entries_lem header header hs z)

  shared_object_lem : (hs : List Member) →
      OneForOne (MemberStands message) hs (headers.members_of message (value_of 2 es).start) →
      (first (object_order message (shared_entries message (top_of es))) ≡ 0) ↔ Object hs
  shared_object_lem hs z =
      object_decided registered message 1 hs (shared_entries message (top_of es)) (shared_entries_lem message message es hs z)

-- With a reading

module _ (message : List ℕ) (reading : Reading 12 message) where
  abbrev ps : List Member
  ps = members_of reading.text.value

  pub holds : Holds message ps (top_entries message)
  unfolding top_entries
  holds = top_holds message reading

  -- 8 and 9 on the top level.
  top_object : (first (object_order message (top_entries message)) ≡ 0) ↔ Object ps
  top_object = object_decided member_names message 1 ps (top_entries message) holds.entries

  -- With names none of which stands twice

  module _ (object : Object ps) where
    pub look : (n : ℕ) (w : List ℕ) → IsMember n w →
        Lookup message w ps (value_of n (top_entries message)) (present n (top_entries message))
    look n w i = lookup message w n i ps (top_entries message) holds.held object.distinct

    -- A component.

    pub spelling : (n : ℕ) (w : List ℕ) → IsMember n w → EveryNamed w Plain ps →
        Spelling message w ps (inner (value_of n (top_entries message)))
    spelling n w i plain =
        component_spelling message w ps (value_of n (top_entries message)) (present n (top_entries message)) plain
        (look n w i)

    pub spelled : (n : ℕ) (w : List ℕ) → IsMember n w → EveryNamed w Plain ps →
        (misspelled message (component n (top_entries message)) ≡ false)
        ↔ ((xs : List ℕ) × Octets xs × Component w ps xs)
    spelled n w i plain =
        misspelled_decided message w ps (inner (value_of n (top_entries message))) (spelling n w i plain)

    pub header_is_lem : EveryNamed (ascii "protected") Plain ps → (xs : List ℕ) → Octets xs →
        Component (ascii "protected") ps xs → header_text message (component 1 (top_entries message)) ≡ xs
    header_is_lem plain =
        decoded_is message (ascii "protected") ps (inner (value_of 1 (top_entries message)))
        (spelling 1 (ascii "protected") protected_number plain)

    -- The shared header.
    pub shared_stands : TopShape ps → (hs : List Member) → HeaderIn (ascii "unprotected") ps hs →
        OneForOne (MemberStands message) hs (headers.members_of message (value_of 2 (top_entries message)).start)
    shared_stands shape hs i =
        header_stands message (ascii "unprotected") ps (value_of 2 (top_entries message))
        (present 2 (top_entries message)) shape.unprotected hs
        (look 2 (ascii "unprotected") unprotected_number) i

module _ (known : List (List ℕ)) (message : List ℕ) (recipient : ℕ) where
  abbrev Accepted : Type 0
  Accepted = (j : Json known message) × (recipient < length j.recipients)

  -- A message that passes
  accepted : Passed known message recipient → Accepted
  accepted t =
      let es = top_entries message in
      let us = recipients_in message es in
      let H = header_text message (component 1 es) in
      let first = (top_passes message).0 t.top in
      let reading = (unread_decides message).0 first.0 in
      let ps = members_of reading.text.value in
      let h = holds message reading in
      let object = (top_object message reading).0 first.1.0 in
      let top = (top_where message ps es h.held).0 first.1.1 in
      let five = look message reading object 5 (ascii "recipients") recipients_number in
      let arrays = top_arrays message ps es h.held top.0 in
      let (rs, found) = recipients_found message ps es five in
      let several = (elements_order_decided message ps es five arrays
      (object, top_recipient message ps es h.held top.0) rs found).0 t.elements in
      let shape = (top_shape_decided message ps es h.held five).0 (
        first.1.1,
        (recipients_shape_decided message ps (value_of 5 es) (present 5 es) five arrays).1 several.0,
      ) in
      let texts = (components_pass message es).0 t.spelled in
      let is_plain = plain_of (ascii "protected") ps shape.protected in
      let (xs, o, c) = (spelled message reading object 1 (ascii "protected") protected_number is_plain).0 texts.0 in
      let same = header_is_lem message reading object is_plain xs o c in
      let component_is : Component (ascii "protected") ps H =
      subst (λ (w : List ℕ). Component (ascii "protected") ps w) (sym same) c in
      let (iv, iv-octets, iv-is) = (spelled message reading object 6 (ascii "iv") iv_number
      (plain_of (ascii "iv") ps shape.iv)).0 texts.1.0 in
      let (aad, aad-octets, aad-is) = (spelled message reading object 7 (ascii "aad") aad_number_lem
      (plain_of (ascii "aad") ps shape.aad)).0 texts.1.1.0 in
      let (body, body-octets, body_is) = (spelled message reading object 8 (ascii "ciphertext") ciphertext_number
      shape.ciphertext).0 texts.1.1.1.0 in
      let (tag, tag-octets, tag_is) = (spelled message reading object 9 (ascii "tag") tag_number
      (plain_of (ascii "tag") ps shape.tag)).0 texts.1.1.1.1.0 in
      let one = look message reading object 1 (ascii "protected") protected_number in
      let (hs, read) = (protected_decided message ps es H one component_is).0 t.protected in
      let zp = protected_stands message ps es H one component_is hs read in
      let (ss, shared) = header_found message (ascii "unprotected") ps (value_of 2 es) (present 2 es)
      shape.unprotected (look message reading object 2 (ascii "unprotected") unprotected_number) in
      let zs = shared_stands message reading object shape ss shared in
      let heads = (headers_pass H message es us).0 t.headers in
      let protected-one = (protected_object_lem message hs zp).0 heads.0 in
      let shared-one = (shared_object_lem message ss zs).0 heads.1.0 in
      let zr = recipients_stand message ps es five h several.0 rs found in
      let each = (recipients_decided known H message hs ss es zp zs protected-one.distinct shared-one.distinct rs
      us zr).0 (
        several.1.1,
        (texts.1.1.1.1.1, (heads.1.1, (recipients_pass H message es us known).0 t.rules)),
      ) in
      let content = (one_content_decided known H message hs ss es zp zs protected-one.distinct shared-one.distinct rs
      us zr each.0 each.1).0 t.content in
      let many = zip_length (Holder message) rs us zr in
      let last = leb-false (length us) recipient t.asked in
      let j : Json known message = record {
        reading = reading;
        object = object;
        shape = shape;
        header = H;
        iv = iv;
        aad = aad;
        ciphertext = body;
        tag = tag;
        octets = (subst Octets (sym same) o, iv-octets, aad-octets, body-octets, tag-octets);
        protected_spelled = component_is;
        iv_spelled = iv-is;
        aad_spelled = aad-is;
        ciphertext_spelled = body_is;
        tag_spelled = tag_is;
        protected = hs;
        protected_read = read;
        protected_object = protected-one;
        shared = ss;
        shared_read = shared;
        shared_object = shared-one;
        recipients = rs;
        recipients_read = found;
        few = several.1.0;
        each = each.0;
        rules = each.1;
        content = content;
      } in
      (j, omega arith)

  -- A message that meets the rules
  passed : Accepted → Passed known message recipient
  passed (j, last) =
      let es = top_entries message in
      let us = recipients_in message es in
      let H = header_text message (component 1 es) in
      let reading = j.reading in
      let ps = members_of reading.text.value in
      let h = holds message reading in
      let object = j.object in
      let shape = j.shape in
      let five = look message reading object 5 (ascii "recipients") recipients_number in
      let top = (top_shape_decided message ps es h.held five).1 shape in
      let all = ((top_where message ps es h.held).0 top.0).0 in
      let is_plain = plain_of (ascii "protected") ps shape.protected in
      let same = header_is_lem message reading object is_plain j.header j.octets.0 j.protected_spelled in
      let component_is : Component (ascii "protected") ps H =
      subst (λ (w : List ℕ). Component (ascii "protected") ps w) (sym same) j.protected_spelled in
      let read : ProtectedIn ps H j.protected =
      subst (λ (w : List ℕ). ProtectedIn ps w j.protected) (sym same) j.protected_read in
      let one = look message reading object 1 (ascii "protected") protected_number in
      let zp = protected_stands message ps es H one component_is j.protected read in
      let zs = shared_stands message reading object shape j.shared j.shared_read in
      let zr = recipients_stand message ps es five h shape.recipients j.recipients j.recipients_read in
      let each = (recipients_decided known H message j.protected j.shared es zp zs
      j.protected_object.distinct j.shared_object.distinct j.recipients us zr).1 (j.each, j.rules) in
      let many = zip_length (Holder message) j.recipients us zr in
      record {
        top =
            (top_passes message).1
            ((unread_decides message).1 reading, ((top_object message reading).1 object, top.0));
        elements =
            (elements_order_decided message ps es five (top_arrays message ps es h.held all)
            (object, shape.recipient) j.recipients j.recipients_read).1
            (shape.recipients, (j.few, each.0));
        spelled = (components_pass message es).1 (
          (spelled message reading object 1 (ascii "protected") protected_number is_plain).1
              (j.header, j.octets.0, j.protected_spelled),
          (
            (spelled message reading object 6 (ascii "iv") iv_number (plain_of (ascii "iv") ps shape.iv)).1
                (j.iv, j.octets.1, j.iv_spelled),
            (
              (spelled message reading object 7 (ascii "aad") aad_number_lem (plain_of (ascii "aad") ps shape.aad)).1
                  (j.aad, j.octets.2, j.aad_spelled),
              (
                (spelled message reading object 8 (ascii "ciphertext") ciphertext_number shape.ciphertext).1
                    (j.ciphertext, j.octets.3, j.ciphertext_spelled),
                (
                  (spelled message reading object 9 (ascii "tag") tag_number (plain_of (ascii "tag") ps shape.tag)).1
                      (j.tag, j.octets.4, j.tag_spelled),
                  each.1.0,
                ),
              ),
            ),
          ),
        );
        protected = (protected_decided message ps es H one component_is).1 (j.protected, read);
        headers = (headers_pass H message es us).1 (
          (protected_object_lem message j.protected zp).1 j.protected_object,
          ((shared_object_lem message j.shared zs).1 j.shared_object, each.1.1.0),
        );
        rules = (recipients_pass H message es us known).1 each.1.1.1;
        content =
            (one_content_decided known H message j.protected j.shared es zp zs j.protected_object.distinct
            j.shared_object.distinct j.recipients us zr j.each j.rules).1 j.content;
        asked = lt-leb (length us) recipient (omega arith);
      }

  pub json_decided : (first (json_order message known recipient) ≡ 0)
      ↔ ((j : Json known message) × (recipient < length j.recipients))
  json_decided =
      let t = json_passes known message recipient in
      ((λ e. accepted (t.0 e)), (λ a. t.1 (passed a)))
