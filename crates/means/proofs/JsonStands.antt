-- The members of a JSON message's headers stand where the reader's rows say: the protected header's in its decoded octets,
-- the shared one's and the asked recipient's own in the message.
use mathlib.Core.Path.{◌≡◌, refl, ap, sym, subst, ◌∙◌}
use mathlib.Core.List.{List, [], ◌∷◌}
use Prim.Native.Nat.{ℕ, zero, suc, ◌<◌}
use native.Mathlib.Omega.{arith}
use lib.ListN.{length}
use Rattle.prelude.specs.Ascii.{ascii}
use Rattle.base64url.specs.Base64url.{encoded}
use Rattle.grammar.specs.Bounds.{Every}
use Rattle.rows.specs.Rows.{present, value_of}
use Rattle.headers.specs.Components.{octets_at}
use Rattle.headers.specs.Headers.{header_text, outermost}
use Rattle.headers.specs.Headers as headers
use Rattle.shape.specs.Shape.{component, Recipient}
use Rattle.shape.specs.Recipients.{top_entries, recipients_in}
use Rattle.jwe.specs.Judge.{asked}
use Rattle.meets.specs.Members.{Member, members_of}
use Rattle.meets.specs.Rules.{Headers, Rules}
use Rattle.meets.specs.Meets.{Component, ProtectedIn, Json, json}
use Rattle.meets.specs.Meets as meets
use Rattle.meets.proofs.OneForOne.{OneForOne, zip_length}
use Rattle.meets.proofs.Standing.{MemberStands}
use Rattle.meets.proofs.MemberEntries.{header_number, key_number, protected_number, recipients_number}
use Rattle.meets.proofs.Lookups.{lookup, header_stands}
use Rattle.meets.proofs.RulesDecided.{NamesOnce}
use Rattle.meets.proofs.RecipientsDecided.{Holder, recipients_stand}
use Rattle.meets.proofs.ProtectedDecided.{protected_stands}
use Rattle.meets.proofs.EachRecipient.{plain_of}
use Rattle.meets.proofs.JsonDecided.{holds, look, header_is_lem, shared_stands}
use Rattle.meets.proofs.ComponentsDecided.{component_spelling}
use Rattle.means.specs.Means.{own_of, key_of, headers_of, contents_of}

module _ (known : List (List ℕ)) (message : List ℕ) (protected shared : List Member) where
  -- A recipient that keeps the rules and the reader's for it.
  record Nth (own : List Member) (key : List ℕ) (r : Recipient) : Type 0 where
    members : List Member
    keeps : meets.Recipient members
    rules : meets.Ruled known protected shared keeps
    is : own ≡ keeps.own
    key_is : key ≡ keeps.key
    holder : Holder message members r

  nth : (rs : List (List Member)) (each : Every meets.Recipient rs) →
      meets.EachRuled known protected shared rs each → (us : List Recipient) → OneForOne (Holder message) rs us →
      (n : ℕ) → n < length rs → Nth (own_of rs each n) (key_of rs each n) (asked us n)
  unfolding own_of key_of asked
  nth [] each rules us z n h = absurd (omega arith)
  nth (r ∷ rs) each rules [] z n h = absurd z
  nth (r ∷ rs) each rules (u ∷ us) z zero h =
      record { members = r; keeps = each.0; rules = rules.0; is = refl; key_is = refl; holder = z.0 }
  nth (r ∷ rs) each rules (u ∷ us) z (suc n) h = nth rs each.1 rules.1 us z.1 n (omega arith)

  own_stands : (own : List Member) (key : List ℕ) (r : Recipient) → Nth own key r →
      OneForOne (MemberStands message) own (headers.members_of message r.header)
  own_stands own key r t =
      let k = t.keeps in
      let ms = t.members in
      let fs = t.holder.entries in
      let there = header_stands message (ascii "header") ms (value_of 3 fs) (present 3 fs) k.shape.header k.own
      (lookup message (ascii "header") 3 header_number ms fs t.holder.holds.held k.object.distinct)
      k.header in
      subst (λ (os : List Member). OneForOne (MemberStands message) os (headers.members_of message r.header))
      (sym t.is)
      (subst (λ (u : Recipient). OneForOne (MemberStands message) k.own (headers.members_of message u.header))
      (sym t.holder.made) there)

  -- Its key is spelled at its place.
  key_shown_lem : (own : List Member) (key : List ℕ) (r : Recipient) → Nth own key r →
      octets_at message r.key ≡ encoded key
  key_shown_lem own key r t =
      let k = t.keeps in
      let ms = t.members in
      let fs = t.holder.entries in
      let s = component_spelling message (ascii "encrypted_key") ms (value_of 4 fs) (present 4 fs)
      (plain_of (ascii "encrypted_key") ms k.shape.key)
      (lookup message (ascii "encrypted_key") 4 key_number ms fs t.holder.holds.held k.object.distinct) in
      ap (λ (u : Recipient). octets_at message u.key) t.holder.made ∙ s.is
      ∙ sym ((s.means k.key k.octets).0 k.spelled) ∙ ap encoded (sym t.key_is)

-- All of them.
pub record JsonStands (known : List (List ℕ)) (message : List ℕ) (j : Json known message) (n : ℕ) : Type 0 where
  pub header_is : header_text message (component 1 (top_entries message)) ≡ j.header
  pub protected : OneForOne (MemberStands (header_text message (component 1 (top_entries message)))) j.protected
      (outermost (header_text message (component 1 (top_entries message))))
  pub shared : OneForOne (MemberStands message) j.shared
      (headers.members_of message (value_of 2 (top_entries message)).start)
  pub own : OneForOne (MemberStands message) (headers_of (json j) n).own
      (headers.members_of message (asked (recipients_in message (top_entries message)) n).header)
  pub many : length (recipients_in message (top_entries message)) ≡ length j.recipients
  pub key_shown : octets_at message (asked (recipients_in message (top_entries message)) n).key
      ≡ encoded (contents_of (json j) n).key
  pub key : List ℕ
  pub once : NamesOnce (headers_of (json j) n)
  pub rules : Rules known (headers_of (json j) n) key

pub json_stands : (known : List (List ℕ)) (message : List ℕ) (j : Json known message) (n : ℕ) →
    n < length j.recipients → JsonStands known message j n
json_stands known message j n below =
    let es = top_entries message in
    let us = recipients_in message es in
    let H = header_text message (component 1 es) in
    let reading = j.reading in
    let ps = members_of reading.text.value in
    let h = holds message reading in
    let object = j.object in
    let shape = j.shape in
    let five = look message reading object 5 (ascii "recipients") recipients_number in
    let same = header_is_lem message reading object (plain_of (ascii "protected") ps shape.protected) j.header
    j.octets.0 j.protected_spelled in
    let component_is : Component (ascii "protected") ps H =
    subst (λ (w : List ℕ). Component (ascii "protected") ps w) (sym same) j.protected_spelled in
    let read : ProtectedIn ps H j.protected =
    subst (λ (w : List ℕ). ProtectedIn ps w j.protected) (sym same) j.protected_read in
    let one = look message reading object 1 (ascii "protected") protected_number in
    let zr = recipients_stand message ps es five h shape.recipients j.recipients j.recipients_read in
    let t = nth known message j.protected j.shared j.recipients j.each j.rules us zr n below in
    let own = (headers_of (json j) n).own in
    let all : List Member → Headers = λ os. record { protected = j.protected; shared = j.shared; own = os } in
    record {
      header_is = same;
      protected = protected_stands message ps es H one component_is j.protected read;
      shared = shared_stands message reading object shape j.shared j.shared_read;
      own = own_stands known message j.protected j.shared own (contents_of (json j) n).key (asked us n) t;
      key_shown =
          key_shown_lem known message j.protected j.shared own (contents_of (json j) n).key (asked us n) t;
      many = sym (zip_length (Holder message) j.recipients us zr);
      key = t.keeps.key;
      once =
          subst (λ (os : List Member). NamesOnce (all os)) (sym t.is)
          (record {
            protected = j.protected_object.distinct;
            shared = j.shared_object.distinct;
            own = t.keeps.own_object.distinct;
          });
      rules = subst (λ (os : List Member). Rules known (all os) t.keeps.key) (sym t.is) t.rules;
    }
