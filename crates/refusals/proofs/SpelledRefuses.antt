-- 5 on all components of a JSON message: those of the top level, and the recipients' keys.
use mathlib.Core.Path.{◌≡◌, sym, subst}
use mathlib.Core.Bool.{true, false}
use mathlib.Core.Logic.{◌↔◌}
use mathlib.Core.List.{List, [], ◌∷◌}
use Prim.Native.Nat.{ℕ}
use lib.Dec.{eqb}
use Rattle.base64url.specs.Base64url.{decoded_length}
use Rattle.prelude.specs.Ascii.{ascii}
use Rattle.grammar.specs.Bounds.{Every}
use Rattle.grammar.specs.Readings.{Reading}
use Rattle.rows.specs.Rows.{Entry, present, value_of}
use Rattle.headers.specs.Components.{misspelled}
use Rattle.headers.specs.Headers as headers
use Rattle.shape.specs.Shape.{inner, Recipient, recipient_of}
use Rattle.shape.specs.Recipients.{top_entries, recipients_in}
use Rattle.jwe.specs.General.{any_misspelled}
use Rattle.meets.specs.Members.{Member, members_of}
use Rattle.meets.specs.Meets.{Object, TopShape}
use Rattle.meets.proofs.OneForOne.{OneForOne, zip_every}
use Rattle.meets.proofs.Standing.{MemberStands}
use Rattle.meets.proofs.Deciding.{FalseWhere}
use Rattle.meets.proofs.MemberEntries.{Holds, header_number, key_number, protected_number, iv_number, aad_number_lem}
use Rattle.meets.proofs.MemberEntries.{ciphertext_number, tag_number}
use Rattle.meets.proofs.Lookups.{Lookup, lookup, header_found, header_stands}
use Rattle.meets.proofs.ComponentsDecided.{Spelling, component_spelling, misspelled_decided, none_where_empty}
use Rattle.meets.proofs.RecipientsDecided.{Holder, Formed}
use Rattle.meets.proofs.EachRecipient.{plain_of}
use Rattle.meets.proofs.JsonTests.{components_pass}
use Rattle.meets.proofs.JsonDecided.{spelled}
use Rattle.refusals.specs.Numbers.{Key, Own, AllSpelled}

-- An object that holds a recipient's members and has kept 8, 9 and 10, and the recipient of the test.
abbrev pub Kept : List ℕ → List Member → Recipient → Type 0
Kept message ms r = Holder message ms r × Formed ms

-- Its key and its own header.
module _ (message : List ℕ) (ms : List Member) (fs : List Entry) (h : Holds message ms fs) (f : Formed ms) where
  abbrev r : Recipient
  r = recipient_of fs

  key_spelling : Spelling message (ascii "encrypted_key") ms (inner (value_of 4 fs))
  key_spelling =
      component_spelling message (ascii "encrypted_key") ms (value_of 4 fs) (present 4 fs)
      (plain_of (ascii "encrypted_key") ms f.1.key)
      (lookup message (ascii "encrypted_key") 4 key_number ms fs h.held f.0.distinct)

  own_lookup : Lookup message (ascii "header") ms (value_of 3 fs) (present 3 fs)
  own_lookup = lookup message (ascii "header") 3 header_number ms fs h.held f.0.distinct

  key_where : FalseWhere (misspelled message r.key) (Key ms)
  key_where = misspelled_decided message (ascii "encrypted_key") ms (inner (value_of 4 fs)) key_spelling

  pub keyed : (k : Key ms) → (eqb (decoded_length r.key.size) 0 ≡ true) ↔ (k.0 ≡ [])
  keyed k = none_where_empty message (ascii "encrypted_key") ms (inner (value_of 4 fs)) key_spelling k.0 k.1 k.2

  own_found : Own ms
  own_found = header_found message (ascii "header") ms (value_of 3 fs) (present 3 fs) f.1.header own_lookup

  pub own_stands : (o : Own ms) → OneForOne (MemberStands message) o.0 (headers.members_of message r.header)
  own_stands o =
      header_stands message (ascii "header") ms (value_of 3 fs) (present 3 fs) f.1.header o.0 own_lookup o.1

module _ (message : List ℕ) (rs : List (List Member)) (us : List Recipient) (z : OneForOne (Kept message) rs us) where
  keys_where : Every Key rs ↔ Every (λ u. misspelled message u.key ≡ false) us
  keys_where =
      zip_every (Kept message) Key (λ u. misspelled message u.key ≡ false)
      (λ ms u x.
      subst (λ (v : Recipient). Key ms ↔ (misspelled message v.key ≡ false)) (sym x.0.made)
      (let w = key_where message ms x.0.entries x.0.holds x.1 in (w.1, w.0)))
      rs us z

pub owns_found : (message : List ℕ) (rs : List (List Member)) (us : List Recipient) → OneForOne (Kept message) rs us → Every Own rs
owns_found message [] [] z = tt
owns_found message [] (u ∷ us) z = absurd z
owns_found message (ms ∷ rs) [] z = absurd z
owns_found message (ms ∷ rs) (u ∷ us) z =
    (own_found message ms z.0.0.entries z.0.0.holds z.0.1, owns_found message rs us z.1)

module _ (message : List ℕ) (reading : Reading 12 message) (object : Object (members_of reading.text.value))
    (shape : TopShape (members_of reading.text.value)) where
  abbrev ps : List Member
  ps = members_of reading.text.value

  abbrev es : List Entry
  es = top_entries message

  pub all_spelled : (rs : List (List Member)) → OneForOne (Kept message) rs (recipients_in message es) →
      FalseWhere (any_misspelled message es) (AllSpelled ps rs)
  all_spelled rs z =
      let t = components_pass message es in
      let one = spelled message reading object 1 (ascii "protected") protected_number
      (plain_of (ascii "protected") ps shape.protected) in
      let iv = spelled message reading object 6 (ascii "iv") iv_number (plain_of (ascii "iv") ps shape.iv) in
      let aad = spelled message reading object 7 (ascii "aad") aad_number_lem (plain_of (ascii "aad") ps shape.aad) in
      let body = spelled message reading object 8 (ascii "ciphertext") ciphertext_number shape.ciphertext in
      let tag = spelled message reading object 9 (ascii "tag") tag_number (plain_of (ascii "tag") ps shape.tag) in
      let keys = keys_where message rs (recipients_in message es) z in (
        (λ e.
            let h = t.0 e in (
              one.0 h.0,
              iv.0 h.1.0,
              aad.0 h.1.1.0,
              body.0 h.1.1.1.0,
              tag.0 h.1.1.1.1.0,
              keys.1 h.1.1.1.1.1,
            )),
        (λ c.
            t.1
            (one.1 c.0, (iv.1 c.1, (aad.1 c.2, (body.1 c.3, (tag.1 c.4, keys.0 c.5)))))),
      )
