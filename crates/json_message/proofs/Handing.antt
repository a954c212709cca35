-- What the reader hands out of a written message that passes, for each of its recipients.
use mathlib.Core.Path.{◌≡◌, sym, ap, ap₂, subst, ◌∙◌}
use mathlib.Core.List.{List, [], ◌∷◌, ◌++◌}
use mathlib.Core.Bool.{Bool, true, cond}
use Prim.Native.Nat.{ℕ, zero, suc, ◌≤◌, ◌<◌}
use native.Mathlib.Omega.{arith}
use lib.ListN.{length}
use Rattle.prelude.specs.Limits.{levels}
use Rattle.rows.specs.Rows.{Entry, present, value_of}
use Rattle.jose.proofs.Alike.{Beside}
use Rattle.headers.specs.Components.{octets_at, flattened_form, general_form}
use Rattle.headers.specs.Headers.{protected_entries}
use Rattle.shape.specs.Shape as shape
use Rattle.shape.specs.Shape.{component}
use Rattle.shape.specs.Recipients.{components_in}
use Rattle.jwe.specs.General.{parameters}
use Rattle.jwe.specs.Judge.{asked}
use Rattle.jwe.specs.Inner.Outcomes.{outcome_of, json_outcome}
use Rattle.recipients.specs.Table.{RawRecipient}
use Rattle.json_text.proofs.Made.{deepest_field}
use Rattle.json_message.specs.JsonText.{RawMessage}
use Rattle.json_message.specs.Handed.{MessageOctets, numbered_recipient, Given, member_lists, numbered_list, is_there}
use Rattle.json_message.specs.Handed.{PlaceIf, JsonHanded}
use Rattle.json_message.specs.Inner.Judged.{shared_levels, TextsJudged}
use Rattle.json_message.proofs.Tables.{top_fields}
use Rattle.json_message.proofs.Readable.{Counts}
use Rattle.json_message.proofs.Parameters.{StandsIf}
use Rattle.json_message.proofs.Elements.{RecipientIs, MembersAre}
use Rattle.json_message.proofs.Top.{whole, protected_at_lem, shared_at, aad_at_lem, iv_at_lem, ciphertext_at_lem, tag_at, general_there}
use Rattle.json_message.proofs.Top.{top_entries_lem, recipients_found}
use Rattle.json_message.proofs.Stages.{beside_length, Q, found, header_is_lem, S, shared_stands, shared_is, own_is}

-- The recipient with a number, and its members.

asked_is : (s : List ℕ) (qs : List shape.Recipient) (rs : List RawRecipient) (n : ℕ) → Beside (RecipientIs s) qs rs →
    n < length rs → RecipientIs s (asked qs n) (numbered_recipient rs n)
unfolding asked numbered_recipient
asked_is s [] [] n z l = absurd (omega arith)
asked_is s [] (r ∷ rs) n z l = absurd z
asked_is s (q ∷ qs) [] n z l = absurd z
asked_is s (q ∷ qs) (r ∷ rs) zero z l = z.0
asked_is s (q ∷ qs) (r ∷ rs) (suc n) z l = asked_is s qs rs n z.1 (omega arith)

members_of_lem : (s : List ℕ) (ess : List (List Entry)) (rs : List RawRecipient) (n : ℕ) → Beside (MembersAre s) ess rs →
    n < length rs → MembersAre s (numbered_list ess n) (numbered_recipient rs n)
unfolding numbered_list numbered_recipient
members_of_lem s [] [] n z l = absurd (omega arith)
members_of_lem s [] (r ∷ rs) n z l = absurd z
members_of_lem s (es ∷ ess) [] n z l = absurd z
members_of_lem s (es ∷ ess) (r ∷ rs) zero z l = z.0
members_of_lem s (es ∷ ess) (r ∷ rs) (suc n) z l = members_of_lem s ess rs n z.1 (omega arith)

given_if : (s : List ℕ) (m : ℕ) (w : List ℕ) → StandsIf s m w → Given s m w
given_if s m [] h = tt
given_if s m (c ∷ w) h = record { after = h.after; is = h.is }

there : (b : Bool) (n : ℕ) {es fs : List Entry} → es ≡ fs → PlaceIf b (component n fs) → PlaceIf b (component n es)
there b n e h = subst (λ z. PlaceIf b (component n z)) (sym e) h

pub written_handed : (general : Bool) (c : RawMessage) (o : MessageOctets c) (j : TextsJudged levels levels c)
    (k : Counts general c.recipients) → deepest_field (top_fields general c o j) ≤ shared_levels → (recipient : ℕ) →
    recipient < length c.recipients →
    JsonHanded general c recipient (whole general c o j) (json_outcome (whole general c o j) recipient)
unfolding json_outcome outcome_of parameters components_in
written_handed general c o j k d recipient below =
    let s = whole general c o j in
    let e = top_entries_lem general c o j d in
    let r = numbered_recipient c.recipients recipient in
    let z = found general c o j k d in
    let a = asked_is s (Q general c o j k d) c.recipients recipient z below in
    let h = shared_at general c o j in
    record {
      form = ap (λ b. cond b general_form flattened_form) (ap (present shape.recipients) e ∙ general_there general c o j);
      recipients = beside_length (RecipientIs s) (Q general c o j k d) c.recipients z;
      protected = ap (λ es. octets_at s (component shape.protected es)) e ∙ (protected_at_lem general c o j).spelled;
      key = a.key;
      iv = ap (λ es. octets_at s (component shape.iv es)) e ∙ (iv_at_lem general c o j).spelled;
      aad = ap (λ es. octets_at s (component shape.aad es)) e ∙ (aad_at_lem general c o j).spelled;
      ciphertext = ap (λ es. octets_at s (component shape.ciphertext es)) e ∙ (ciphertext_at_lem general c o j).spelled;
      tag = ap (λ es. octets_at s (component shape.tag es)) e ∙ (tag_at general c o j).spelled;
      places = record {
        protected = there (is_there c.protected) shape.protected e (protected_at_lem general c o j).place;
        key = a.place;
        iv = there (is_there c.iv) shape.iv e (iv_at_lem general c o j).place;
        aad = there (is_there c.aad) shape.aad e (aad_at_lem general c o j).place;
        ciphertext = there true shape.ciphertext e (ciphertext_at_lem general c o j).place;
        tag = there (is_there c.tag) shape.tag e (tag_at general c o j).place;
      };
      header = header_is_lem general c o j k d;
      shared_from = S general c o j k d;
      own_from = a.from;
      shared_given = given_if s (S general c o j k d) c.shared (shared_stands general c o j k d);
      own_given = given_if s a.from r.header a.stands;
      shared_text = ap (λ es. octets_at s (value_of shape.unprotected es)) e ∙ h.text;
      own_text = (members_of_lem s (member_lists s) c.recipients recipient (recipients_found general c o j d k) below).text;
      entries =
          ap₂ (λ p q. protected_entries p ++ q) (header_is_lem general c o j k d)
          (ap₂ ◌++◌ (shared_is general c o j k d) (own_is general c o j k d _ r a));
    }
