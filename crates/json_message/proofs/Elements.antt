-- The recipients of a written message: the elements of `recipients`, each an object of what a recipient has of its own.
use mathlib.Core.Path.{◌≡◌, refl, sym, ap, ap₂, subst, ◌∙◌}
use mathlib.Core.List.{List, [], ◌∷◌, ◌++◌, map, flat_map}
use mathlib.Core.Bool.{false, not, ◌||◌}
use Prim.Native.Nat.{ℕ, suc, ◌+◌, ◌≤◌}
use native.Mathlib.Omega.{arith}
use native.Mathlib.Nat.{add-zero}
use lib.ListN.{length}
use borrow.Author.Tests.{eq-eqb}
use Rattle.prelude.specs.Any.{any, any_pair}
use Rattle.prelude.specs.Ascii.{ascii}
use Rattle.prelude.specs.Buffer.{AllBelow}
use Rattle.prelude.specs.Limits.{levels, most_members}
use Rattle.prelude.specs.Refusals.{◌if◌}
use Rattle.base64url.specs.Base64url.{encoded}
use Rattle.grammar.specs.Places as places
use Rattle.grammar.specs.Places.{placed, start_of, kind_of}
use Rattle.grammar.specs.Spellings.{adds, next, undo_from, undo, equal, alike}
use Rattle.rows.specs.Rows.{Entry, value_of}
use Rattle.jose.proofs.Alike.{Beside}
use Rattle.headers.specs.Components.{octets_at}
use Rattle.headers.specs.Headers.{object_order}
use Rattle.shape.specs.Shape as shape
use Rattle.shape.specs.Shape.{recipient_of, no_object, wrong_element}
use Rattle.shape.specs.Recipients.{element_entries, element_order}
use Rattle.json_text.proofs.Embedded.{Stands}
use Rattle.json_text.proofs.Made.{Field, deepest_field, deepest_element, object_levels}
use Rattle.json_text.proofs.Fields.{element_from, elements_from, object_placed, FieldsStand, ElementsStand, object_fields}
use Rattle.recipients.specs.Table.{RawRecipient}
use Rattle.json_message.specs.Handed.{trimmed, is_there, PlaceIf}
use Rattle.json_message.specs.Inner.Judged.{Judged, OwnJudged}
use Rattle.json_message.specs.Inner.PiecesOrder.{hollow_text}
use Rattle.json_message.proofs.Agree.{Agree, agree_trans, agree_append, agree_test, agree_each, agree_any}
use Rattle.json_message.proofs.Parameters.{StandsIf}
use Rattle.json_message.proofs.FieldEntries.{entries_from, object_entries, or_none}
use Rattle.json_message.proofs.Located.{ComponentAt, HeaderAt, start_if}
use Rattle.json_message.proofs.Names.{object_passes}
use Rattle.json_message.proofs.Lines.{same_number, line_name, table_sub, hollow_line}
use Rattle.json_message.proofs.Standing.{table_at, table_wrong, table_own}
use Rattle.json_message.proofs.Tables.{own_lines, own_fields, element_of, EveryOctets, elements_of}

-- A recipient as the reader finds it: where its header stands, and its key's text.
pub record RecipientIs (s : List ℕ) (q : shape.Recipient) (r : RawRecipient) : Type 0 where
  pub from : ℕ
  pub later : 1 ≤ from
  pub stands : StandsIf s from r.header
  pub header : q.header ≡ start_if from r.header
  pub key : octets_at s q.key ≡ encoded r.key
  pub place : PlaceIf (is_there r.key) q.key
  pub size : q.key.size ≡ length (encoded r.key)
  pub judged : Judged levels r.header
  pub octets : AllBelow 256 r.key

-- The entries among which its members are, and that its header's value has no space around it.
pub record MembersAre (s : List ℕ) (es : List Entry) (r : RawRecipient) : Type 0 where
  pub recipient : RecipientIs s (recipient_of es) r
  pub text : octets_at s (value_of shape.header es) ≡ trimmed r.header

pub members_are : (s : List ℕ) (n : ℕ) (fs : List Field) (r : RawRecipient) → AllBelow 256 r.key → Judged levels r.header →
    HeaderAt s n fs shape.header r.header → ComponentAt s n fs shape.encrypted_key (is_there r.key) r.key →
    MembersAre s (entries_from n fs) r
members_are s n fs r o j h k = record {
  recipient = record {
    from = h.from;
    later = h.later;
    stands = h.stands;
    header = h.starts;
    key = k.spelled;
    place = k.place;
    size = k.size;
    judged = j;
    octets = o;
  };
  text = h.text;
}

pub recipients_are : (s : List ℕ) (ess : List (List Entry)) (rs : List RawRecipient) → Beside (MembersAre s) ess rs →
    Beside (RecipientIs s) (map recipient_of ess) rs
recipients_are s [] [] z = tt
recipients_are s [] (r ∷ rs) z = absurd z
recipients_are s (es ∷ ess) [] z = absurd z
recipients_are s (es ∷ ess) (r ∷ rs) z = (z.0.recipient, recipients_are s ess rs z.1)

-- The table of a recipient: no number and no name twice.

module _ (r : RawRecipient) (o : AllBelow 256 r.key) (j : Judged levels r.header) where
  own_distinct : any_pair same_number (own_lines r o j) ≡ false
  unfolding any any_pair own_lines
  own_distinct = refl

  own_few : length (map line_name (own_lines r o j)) ≤ most_members
  unfolding own_lines
  own_few = omega arith

  own_apart : any_pair alike (map line_name (own_lines r o j)) ≡ false
  unfolding ascii adds next undo_from undo equal alike any any_pair own_lines
  own_apart = refl

  own_hollow : any hollow_line (own_lines r o j) ≡ hollow_text r.header
  unfolding any own_lines
  own_hollow = or_none (hollow_text r.header)

  -- Where it stands.
  own_members_lem : (s : List ℕ) (n : ℕ) → FieldsStand s n (own_fields r o j) → MembersAre s (entries_from n (own_fields r o j)) r
  unfolding own_lines
  own_members_lem s n h =
      let at = table_at s n (own_lines r o j) own_distinct h in
      members_are s n (own_fields r o j) r o j at.0 at.1.0

  own_wrong : (s : List ℕ) (n : ℕ) → FieldsStand s n (own_fields r o j) →
      wrong_element s (entries_from n (own_fields r o j)) ≡ hollow_text r.header
  unfolding wrong_element own_lines
  own_wrong s n h = table_own s n (own_lines r o j) (refl, (refl, tt)) ∙ table_wrong s n (own_lines r o j) h ∙ own_hollow

-- An element: an object of what a recipient has of its own.
pub record ElementIs (s : List ℕ) (x : places.Element) (r : RawRecipient) : Type 0 where
  pub octets : AllBelow 256 r.key
  pub judged : Judged levels r.header
  pub from : ℕ
  pub kind : x.kind ≡ 0
  pub entries : element_entries s x.start ≡ entries_from from (own_fields r octets judged)
  pub stand : FieldsStand s from (own_fields r octets judged)

module _ (s : List ℕ) where
  one_element : (r : RawRecipient) (o : AllBelow 256 r.key) (j : Judged levels r.header) (n : ℕ) →
      suc (deepest_field (own_fields r o j)) ≤ levels → Stands s n (element_of r o j).text →
      ElementIs s (element_from n (element_of r o j)) r
  unfolding element_of element_entries
  one_element r o j n d h =
      let p = object_placed 0 (own_fields r o j) in
      let e : n + start_of (placed 0 (element_of r o j).made.value) ≡ n =
      ap (λ q. n + start_of q) p ∙ add-zero n in
      record {
        octets = o;
        judged = j;
        from = n + 1;
        kind = ap kind_of p;
        entries = ap (element_entries s) e ∙ object_entries (own_fields r o j) h d;
        stand = object_fields (own_fields r o j) h;
      }

  pub elements_are : (rs : List RawRecipient) (o : EveryOctets rs) (j : OwnJudged levels rs) (n : ℕ) →
      deepest_element (elements_of rs o j) ≤ levels → ElementsStand s n (elements_of rs o j) →
      Beside (ElementIs s) (elements_from n (elements_of rs o j)) rs
  unfolding elements_of elements_from ElementsStand deepest_element element_of
  elements_are [] o j n d h = tt
  elements_are (r ∷ rs) o j n d h =
      let e = object_levels (own_fields r o.0 j.0) in (
        one_element r o.0 j.0 n (omega arith) h.0,
        elements_are rs o.1 j.1 _ (omega arith) h.1,
      )

  -- Their recipients.
  pub element_members : (xs : List places.Element) (rs : List RawRecipient) → Beside (ElementIs s) xs rs →
      Beside (MembersAre s) (map (λ x. element_entries s x.start) xs) rs
  element_members [] [] z = tt
  element_members [] (r ∷ rs) z = absurd z
  element_members (x ∷ xs) [] z = absurd z
  element_members (x ∷ xs) (r ∷ rs) z =
      let h = z.0 in (
        subst (λ es. MembersAre s es r) (sym h.entries) (own_members_lem r h.octets h.judged s h.from h.stand),
        element_members xs rs z.1,
      )

  -- 8, 9 and 10 on each element in turn: a header without a member.
  element_agrees : (x : places.Element) (r : RawRecipient) → ElementIs s x r →
      Agree (element_order s x.start) (10 if hollow_text r.header ∷ [])
  unfolding element_order
  element_agrees x r h =
      let o = h.octets in
      let j = h.judged in
      let n = h.from in
      let fs = own_fields r o j in
      let ls = own_lines r o j in
      subst (λ es. Agree (object_order s es ++ (10 if wrong_element s es ∷ [])) (10 if hollow_text r.header ∷ []))
      (sym h.entries)
      (agree_append
      (object_passes s n fs (map line_name ls) h.stand (table_sub ls) (own_few r o j) (own_apart r o j))
      (agree_test 10 (own_wrong r o j s n h.stand)))

  pub elements_agree : (xs : List places.Element) (rs : List RawRecipient) → Beside (ElementIs s) xs rs →
      Agree (flat_map (λ x. element_order s x.start) xs) (10 if any (λ r. hollow_text r.header) rs ∷ [])
  elements_agree xs rs z =
      agree_trans
      (agree_each (ElementIs s) (λ x. element_order s x.start) (λ r. 10 if hollow_text r.header ∷ []) element_agrees
      xs rs z)
      (agree_any 10 (λ r. hollow_text r.header) rs)

  -- 10 and 11 on `recipients` itself.
  pub elements_objects : (xs : List places.Element) (rs : List RawRecipient) → Beside (ElementIs s) xs rs →
      any no_object xs ≡ false
  unfolding any
  elements_objects [] [] z = refl
  elements_objects [] (r ∷ rs) z = absurd z
  elements_objects (x ∷ xs) [] z = absurd z
  elements_objects (x ∷ xs) (r ∷ rs) z =
      ap₂ ◌||◌ (ap not (eq-eqb x.kind 0 z.0.kind)) (elements_objects xs rs z.1)
