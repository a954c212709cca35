-- The top level of a written message: where its components and headers stand, its recipients, and refusals 8 to 11 on it.
use mathlib.Core.Path.{◌≡◌, refl, sym, ap, ap₂, subst, ◌∙◌}
use mathlib.Core.List.{List, [], ◌∷◌, ◌++◌, map}
use mathlib.Core.Bool.{Bool, true, false, not, ◌&&◌, ◌||◌, cond, true≢false}
use Prim.Native.Nat.{ℕ, suc, ◌+◌, ◌≤◌}
use native.Mathlib.Omega.{arith}
use lib.ListN.{length}
use Rattle.prelude.specs.Any.{any, any_pair}
use Rattle.prelude.specs.Ascii.{ascii}
use Rattle.prelude.specs.Limits.{levels, most_members}
use Rattle.grammar.specs.Bounds.{Every}
use Rattle.grammar.specs.Reader as reader
use Rattle.grammar.specs.Reader.{pass_over, skip_space, members_at, elements_at}
use Rattle.grammar.specs.Spellings.{adds, next, undo_from, undo, equal, alike}
use Rattle.rows.specs.Rows.{Entry, present, value_of}
use Rattle.jose.proofs.Alike.{Beside}
use Rattle.headers.specs.Headers.{outermost, object_order}
use Rattle.shape.specs.Shape as shape
use Rattle.shape.specs.Shape.{wrong_top, member_entries, recipient_of}
use Rattle.shape.specs.Recipients.{top_entries, elements_in, element_entries, recipients_in}
use Rattle.json_text.specs.Pieces.{bracketed}
use Rattle.json_text.proofs.Embedded.{stands_whole}
use Rattle.json_text.proofs.Made.{Field, deepest_field, deepest_element}
use Rattle.json_text.proofs.Fields.{object_text, array_elements, array_texts, FieldsStand, object_fields}
use Rattle.recipients.specs.Table.{RawRecipient}
use Rattle.json_message.specs.JsonText.{RawMessage}
use Rattle.json_message.specs.Handed.{MessageOctets, member_lists, is_there}
use Rattle.json_message.specs.Inner.Judged.{OwnJudged, shared_levels, TextsJudged}
use Rattle.json_message.specs.Inner.PiecesOrder.{hollow_text}
use Rattle.json_message.proofs.Agree.{Agree}
use Rattle.json_message.proofs.FieldEntries.{entries_from, object_entries, present_from, or_none}
use Rattle.json_message.proofs.Located.{ComponentAt, HeaderAt}
use Rattle.json_message.proofs.Names.{object_passes}
use Rattle.json_message.proofs.Lines.{Line, Within, has, table_has, same_number, line_name, table_sub}
use Rattle.json_message.proofs.Lines.{hollow_line, table_deepest}
use Rattle.json_message.proofs.Standing.{ArrayAt, LineAt, table_at, table_wrong}
use Rattle.json_message.proofs.Tables.{own_lines, EveryOctets, elements_of, recipient_lines, protected_line, shared_line}
use Rattle.json_message.proofs.Tables.{last_lines, top_lines, top_fields}
use Rattle.json_message.proofs.Readable.{Counts, every_front, every_back, LinesWithin}
use Rattle.json_message.proofs.Elements.{MembersAre, members_are, ElementIs, elements_are, element_members}

-- The headers at the top level that have no member, but for the shared one.
abbrev pub top_hollow : Bool → List RawRecipient → Bool
top_hollow true rs = false
top_hollow false [] = false
top_hollow false (r ∷ rs) = hollow_text r.header

module _ (general : Bool) (c : RawMessage) (o : MessageOctets c) (j : TextsJudged levels levels c) where
  abbrev F : List Field
  F = top_fields general c o j

  abbrev pub whole : List ℕ
  whole = object_text F

  top_stands : FieldsStand whole 1 F
  top_stands = object_fields F (stands_whole whole)

  -- The table, by its form. What is computed of it is computed for each.

  abbrev R : List Line
  R = recipient_lines general c.recipients o.keys j.own

  abbrev table_with : (g : Bool) (rs : List RawRecipient) → EveryOctets rs → OwnJudged levels rs → List Line
  table_with g rs p q = protected_line c o ∷ shared_line c o j.shared ∷ (recipient_lines g rs p q ++ last_lines c o)

  lines_are : top_lines general c o j ≡ table_with general c.recipients o.keys j.own
  unfolding top_lines
  lines_are = refl

  -- No number and no name twice.

  distinct : (g : Bool) (rs : List RawRecipient) (p : EveryOctets rs) (q : OwnJudged levels rs) →
      any_pair same_number (table_with g rs p q) ≡ false
  unfolding any any_pair protected_line shared_line recipient_lines own_lines last_lines
  distinct true rs p q = refl
  distinct false [] p q = refl
  distinct false (r ∷ rs) p q = refl

  few : (g : Bool) (rs : List RawRecipient) (p : EveryOctets rs) (q : OwnJudged levels rs) →
      length (map line_name (table_with g rs p q)) ≤ most_members
  unfolding protected_line shared_line recipient_lines own_lines last_lines
  few true rs p q = omega arith
  few false [] p q = omega arith
  few false (r ∷ rs) p q = omega arith

  apart : (g : Bool) (rs : List RawRecipient) (p : EveryOctets rs) (q : OwnJudged levels rs) →
      any_pair alike (map line_name (table_with g rs p q)) ≡ false
  unfolding ascii adds next undo_from undo equal alike any any_pair protected_line shared_line recipient_lines own_lines last_lines
  apart true rs p q = refl
  apart false [] p q = refl
  apart false (r ∷ rs) p q = refl

  -- 8 and 9.
  pub top_passes : Agree (object_order whole (entries_from 1 F)) []
  unfolding top_lines
  top_passes =
      let ls = top_lines general c o j in
      object_passes whole 1 F (map line_name ls) top_stands (table_sub ls)
      (few general c.recipients o.keys j.own) (apart general c.recipients o.keys j.own)

  -- Where each stands.

  lines_at : Every (LineAt whole 1 F) (table_with general c.recipients o.keys j.own)
  unfolding top_lines
  lines_at = table_at whole 1 (top_lines general c o j) (distinct general c.recipients o.keys j.own) top_stands

  last_at : Every (LineAt whole 1 F) (last_lines c o)
  last_at = every_back (LineAt whole 1 F) R (last_lines c o) lines_at.1.1

  abbrev Component : ℕ → List ℕ → Type 0
  Component k xs = ComponentAt whole 1 F k (is_there xs) xs

  pub protected_at_lem : Component shape.protected c.protected
  unfolding protected_line
  protected_at_lem = lines_at.0

  pub shared_at : HeaderAt whole 1 F shape.unprotected c.shared
  unfolding shared_line
  shared_at = lines_at.1.0

  pub aad_at_lem : Component shape.aad c.aad
  unfolding last_lines
  aad_at_lem = last_at.0

  pub iv_at_lem : Component shape.iv c.iv
  unfolding last_lines
  iv_at_lem = last_at.1.0

  pub ciphertext_at_lem : ComponentAt whole 1 F shape.ciphertext true c.ciphertext
  unfolding last_lines
  ciphertext_at_lem = last_at.1.1.0

  pub tag_at : Component shape.tag c.tag
  unfolding last_lines
  tag_at = last_at.1.1.1.0

  -- Which members are there.

  there : (k : ℕ) → present k (entries_from 1 F) ≡ any (has k) (table_with general c.recipients o.keys j.own)
  there k = present_from k 1 F ∙ table_has k (top_lines general c o j) ∙ ap (any (has k)) lines_are

  ciphertext_has : (g : Bool) (rs : List RawRecipient) (p : EveryOctets rs) (q : OwnJudged levels rs) →
      any (has shape.ciphertext) (table_with g rs p q) ≡ true
  unfolding any protected_line shared_line recipient_lines own_lines last_lines
  ciphertext_has true rs p q = refl
  ciphertext_has false [] p q = refl
  ciphertext_has false (r ∷ rs) p q = refl

  protected_has : (g : Bool) (rs : List RawRecipient) (p : EveryOctets rs) (q : OwnJudged levels rs) →
      any (has shape.protected) (table_with g rs p q) ≡ is_there c.protected
  unfolding any protected_line shared_line recipient_lines own_lines last_lines
  protected_has true rs p q = or_none (is_there c.protected)
  protected_has false [] p q = or_none (is_there c.protected)
  protected_has false (r ∷ rs) p q = or_none (is_there c.protected)

  recipients_has : (g : Bool) (rs : List RawRecipient) (p : EveryOctets rs) (q : OwnJudged levels rs) →
      any (has shape.recipients) (table_with g rs p q) ≡ g
  unfolding any protected_line shared_line recipient_lines own_lines last_lines
  recipients_has true rs p q = refl
  recipients_has false [] p q = refl
  recipients_has false (r ∷ rs) p q = refl

  -- General: no header and no key at the top level.
  not_both : (g : Bool) (rs : List RawRecipient) (p : EveryOctets rs) (q : OwnJudged levels rs) →
      (any (has shape.recipients) (table_with g rs p q)
      && (any (has shape.header) (table_with g rs p q) || any (has shape.encrypted_key) (table_with g rs p q)))
      ≡ false
  unfolding any protected_line shared_line recipient_lines own_lines last_lines
  not_both true rs p q = refl
  not_both false [] p q = refl
  not_both false (r ∷ rs) p q = refl

  pub protected_there : present shape.protected (entries_from 1 F) ≡ is_there c.protected
  protected_there = there shape.protected ∙ protected_has general c.recipients o.keys j.own

  pub general_there : present shape.recipients (entries_from 1 F) ≡ general
  general_there = there shape.recipients ∙ recipients_has general c.recipients o.keys j.own

  -- 10: a header without a member.

  top_hollow_lem : (g : Bool) (rs : List RawRecipient) (p : EveryOctets rs) (q : OwnJudged levels rs) →
      any hollow_line (table_with g rs p q) ≡ (hollow_text c.shared || top_hollow g rs)
  unfolding any protected_line shared_line recipient_lines own_lines last_lines
  top_hollow_lem true rs p q = refl
  top_hollow_lem false [] p q = refl
  top_hollow_lem false (r ∷ rs) p q = ap (λ b. hollow_text c.shared || b) (or_none (hollow_text r.header))

  pub top_shape : wrong_top whole (entries_from 1 F) ≡ (hollow_text c.shared || top_hollow general c.recipients)
  unfolding wrong_top
  top_shape =
      let rs = c.recipients in
      ap₂ ◌||◌
      (table_wrong whole 1 (top_lines general c o j) top_stands
      ∙ ap (any hollow_line) lines_are
      ∙ top_hollow_lem general rs o.keys j.own)
      (ap₂ ◌||◌ (ap not (there shape.ciphertext ∙ ciphertext_has general rs o.keys j.own))
      (ap₂ ◌&&◌ (there shape.recipients) (ap₂ ◌||◌ (there shape.header) (there shape.encrypted_key))
      ∙ not_both general rs o.keys j.own))
      ∙ or_none (hollow_text c.shared || top_hollow general rs)

  -- The entries that the reader has.
  module _ (d : deepest_field F ≤ shared_levels) where
    skips_none : skip_space whole 0 ≡ 0
    unfolding bracketed reader.skip pass_over
    skips_none = refl

    pub top_entries_lem : top_entries whole ≡ entries_from 1 F
    unfolding top_entries outermost
    top_entries_lem =
        ap (λ k. member_entries whole (members_at levels whole k)) skips_none
        ∙ object_entries F (stands_whole whole) (omega arith)

    -- General: the elements of `recipients`.

    array_at : (g : Bool) (rs : List RawRecipient) (p : EveryOctets rs) (q : OwnJudged levels rs) → g ≡ true →
        Every (LineAt whole 1 F) (recipient_lines g rs p q) → ArrayAt whole 1 F shape.recipients (elements_of rs p q)
    unfolding recipient_lines
    array_at true rs p q e h = h.0
    array_at false rs p q e h = absurd (true≢false (sym e))

    array_deep : (g : Bool) (rs : List RawRecipient) (p : EveryOctets rs) (q : OwnJudged levels rs) → g ≡ true →
        LinesWithin shared_levels (recipient_lines g rs p q) → suc (deepest_element (elements_of rs p q)) ≤ shared_levels
    unfolding recipient_lines
    array_deep true rs p q e h = h.0
    array_deep false rs p q e h = absurd (true≢false (sym e))

    deep : LinesWithin shared_levels R
    deep =
        let h = subst (LinesWithin shared_levels) lines_are ((table_deepest shared_levels (top_lines general c o j)).0 d) in
        every_front (λ (l : Line). Within shared_levels l.content) R (last_lines c o) h.1.1

    recipients_at_lem : Every (LineAt whole 1 F) R
    recipients_at_lem = every_front (LineAt whole 1 F) R (last_lines c o) lines_at.1.1

    pub elements_there : general ≡ true → Beside (ElementIs whole) (elements_in whole (top_entries whole)) c.recipients
    unfolding elements_in
    elements_there g =
        let xs = elements_of c.recipients o.keys j.own in
        let a = array_at general c.recipients o.keys j.own g recipients_at_lem in
        let b = array_deep general c.recipients o.keys j.own g deep in
        subst (λ z. Beside (ElementIs whole) z c.recipients)
        (sym (ap (λ es. elements_at levels whole (value_of shape.recipients es).start) top_entries_lem
        ∙ ap (elements_at levels whole) a.starts
        ∙ array_elements levels xs a.stands (omega arith)))
        (elements_are whole c.recipients o.keys j.own (a.from + 1) (omega arith) (array_texts xs a.stands))

    -- Flattened: the top level itself.
    one_members : (g : Bool) (rs : List RawRecipient) (p : EveryOctets rs) (q : OwnJudged levels rs) → g ≡ false → Counts g rs →
        Every (LineAt whole 1 F) (recipient_lines g rs p q) → Beside (MembersAre whole) (entries_from 1 F ∷ []) rs
    unfolding recipient_lines own_lines
    one_members true rs p q e k h = absurd (true≢false e)
    one_members false [] p q e k h = absurd k
    one_members false (r ∷ []) p q e k h = (members_are whole 1 F r p.0 q.0 h.0 h.1.0, tt)
    one_members false (r ∷ s ∷ rs) p q e k h = absurd k

    -- The members of each recipient.
    pub recipients_found : Counts general c.recipients → Beside (MembersAre whole) (member_lists whole) c.recipients
    unfolding member_lists
    recipients_found k = cases general refl
      where
        es : List Entry
        es = top_entries whole

        lists_for : Bool → List (List Entry)
        lists_for b = cond b (map (λ x. element_entries whole x.start) (elements_in whole es)) (es ∷ [])

        form : present shape.recipients es ≡ general
        form = ap (present shape.recipients) top_entries_lem ∙ general_there

        cases : (g : Bool) → general ≡ g → Beside (MembersAre whole) (member_lists whole) c.recipients
        cases true g =
            subst (λ b. Beside (MembersAre whole) (lists_for b) c.recipients) (sym (form ∙ g))
            (element_members whole (elements_in whole es) c.recipients (elements_there g))
        cases false g =
            subst (λ b. Beside (MembersAre whole) (lists_for b) c.recipients) (sym (form ∙ g))
            (subst (λ z. Beside (MembersAre whole) (z ∷ []) c.recipients) (sym top_entries_lem)
            (one_members general c.recipients o.keys j.own g k recipients_at_lem))

-- The recipients that the reader has are those of the members' lists.

map_twice : {A B C : Type 0} (f : A → B) (g : B → C) (xs : List A) → map (λ x. g (f x)) xs ≡ map g (map f xs)
map_twice f g [] = refl
map_twice f g (x ∷ xs) = ap (◌∷◌ (g (f x))) (map_twice f g xs)

pub recipients_listed : (message : List ℕ) → recipients_in message (top_entries message) ≡ map recipient_of (member_lists message)
unfolding recipients_in member_lists
recipients_listed message = cases (present shape.recipients (top_entries message))
  where
    es : List Entry
    es = top_entries message

    cases : (b : Bool) →
        cond b (map (λ x. recipient_of (element_entries message x.start)) (elements_in message es)) (recipient_of es ∷ [])
        ≡ map recipient_of (cond b (map (λ x. element_entries message x.start) (elements_in message es)) (es ∷ []))
    cases true = map_twice (λ x. element_entries message x.start) recipient_of (elements_in message es)
    cases false = refl
