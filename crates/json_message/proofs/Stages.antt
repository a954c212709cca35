-- The reader's order on a written message that reads, stage by stage, by its pieces.
use mathlib.Core.Path.{◌≡◌, refl, sym, ap, ap₂, subst, ◌∙◌}
use mathlib.Core.List.{List, [], ◌∷◌, ◌++◌, map, append_assoc, flat_map}
use mathlib.Core.Bool.{Bool, true, false, ◌||◌, cond}
use mathlib.Core.Option.{Option}
use Prim.Native.Nat.{ℕ, suc, ◌+◌, ◌≤◌, ◌<◌}
use native.Mathlib.Omega.{arith}
use lib.ListN.{length}
use lib.Dec.{eqb, ltb, leb}
use borrow.Author.Tests.{ne_eqb, le-ltb, lt-leb}
use Rattle.prelude.specs.Any.{any}
use Rattle.prelude.specs.Buffer.{AllBelow}
use Rattle.prelude.specs.Limits.{levels, most_recipients}
use Rattle.prelude.specs.Refusals.{Test, ◌if◌}
use Rattle.base64url.specs.Base64url.{encoded, decoded, decoded_length}
use Rattle.base64url.specs.Fault.{fault}
use Rattle.base64url.specs.Answers.{of_fault}
use Rattle.base64url.proofs.Laws.{decode_encode, length_back}
use Rattle.base64url.proofs.Acceptance.{encoding_accepted}
use Rattle.grammar.specs.Places as places
use Rattle.grammar.specs.Places.{Place}
use Rattle.grammar.specs.Reader.{skip_space, members_at}
use Rattle.rows.specs.Rows.{Entry, read_texts, present, value_of, entries_in}
use Rattle.jose.specs.declared.Sizes.{Sizes}
use Rattle.jose.specs.Registered.{registered}
use Rattle.jose.specs.HeaderRules.{recipient_order, is_empty}
use Rattle.jose.specs.ContentAlgorithm.{content_algorithm, differing}
use Rattle.jose.proofs.Alike.{Beside}
use Rattle.headers.specs.Components.{octets_at, misspelled, sizes_of}
use Rattle.headers.specs.Headers.{header_text, unread, text_order, outermost, protected_entries, members_of, header_entries}
use Rattle.headers.specs.Headers.{object_order}
use Rattle.shape.specs.Shape as shape
use Rattle.shape.specs.Shape.{component, wrong_top, wrong_elements}
use Rattle.shape.specs.Recipients.{top_of, top_entries, top_order, elements_in, element_order, elements_order, recipients_in}
use Rattle.shape.specs.Recipients.{components_in}
use Rattle.jwe.specs.General.{shared_entries, own_entries, parameters, all_places, any_misspelled, is_hollow, protected_order}
use Rattle.jwe.specs.General.{headers_order, recipients_order, content_of, content_order, json_spelled, json_later, json_order}
use Rattle.recipients.specs.Table.{RawRecipient}
use Rattle.json_text.proofs.Made.{deepest_field}
use Rattle.json_message.specs.JsonText.{RawMessage}
use Rattle.json_message.specs.Handed.{MessageOctets, text_entries, moved_entry, member_lists, is_there}
use Rattle.json_message.specs.Inner.Judged.{Judged, shared_levels, TextsJudged}
use Rattle.json_message.specs.Inner.PiecesOrder.{unread_inside, hollow_text, hollow_inside, protected_tests}
use Rattle.json_message.specs.Inner.PiecesOrder.{raw_sizes, objects_order, rules_of, raw_content, content_test}
use Rattle.json_message.specs.Inner.PiecesOrder.{parameters_order, pieces_order}
use Rattle.json_message.proofs.Readable.{Counts}
use Rattle.json_message.proofs.Agree.{Agree, agree_refl, agree_same, agree_trans, agree_append, agree_before, agree_pass}
use Rattle.json_message.proofs.Agree.{agree_test, agree_each, agree_or}
use Rattle.json_message.proofs.Moving.{header_moved}
use Rattle.json_message.proofs.FieldEntries.{or_none}
use Rattle.json_message.proofs.Parameters.{StandsIf, order_moved, recipient_pieces, content_pieces}
use Rattle.json_message.proofs.Located.{start_if}
use Rattle.json_message.proofs.Tables.{top_fields}
use Rattle.json_message.proofs.Elements.{RecipientIs, recipients_are, ElementIs, elements_agree, elements_objects}
use Rattle.json_message.proofs.Top.{top_hollow, whole, protected_at_lem, shared_at, aad_at_lem, iv_at_lem, ciphertext_at_lem, tag_at}
use Rattle.json_message.proofs.Top.{protected_there, general_there, top_passes, top_shape, top_entries_lem, elements_there}
use Rattle.json_message.proofs.Top.{recipients_found, recipients_listed}

-- A header's entries, where it stands

zero_not : (n : ℕ) → 1 ≤ n → eqb n 0 ≡ false
zero_not n h = ne_eqb n 0 (λ e. omega arith)

header_entries_lem : (s : List ℕ) (m o : ℕ) (w : List ℕ) → 1 ≤ m → StandsIf s m w → Judged levels w →
    header_entries s o (start_if m w) ≡ map (moved_entry m) (text_entries o w)
unfolding header_entries members_of text_entries entries_in
header_entries_lem s m o [] l h j = refl
header_entries_lem s m o (c ∷ w) l h j =
    ap (λ b. entries_in registered s o (cond b [] (members_at levels s (m + skip_space (c ∷ w) 0))))
    (zero_not (m + skip_space (c ∷ w) 0) (omega arith))
    ∙ header_moved h registered o j

-- Components

well_spelled : (s : List ℕ) (q : Place) (xs : List ℕ) → AllBelow 256 xs → octets_at s q ≡ encoded xs → misspelled s q ≡ false
unfolding misspelled
well_spelled s q xs b e = ap (λ t. of_fault (fault t) false true) e ∙ ap (λ f. of_fault f false true) (encoding_accepted xs b)

keys_spelled : (s : List ℕ) (qs : List shape.Recipient) (rs : List RawRecipient) → Beside (RecipientIs s) qs rs →
    any (misspelled s) (map (λ r. r.key) qs) ≡ false
unfolding any
keys_spelled s [] [] z = refl
keys_spelled s [] (r ∷ rs) z = absurd z
keys_spelled s (q ∷ qs) [] z = absurd z
keys_spelled s (q ∷ qs) (r ∷ rs) z =
    ap₂ ◌||◌ (well_spelled s q.key r.key z.0.octets z.0.key) (keys_spelled s qs rs z.1)

pub beside_length : {A B : Type 0} (R : A → B → Type 0) (xs : List A) (ys : List B) → Beside R xs ys → length xs ≡ length ys
beside_length R [] [] z = refl
beside_length R [] (y ∷ ys) z = absurd z
beside_length R (x ∷ xs) [] z = absurd z
beside_length R (x ∷ xs) (y ∷ ys) z = ap suc (beside_length R xs ys z.1)

-- How many octets a component decodes to that is the encoding of some.
size_back : (n : ℕ) (xs : List ℕ) → n ≡ length (encoded xs) → decoded_length n ≡ length xs
size_back n xs e = ap decoded_length e ∙ length_back xs

-- The elements' tests, where there are elements.
abbrev element_tests : Bool → List RawRecipient → List Test
element_tests true rs = 10 if any (λ r. hollow_text r.header) rs ∷ []
element_tests false rs = []

-- All tens in one.
tens : (g : Bool) (h : Bool) (rs : List RawRecipient) → Counts g rs →
    Agree (10 if (h || top_hollow g rs) ∷ element_tests g rs) (10 if (h || any (λ r. hollow_text r.header) rs) ∷ [])
unfolding any
tens true h rs n =
    agree_trans (agree_or 10 (h || false) (any (λ r. hollow_text r.header) rs))
    (agree_test 10 (ap (λ b. b || any (λ (r : RawRecipient). hollow_text r.header) rs) (or_none h)))
tens false h [] n = absurd n
tens false h (r ∷ []) n = agree_test 10 (ap (λ b. h || b) (sym (or_none (hollow_text r.header))))
tens false h (r ∷ s ∷ rs) n = absurd n

map_beside : {A B C : Type 0} (R : A → B → Type 0) (f : A → C) (g : B → C) → ((x : A) (y : B) → R x y → f x ≡ g y) →
    (xs : List A) (ys : List B) → Beside R xs ys → map f xs ≡ map g ys
map_beside R f g h [] [] z = refl
map_beside R f g h [] (y ∷ ys) z = absurd z
map_beside R f g h (x ∷ xs) [] z = absurd z
map_beside R f g h (x ∷ xs) (y ∷ ys) z = ap₂ ◌∷◌ (h x y z.0) (map_beside R f g h xs ys z.1)

not_empty : {A : Type 0} (R : A → RawRecipient → Type 0) (f : List A → Bool) →
    ((x : A) (xs : List A) → f (x ∷ xs) ≡ false) → (xs : List A) (rs : List RawRecipient) → Beside R xs rs → 1 ≤ length rs →
    f xs ≡ false
not_empty R f e [] [] z k = absurd (omega arith)
not_empty R f e [] (r ∷ rs) z k = absurd z
not_empty R f e (x ∷ xs) rs z k = e x xs

right_elements : (s : List ℕ) (xs : List places.Element) (rs : List RawRecipient) → Beside (ElementIs s) xs rs →
    1 ≤ length rs → wrong_elements xs ≡ false
unfolding wrong_elements
right_elements s xs rs z k =
    ap₂ ◌||◌ (not_empty (ElementIs s) is_empty (λ x ys. refl) xs rs z k) (elements_objects s xs rs z)

protected_tests_lem : (w : List ℕ) → cond (is_there w) (text_order w ++ (10 if is_hollow (outermost w) ∷ [])) [] ≡ protected_tests w
unfolding protected_tests
protected_tests_lem [] = refl
protected_tests_lem (c ∷ w) = refl

module _ (general : Bool) (c : RawMessage) (o : MessageOctets c) (j : TextsJudged levels levels c)
    (k : Counts general c.recipients) (d : deepest_field (top_fields general c o j) ≤ shared_levels) where
  abbrev W : List ℕ
  W = whole general c o j

  abbrev E : List Entry
  E = top_entries W

  abbrev pub Q : List shape.Recipient
  Q = recipients_in W E

  pub found : Beside (RecipientIs W) Q c.recipients
  found =
      subst (λ qs. Beside (RecipientIs W) qs c.recipients) (sym (recipients_listed W))
      (recipients_are W (member_lists W) c.recipients (recipients_found general c o j d k))

  pub header_is_lem : header_text W (top_of E).components.protected ≡ c.protected
  unfolding header_text
  header_is_lem =
      ap (λ es. decoded (octets_at W (component shape.protected es))) (top_entries_lem general c o j d)
      ∙ ap decoded (protected_at_lem general c o j).spelled
      ∙ decode_encode c.protected o.protected

  pub S : ℕ
  S = (shared_at general c o j).from

  pub shared_stands : StandsIf W S c.shared
  unfolding S
  shared_stands = (shared_at general c o j).stands

  pub shared_is : shared_entries W (top_of E) ≡ map (moved_entry S) (text_entries 1 c.shared)
  unfolding shared_entries S
  shared_is =
      ap (λ es. header_entries W 1 (value_of shape.unprotected es).start) (top_entries_lem general c o j d)
      ∙ ap (header_entries W 1) (shared_at general c o j).starts
      ∙ header_entries_lem W (shared_at general c o j).from 1 c.shared (shared_at general c o j).later
      (shared_at general c o j).stands j.shared

  pub own_is : (q : shape.Recipient) (r : RawRecipient) (h : RecipientIs W q r) → own_entries W q
      ≡ map (moved_entry h.from) (text_entries 2 r.header)
  unfolding own_entries
  own_is q r h =
      ap (header_entries W 2) h.header ∙ header_entries_lem W h.from 2 r.header h.later h.stands h.judged

  -- 7 to 11

  present_general : present shape.recipients E ≡ general
  present_general = ap (present shape.recipients) (top_entries_lem general c o j d) ∙ general_there general c o j

  stage_top : Agree (top_order W)
      (7 if unread W ∷ 10 if (hollow_text c.shared || top_hollow general c.recipients) ∷ [])
  unfolding top_order
  stage_top =
      agree_append (agree_refl {xs = 7 if unread W ∷ []})
      (subst (λ es. Agree (object_order W es ++ (10 if wrong_top W es ∷ []))
      (10 if (hollow_text c.shared || top_hollow general c.recipients) ∷ [])) (sym (top_entries_lem general c o j d))
      (agree_append (top_passes general c o j) (agree_test 10 (top_shape general c o j))))

  module _ (some : 1 ≤ length c.recipients) (few : length c.recipients ≤ most_recipients) where
    stage_elements : Agree (elements_order W E) (element_tests general c.recipients)
    unfolding elements_order
    stage_elements = cases general refl
      where
        xs : List places.Element
        xs = elements_in W E

        cases : (g : Bool) → general ≡ g → Agree (elements_order W E) (element_tests g c.recipients)
        cases true g =
            let z = elements_there general c o j d g in
            subst (λ b. Agree (cond b (10 if wrong_elements xs ∷ 11 if ltb most_recipients (length xs)
            ∷ flat_map (λ x. element_order W x.start) xs) []) (element_tests true c.recipients)) (sym (present_general ∙ g))
            (agree_append (agree_pass 10 (right_elements W xs c.recipients z some))
            (agree_append
            (agree_pass 11
            (le-ltb most_recipients (length xs) (omega (arith, beside_length (ElementIs W) xs c.recipients z))))
            (elements_agree W xs c.recipients z)))
        cases false g =
            subst (λ b. Agree (cond b (10 if wrong_elements xs ∷ 11 if ltb most_recipients (length xs)
            ∷ flat_map (λ x. element_order W x.start) xs) []) []) (sym (present_general ∙ g)) agree_refl

    stage_shape : Agree (top_order W ++ elements_order W E) (7 if unread W ∷ 10 if hollow_inside c ∷ [])
    unfolding hollow_inside
    stage_shape =
        agree_trans (agree_append stage_top stage_elements)
        (agree_append (agree_refl {xs = 7 if unread W ∷ []}) (tens general (hollow_text c.shared) c.recipients k))

  -- 5

  spelled_at_lem : (n : ℕ) (xs : List ℕ) {es : List Entry} → E ≡ es → AllBelow 256 xs → octets_at W (component n es) ≡ encoded xs →
      misspelled W (component n E) ≡ false
  spelled_at_lem n xs e b h = well_spelled W (component n E) xs b (ap (λ es. octets_at W (component n es)) e ∙ h)

  stage_spelled : any_misspelled W E ≡ false
  unfolding any_misspelled all_places any
  stage_spelled =
      let e = top_entries_lem general c o j d in
      ap₂ ◌||◌ (spelled_at_lem shape.protected c.protected e o.protected (protected_at_lem general c o j).spelled)
      (ap₂ ◌||◌ (spelled_at_lem shape.iv c.iv e o.iv (iv_at_lem general c o j).spelled)
      (ap₂ ◌||◌ (spelled_at_lem shape.aad c.aad e o.aad (aad_at_lem general c o j).spelled)
      (ap₂ ◌||◌ (spelled_at_lem shape.ciphertext c.ciphertext e o.ciphertext (ciphertext_at_lem general c o j).spelled)
      (ap₂ ◌||◌ (spelled_at_lem shape.tag c.tag e o.tag (tag_at general c o j).spelled)
      (keys_spelled W Q c.recipients found)))))

  -- 6, 7 and 10 on the protected header

  stage_protected : protected_order (top_of E) c.protected ≡ protected_tests c.protected
  unfolding protected_order
  stage_protected =
      ap (λ b. cond b (text_order c.protected ++ (10 if is_hollow (outermost c.protected) ∷ [])) [])
      (ap (present shape.protected) (top_entries_lem general c o j d) ∙ protected_there general c o j)
      ∙ protected_tests_lem c.protected

  -- 8 and 9 on each header

  stage_headers : Agree (headers_order c.protected W (top_of E) Q) (objects_order c)
  unfolding headers_order objects_order
  stage_headers =
      agree_append (agree_refl {xs = object_order c.protected (protected_entries c.protected)})
      (agree_append (agree_same (ap (object_order W) shared_is ∙ order_moved 0 W S c.shared shared_stands))
      (agree_each (RecipientIs W) (λ q. object_order W (own_entries W q))
      (λ r. object_order r.header (text_entries 2 r.header))
      (λ q r h. agree_same (ap (object_order W) (own_is q r h) ∙ order_moved 1 W h.from r.header h.stands)) Q
      c.recipients found))

  -- 12 to 18 for each recipient

  size_at : (n : ℕ) (xs : List ℕ) {es : List Entry} → E ≡ es → (component n es).size ≡ length (encoded xs) →
      decoded_length (component n E).size ≡ length xs
  size_at n xs e h = size_back (component n E).size xs (ap (λ es. (component n es).size) e ∙ h)

  sizes_are : (q : shape.Recipient) (r : RawRecipient) → RecipientIs W q r → sizes_of (components_in (top_of E) q) ≡ raw_sizes c r
  unfolding components_in
  sizes_are q r h =
      let e = top_entries_lem general c o j d in
      let key = size_back q.key.size r.key h.size in
      let iv = size_at shape.iv c.iv e (iv_at_lem general c o j).size in
      let ciphertext = size_at shape.ciphertext c.ciphertext e (ciphertext_at_lem general c o j).size in
      let tag = size_at shape.tag c.tag e (tag_at general c o j).size in
      λ i. record { key = key i; iv = iv i; ciphertext = ciphertext i; tag = tag i }

  -- 21

  one_content : (q : shape.Recipient) (r : RawRecipient) → RecipientIs W q r →
      content_of c.protected W (top_of E) q ≡ raw_content c r
  unfolding parameters
  one_content q r h =
      ap (λ (es : List Entry). content_algorithm (read_texts c.protected W) (protected_entries c.protected ++ es))
      (ap₂ ◌++◌ shared_is (own_is q r h))
      ∙ content_pieces c.protected W S h.from c.shared r.header shared_stands h.stands

  stage_content : content_order c.protected W (top_of E) Q ≡ content_test c ∷ []
  unfolding content_order content_test
  stage_content =
      ap (λ (l : List (Option (List ℕ))). 21 if differing 0 l ∷ [])
      (map_beside (RecipientIs W) (content_of c.protected W (top_of E)) (raw_content c) one_content Q c.recipients found)

  module _ (known : List (List ℕ)) where
    abbrev rules_in : shape.Recipient → List Test
    rules_in q =
        recipient_order known (read_texts c.protected W) (parameters c.protected W (top_of E) q)
        (sizes_of (components_in (top_of E) q))

    one_recipient : (q : shape.Recipient) (r : RawRecipient) → RecipientIs W q r → Agree (rules_in q) (rules_of known c r)
    unfolding parameters
    one_recipient q r h =
        agree_trans
        (agree_same (ap₂ (λ (es : List Entry) (z : Sizes).
        recipient_order known (read_texts c.protected W) (protected_entries c.protected ++ es) z)
        (ap₂ ◌++◌ shared_is (own_is q r h)) (sizes_are q r h)))
        (recipient_pieces c.protected W S h.from c.shared r.header shared_stands h.stands known (raw_sizes c r))

    stage_recipients : Agree (recipients_order known c.protected W (top_of E) Q) (flat_map (rules_of known c) c.recipients)
    unfolding recipients_order
    stage_recipients = agree_each (RecipientIs W) rules_in (rules_of known c) one_recipient Q c.recipients found

    -- The reader's order, from 7 on.
    module _ (some : 1 ≤ length c.recipients) (few : length c.recipients ≤ most_recipients) (recipient : ℕ)
        (below : recipient < length c.recipients) where
      until_spelled : Agree (json_spelled W) (7 if unread W ∷ 10 if hollow_inside c ∷ [])
      unfolding json_spelled
      until_spelled =
          agree_trans (agree_same (sym (append_assoc (top_order W) (elements_order W E) _)))
          (agree_before (stage_shape some few) (agree_pass 5 stage_spelled))

      later_with : List ℕ → List Test
      later_with header =
          protected_order (top_of E) header
          ++ (headers_order header W (top_of E) Q
          ++ (recipients_order known header W (top_of E) Q
          ++ (content_order header W (top_of E) Q ++ (19 if leb (length Q) recipient ∷ []))))

      later_is : json_later known W (top_of E) Q recipient ≡ later_with c.protected
      unfolding json_later later_with
      later_is = ap later_with header_is_lem

      after_spelled : Agree (json_later known W (top_of E) Q recipient) (protected_tests c.protected ++ parameters_order known c)
      unfolding parameters_order later_with
      after_spelled =
          let asked : leb (length Q) recipient ≡ false =
          lt-leb (length Q) recipient (omega (arith, beside_length (RecipientIs W) Q c.recipients found)) in
          agree_trans (agree_same later_is)
          (agree_append (agree_same stage_protected)
          (agree_append stage_headers
          (agree_append stage_recipients (agree_before (agree_same stage_content) (agree_pass 19 asked)))))

      pub reader_agrees : unread W ≡ unread_inside general c → Agree (json_order W known recipient) (pieces_order general known c)
      unfolding json_order pieces_order
      reader_agrees seven =
          agree_append
          (agree_trans until_spelled
          (agree_append (agree_test 7 seven) (agree_refl {xs = 10 if hollow_inside c ∷ []})))
          after_spelled
