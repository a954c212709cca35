-- The tests of the recipients one after the other, as the loop comes to them.
use mathlib.Core.Path.{◌≡◌, refl, ap, ap₂, sym, ◌∙◌}
use mathlib.Core.Bool.{Bool, true, false, cond}
use mathlib.Core.List.{List, [], ◌∷◌, ◌++◌, map, flat_map, append_assoc}
use mathlib.Core.Option.{Option, none}
use Prim.Native.Nat.{ℕ, ◌+◌, ◌<◌, ◌≤◌}
use native.Mathlib.Omega.{arith}
use lib.ListN.{length, drop, get_or}
use lib.Dec.{eqb}
use borrow.Author.Tests.{eq-eqb, ne_eqb, eqb-true, eqb-false}
use Rattle.prelude.specs.Any.{any}
use Rattle.prelude.specs.Refusals.{Test, ◌if◌, first, stage_of}
use Rattle.grammar.specs.Bounds.{Every}
use Rattle.rows.specs.Rows.{Entry, Texts, texts, spelled_value, value_in, present}
use Rattle.rows.proofs.Printing.{StandIn, entries_stand}
use Rattle.jose.specs.Registered.{registered, enc}
use Rattle.jose.specs.ContentAlgorithm.{content_algorithm, differ, differing}
use Rattle.jose.specs.Inner.Content.{named_in, shown_in}
use Rattle.std.specs.Prelude as code
use Rattle.prelude.specs.declared.Place.{Place}
use Rattle.jose.proofs.Alike.{any_made}
use Rattle.jose.proofs.ContentAlgorithm.{content_own, content_shown, content_shared, none_differing}
use Rattle.headers.specs.Headers.{outermost, protected_entries}
use Rattle.json_message.specs.Handed.{text_entries}
use Rattle.json_message.specs.Inner.PiecesOrder.{pieces_entries}
use Rattle.json_message.proofs.Agree.{agreed, agree_any}
use Rattle.prelude.proofs.Refusals.{nonzero, nonzero_append, first_append, first_skip}
use Rattle.prelude.specs.Refusals.{Passed, Refused}
use Rattle.parts.proofs.Laws.{part_length}
use Rattle.jose.specs.declared.Sizes.{Sizes}
use Rattle.headers.proofs.Stages.{object_nonzero, stopped, refuses, passes}
use Rattle.jwe.proofs.CompactOrder.{rules_nonzero}
use Rattle.recipients.specs.Table.{RawRecipient}
use Rattle.recipients.specs.Parsed.{said_count, body_start, header_length, key_length, recipient_at, recipients_in, sound_table}
use Rattle.recipients.specs.Inner.Answers.{body_at}
use Rattle.recipients.specs.declared.Body.{Body}
use Rattle.recipients.proofs.Places.{recipients_next, recipients_end, body_fits, sound_some}
use Rattle.json_judge.specs.Inner.Asked.{OwnReadable, Front, with_key_size, own_tests, rules_tests, content_in, recipients_tests}
use Rattle.json_judge.proofs.Tables.{text_stands}

-- Values that stand in the same texts are the same.
same_values : (ts us : Texts) (s w : List ℕ) (es fs : List Entry) → StandIn ts s es → StandIn us s es → StandIn ts w fs →
    StandIn us w fs → Every (λ e. value_in ts e ≡ value_in us e) (es ++ fs)
same_values ts us s w [] [] a b c d = tt
same_values ts us s w [] (f ∷ fs) a b c d = (
  ap (λ (l : List ℕ). spelled_value l f.member) (c.0 ∙ sym d.0),
  same_values ts us s w [] fs a b c.1 d.1,
)
same_values ts us s w (e ∷ es) fs a b c d = (
  ap (λ (l : List ℕ). spelled_value l e.member) (a.0 ∙ sym b.0),
  same_values ts us s w es fs a.1 b.1 c d,
)

-- Those of a recipient.

abbrev pub object_of : RawRecipient → List Test
object_of r = own_tests r.header

abbrev pub rules_of : List (List ℕ) → List ℕ → List ℕ → Sizes → RawRecipient → List Test
rules_of known header shared z r = rules_tests known header shared r.header (with_key_size z (length r.key))

-- Tests that are none of them 0, of all from the i-th on.
module _ (f : RawRecipient → List Test) (p : (r : RawRecipient) → nonzero (f r) ≡ true) where
  all_nonzero : (rs : List RawRecipient) → nonzero (flat_map f rs) ≡ true
  unfolding flat_map
  all_nonzero [] = refl
  all_nonzero (r ∷ rs) = nonzero_append (f r) (flat_map f rs) (p r) (all_nonzero rs)

  module _ (t : List ℕ) where
    next_first : (i n : ℕ) → i < said_count t → n ≡ first (f (recipient_at t i)) →
        first (flat_map f (drop i (recipients_in t))) ≡ cond (eqb n 0) (first (flat_map f (drop (i + 1) (recipients_in t)))) n
    unfolding flat_map
    next_first i n h e =
        ap (λ (rs : List RawRecipient). first (flat_map f rs)) (recipients_next t i h)
        ∙ first_append (f (recipient_at t i)) (flat_map f (drop (i + 1) (recipients_in t))) (p (recipient_at t i))
        ∙ ap (λ (k : ℕ). cond (eqb k 0) (first (flat_map f (drop (i + 1) (recipients_in t)))) k) (sym e)

    -- The first refusal, one recipient more: one that was found before stays.
    pub pending_next : (i n broken next : ℕ) → i < said_count t → n ≡ first (f (recipient_at t i)) →
        next ≡ cond (eqb broken 0) n broken →
        first (flat_map f (recipients_in t)) ≡ cond (eqb broken 0) (first (flat_map f (drop i (recipients_in t)))) broken →
        first (flat_map f (recipients_in t)) ≡ cond (eqb next 0) (first (flat_map f (drop (i + 1) (recipients_in t)))) next
    pending_next i n broken next h e is so = so ∙ cases (eqb broken 0) refl is
      where
        behind : ℕ
        behind = first (flat_map f (drop (i + 1) (recipients_in t)))

        cases : (b : Bool) → eqb broken 0 ≡ b → next ≡ cond b n broken →
            cond b (first (flat_map f (drop i (recipients_in t)))) broken ≡ cond (eqb next 0) behind next
        cases true b is = next_first i n h e ∙ ap (λ (k : ℕ). cond (eqb k 0) behind k) (sym is)
        cases false b is = sym (ap (λ (x : Bool). cond x behind broken) b) ∙ ap (λ (k : ℕ). cond (eqb k 0) behind k) (sym is)

    end_first : (i : ℕ) → said_count t ≤ i → first (flat_map f (drop i (recipients_in t))) ≡ 0
    unfolding first flat_map
    end_first i h = ap (λ (rs : List RawRecipient). first (flat_map f rs)) (recipients_end t i h)

-- 21, by the own headers: where its content algorithm stands, what is shown there, and whether that differs from the first one's.

abbrev pub named_by : RawRecipient → code.Option Place
named_by r = named_in (text_entries 2 r.header)

abbrev pub shown_by : RawRecipient → Option (List ℕ)
shown_by r = shown_in r.header (named_by r)

abbrev pub content_of : List ℕ → RawRecipient → List Test
content_of t r = 21 if differ (shown_by (recipient_at t 0)) (shown_by r) ∷ []

abbrev pub contents_from : List ℕ → ℕ → ℕ
contents_from t i = first (flat_map (content_of t) (drop i (recipients_in t)))

pub content_sound : (t : List ℕ) (r : RawRecipient) → nonzero (content_of t r) ≡ true
content_sound t r = refl

-- What the definition asks is asked of the own headers where no header that all share has `enc`; where one has, nothing is.
module _ (header shared : List ℕ) where
  abbrev front : List Entry
  front = protected_entries header ++ text_entries 1 shared

  abbrev its : RawRecipient → Option (List ℕ)
  its r = content_in header shared r.header

  its_is : (r : RawRecipient) →
      its r ≡ content_algorithm (texts header shared r.header) (front ++ text_entries 2 r.header)
  unfolding pieces_entries
  its_is r =
      ap (content_algorithm (texts header shared r.header))
      (sym (append_assoc (protected_entries header) (text_entries 1 shared) (text_entries 2 r.header)))

  own_alone : present enc front ≡ false → (r : RawRecipient) → its r ≡ shown_by r
  own_alone absent r =
      let ts = texts header shared r.header in
      its_is r
      ∙ content_own ts front (text_entries 2 r.header) absent
      ∙ content_shown ts r.header (text_entries 2 r.header) (text_stands ts 2 r.header refl)

  all_alone : present enc front ≡ false → (rs : List RawRecipient) → map its rs ≡ map shown_by rs
  all_alone absent [] = refl
  all_alone absent (r ∷ rs) = ap₂ ◌∷◌ (own_alone absent r) (all_alone absent rs)

  front_same : (a b : List ℕ) → Every (λ e. value_in (texts header shared a) e ≡ value_in (texts header shared b) e) front
  unfolding protected_entries
  front_same a b =
      let ts = texts header shared a in
      let us = texts header shared b in
      same_values ts us header shared (protected_entries header) (text_entries 1 shared)
      (entries_stand registered ts header 0 (outermost header) refl)
      (entries_stand registered us header 0 (outermost header) refl)
      (text_stands ts 1 shared refl) (text_stands us 1 shared refl)

  none_differs : present enc front ≡ true → (r q : RawRecipient) → differ (its r) (its q) ≡ false
  none_differs there r q =
      ap₂ differ (its_is r) (its_is q)
      ∙ content_shared (texts header shared r.header) (texts header shared q.header) front
      (text_entries 2 r.header) (text_entries 2 q.header) there (front_same r.header q.header)

  module _ (t : List ℕ) (sound : sound_table t ≡ true) where
    abbrev rs : List RawRecipient
    rs = recipients_in t

    -- The first of them.
    first_shown : get_or (map shown_by rs) 0 none ≡ shown_by (recipient_at t 0)
    first_shown =
        ap (λ (l : List RawRecipient). get_or (map shown_by l) 0 none)
        (recipients_next t 0 (omega (arith, sound_some t sound)))

    own_content_lem : first (21 if differing 0 (map shown_by rs) ∷ []) ≡ contents_from t 0
    unfolding differing
    own_content_lem =
        let x = shown_by (recipient_at t 0) in
        ap (λ (y : Option (List ℕ)). first (21 if any (differ y) (map shown_by rs) ∷ [])) first_shown
        ∙ ap (λ (b : Bool). first (21 if b ∷ [])) (sym (any_made shown_by (differ x) rs))
        ∙ sym (agreed (agree_any 21 (λ r. differ x (shown_by r)) rs))

    content_is : first (21 if differing 0 (map its rs) ∷ []) ≡ cond (present enc front) 0 (contents_from t 0)
    unfolding first
    content_is = cases (present enc front) refl
      where
        cases : (b : Bool) → present enc front ≡ b →
            first (21 if differing 0 (map its rs) ∷ []) ≡ cond b 0 (contents_from t 0)
        cases true e = ap (λ (b : Bool). first (21 if b ∷ [])) (none_differing its (none_differs e) 0 rs)
        cases false e =
            ap (λ (l : List (Option (List ℕ))). first (21 if differing 0 l ∷ [])) (all_alone e rs) ∙ own_content_lem

-- A key's length.
module _ (t : List ℕ) (sound : sound_table t ≡ true) (i : ℕ) (h : i < said_count t) (body : Body) (is : body ≡ body_at t i) where
  pub key_size_lem : body.key.len ≡ length (recipient_at t i).key
  unfolding body_at recipient_at
  key_size_lem =
      ap (λ (b : Body). b.key.len) is
      ∙ sym (part_length t (body_start t i + header_length t i) (key_length t i) (omega (arith, body_fits t sound i h)))

-- What is known before the i-th: the first entries of the table, which are all recipients', are there; those before passed
-- 8 and 9; the first refusal of one of them by the rules, and by 21; and where the first one's content algorithm stands.
pub record Walked (known : List (List ℕ)) (header shared : List ℕ) (z : Sizes) (t : List ℕ) (front size : ℕ) (table : List ℕ)
    (broken content : ℕ) (named : code.Option Place) (start i : ℕ) : Type 0 where
  pub within : i ≤ said_count t
  pub at : start ≡ body_start t i
  pub same : length table ≡ size
  pub kept : Front header shared front table
  pub readable : OwnReadable (drop i (recipients_in t))
  pub objects : first (flat_map object_of (recipients_in t)) ≡ first (flat_map object_of (drop i (recipients_in t)))
  pub rules : first (flat_map (rules_of known header shared z) (recipients_in t))
      ≡ cond (eqb broken 0) (first (flat_map (rules_of known header shared z) (drop i (recipients_in t)))) broken
  pub contents : contents_from t 0 ≡ cond (eqb content 0) (contents_from t i) content
  pub first_named : 0 < i → named ≡ named_by (recipient_at t 0)

-- Where the first one's content algorithm stands, behind the i-th.
pub named_next : (t : List ℕ) (i : ℕ) (named its next : code.Option Place) → next ≡ cond (eqb i 0) its named →
    its ≡ named_by (recipient_at t i) → (0 < i → named ≡ named_by (recipient_at t 0)) → next ≡ named_by (recipient_at t 0)
named_next t i named its next is here before = cases (eqb i 0) refl is
  where
    cases : (b : Bool) → eqb i 0 ≡ b → next ≡ cond b its named → next ≡ named_by (recipient_at t 0)
    cases true e is = is ∙ here ∙ ap (λ (k : ℕ). named_by (recipient_at t k)) (eqb-true i 0 e)
    cases false e is = let n = eqb-false i 0 e in is ∙ before (omega (arith, n))

module _ (known : List (List ℕ)) (header shared : List ℕ) (z : Sizes) (t : List ℕ) where
  object_sound : (r : RawRecipient) → nonzero (object_of r) ≡ true
  object_sound r = object_nonzero r.header _

  rules_sound : (r : RawRecipient) → nonzero (rules_of known header shared z r) ≡ true
  rules_sound r = rules_nonzero known _ _ _

  -- The first refusal of one from the i-th on.

  abbrev objects_from : ℕ → ℕ
  objects_from i = first (flat_map object_of (drop i (recipients_in t)))

  abbrev rules_from : ℕ → ℕ
  rules_from i = first (flat_map (rules_of known header shared z) (drop i (recipients_in t)))

  abbrev all : ℕ
  all = first (recipients_tests known header shared z (recipients_in t))

  -- A recipient is refused 8 or 9.
  pub object_stops : (i n k : ℕ) → i < said_count t → n ≡ first (object_of (recipient_at t i)) → (n ≡ 0 → ⊥) →
      objects_from 0 ≡ objects_from i → Refused n ≡ stage_of all k
  unfolding recipients_tests
  object_stops i n k h e some so =
      let here : objects_from 0 ≡ n =
      so ∙ next_first object_of object_sound t i n h e
      ∙ ap (λ (b : Bool). cond b (objects_from (i + 1)) n) (ne_eqb n 0 some) in
      let positive : 0 < n = omega (arith, some) in
      refuses k positive
      ∙ ap (λ (m : ℕ). stage_of m k)
      (sym (stopped (flat_map object_of (recipients_in t)) _ (all_nonzero object_of object_sound (recipients_in t)) n here positive))

  -- It passes them.
  pub object_passes : (i n : ℕ) → i < said_count t → n ≡ first (object_of (recipient_at t i)) → n ≡ 0 →
      objects_from 0 ≡ objects_from i → objects_from 0 ≡ objects_from (i + 1)
  object_passes i n h e zero so =
      so ∙ next_first object_of object_sound t i n h e
      ∙ ap (λ (b : Bool). cond b (objects_from (i + 1)) n) (eq-eqb n 0 zero)

  -- The first refusal by the rules, one recipient more.
  pub rules_next : (i n broken next : ℕ) → i < said_count t → n ≡ first (rules_of known header shared z (recipient_at t i)) →
      next ≡ cond (eqb broken 0) n broken →
      rules_from 0 ≡ cond (eqb broken 0) (rules_from i) broken → rules_from 0 ≡ cond (eqb next 0) (rules_from (i + 1)) next
  rules_next = pending_next (rules_of known header shared z) rules_sound t

  -- All were asked; and 21 is asked of all.
  module _ (sound : sound_table t ≡ true) (i broken content : ℕ) (done : said_count t ≤ i)
      (objects : objects_from 0 ≡ objects_from i)
      (rules : rules_from 0 ≡ cond (eqb broken 0) (rules_from i) broken)
      (contents : contents_from t 0 ≡ cond (eqb content 0) (contents_from t i) content)
      {has : Bool} (there : has ≡ present enc (protected_entries header ++ text_entries 1 shared)) where
    either : (n : ℕ) → cond (eqb n 0) 0 n ≡ n
    either n = cases (eqb n 0) refl
      where
        cases : (b : Bool) → eqb n 0 ≡ b → cond b 0 n ≡ n
        cases true e = sym (eqb-true n 0 e)
        cases false e = refl

    all_rules : rules_from 0 ≡ broken
    all_rules =
        rules ∙ ap (λ (k : ℕ). cond (eqb broken 0) k broken) (end_first (rules_of known header shared z) rules_sound t i done)
        ∙ either broken

    all_contents : contents_from t 0 ≡ content
    all_contents =
        contents ∙ ap (λ (k : ℕ). cond (eqb content 0) k content) (end_first (content_of t) (content_sound t) t i done)
        ∙ either content

    abbrev last : List Test
    last = 21 if differing 0 (map (λ r. content_in header shared r.header) (recipients_in t)) ∷ []

    all_is : all ≡ cond (eqb broken 0) (cond has 0 content) broken
    unfolding recipients_tests
    all_is =
        first_skip (flat_map object_of (recipients_in t)) _ (all_nonzero object_of object_sound (recipients_in t))
        (objects ∙ end_first object_of object_sound t i done)
        ∙ first_append (flat_map (rules_of known header shared z) (recipients_in t)) last
        (all_nonzero (rules_of known header shared z) rules_sound (recipients_in t))
        ∙ ap₂ (λ (k m : ℕ). cond (eqb k 0) m k) all_rules
        (content_is header shared t sound ∙ ap₂ (λ (b : Bool) (k : ℕ). cond b 0 k) (sym there) all_contents)

    pub all_refuse : (k refusal : ℕ) → refusal ≡ cond (eqb broken 0) (cond has 0 content) broken → (refusal ≡ 0 → ⊥) →
        Refused refusal ≡ stage_of all k
    all_refuse k refusal is some = refuses k (omega (arith, some)) ∙ ap (λ (m : ℕ). stage_of m k) (is ∙ sym all_is)

    pub all_pass : (k refusal : ℕ) → refusal ≡ cond (eqb broken 0) (cond has 0 content) broken → refusal ≡ 0 →
        Passed k ≡ stage_of all k
    all_pass k refusal is zero = passes (all_is ∙ sym is ∙ zero)
