-- The refusals of a JSON message, stage by stage: where a stage refuses, its number is the message's, and where it
-- passes, what
-- comes behind it decides. No test has the number 0, so that stages can be put one behind the other.
use mathlib.Core.Path.{◌≡◌, refl, ap, ap₂, sym, ◌∙◌}
use mathlib.Core.Bool.{Bool, true, false, cond}
use mathlib.Core.List.{List, [], ◌∷◌, ◌++◌, map, flat_map, append_assoc}
use mathlib.Core.Option.{Option}
use Prim.Native.Nat.{ℕ, ◌<◌}
use native.Mathlib.Omega.{arith}
use lib.ListN.{length}
use lib.Dec.{leb, ltb}
use Rattle.grammar.specs.Places.{Element}
use Rattle.rows.specs.Rows.{Entry, read_texts, present}
use Rattle.prelude.specs.Refusals.{Test, ◌if◌, first}
use Rattle.jose.specs.HeaderRules.{recipient_order}
use Rattle.jose.specs.ContentAlgorithm.{content_algorithm, differing}
use Rattle.prelude.proofs.Refusals.{nonzero, nonzero_append, first_fails, first_passes, first_skip, first_stop}
use Rattle.prelude.specs.Limits.{most_recipients}
use Rattle.headers.specs.Components.{Components, with_key, sizes_of}
use Rattle.headers.specs.Headers.{header_text, text_order, outermost, protected_entries, object_order}
use Rattle.shape.specs.Shape.{recipients, wrong_elements, Recipient}
use Rattle.shape.specs.Recipients.{top_entries, top_order, elements_in, element_order, elements_order, recipients_in}
use Rattle.shape.specs.Recipients.{Top, top_of, components_in}
use Rattle.jwe.specs.General.{shared_entries, own_entries, parameters, any_misspelled, is_hollow}
use Rattle.jwe.specs.General.{protected_order, headers_order, recipients_order, content_of, content_order}
use Rattle.jwe.specs.General.{json_spelled, json_later, json_order}
use Rattle.jwe.specs.Inner.Stages.{text_tests, protected_tests, own_tests, rule_tests, content_tests, ruled_tests}
use Rattle.jwe.specs.Inner.Stages.{all_tests, headed_order}
use Rattle.jwe.proofs.CompactOrder.{rules_nonzero}

-- A stage, and what comes behind it

module _ (xs ys : List Test) (p : nonzero xs ≡ true) where
  pub stop : {n : ℕ} → first xs ≡ n → 0 < n → first (xs ++ ys) ≡ n
  stop {n} e h = first_stop xs ys p (λ (z : first xs ≡ 0). omega (arith, z, e, h)) ∙ e

  pub skip : first xs ≡ 0 → first (xs ++ ys) ≡ first ys
  skip e = first_skip xs ys p e

-- No number is 0

pub nonzero_each : {A : Type 0} (f : A → List Test) → ((x : A) → nonzero (f x) ≡ true) → (xs : List A) →
    nonzero (flat_map f xs) ≡ true
unfolding flat_map
nonzero_each f each [] = refl
nonzero_each f each (x ∷ xs) = nonzero_append (f x) (flat_map f xs) (each x) (nonzero_each f each xs)

pub top_nonzero : (message : List ℕ) → nonzero (top_order message) ≡ true
unfolding top_order object_order
top_nonzero message = refl

element_nonzero : (message : List ℕ) (x : Element) → nonzero (element_order message x.start) ≡ true
unfolding element_order object_order
element_nonzero message x = refl

pub elements_nonzero : (message : List ℕ) (es : List Entry) → nonzero (elements_order message es) ≡ true
unfolding elements_order
elements_nonzero message es = cases (present recipients es)
  where
    behind : List Test
    behind = flat_map (λ (x : Element). element_order message x.start) (elements_in message es)

    each : nonzero behind ≡ true
    each =
        nonzero_each (λ (x : Element). element_order message x.start) (element_nonzero message)
        (elements_in message es)

    cases : (b : Bool) →
        nonzero (cond b
        (10 if wrong_elements (elements_in message es) ∷ 11 if ltb most_recipients (length (elements_in message es)) ∷ behind)
        [])
        ≡ true
    cases true = each
    cases false = refl

pub text_nonzero : (there : Bool) (header : List ℕ) → nonzero (text_tests there header) ≡ true
unfolding text_tests text_order
text_nonzero true header = refl
text_nonzero false header = refl

pub protected_nonzero : (there : Bool) (header : List ℕ) → nonzero (protected_tests there header) ≡ true
unfolding protected_tests object_order
protected_nonzero true header = refl
protected_nonzero false header = refl

pub object_nonzero : (s : List ℕ) (es : List Entry) → nonzero (object_order s es) ≡ true
unfolding object_order
object_nonzero s es = refl

pub own_nonzero : (message : List ℕ) (rs : List Recipient) → nonzero (own_tests message rs) ≡ true
unfolding own_tests
own_nonzero message rs =
    nonzero_each (λ (r : Recipient). object_order message (own_entries message r))
    (λ (r : Recipient). object_nonzero message (own_entries message r)) rs

pub content_nonzero : (header message : List ℕ) (front : List Entry) (rs : List Recipient) →
    nonzero (content_tests header message front rs) ≡ true
unfolding content_tests
content_nonzero header message front rs = refl

pub rule_nonzero : (known : List (List ℕ)) (header message : List ℕ) (front : List Entry) (q : Components)
    (rs : List Recipient) → nonzero (rule_tests known header message front q rs) ≡ true
unfolding rule_tests
rule_nonzero known header message front q rs =
    nonzero_each
    (λ (r : Recipient).
    recipient_order known (read_texts header message) (front ++ own_entries message r) (sizes_of (with_key q r.key)))
    (λ (r : Recipient). rules_nonzero known (read_texts header message) (front ++ own_entries message r) _) rs

-- The whole: top level, elements, components, and the rest

module _ (message : List ℕ) (known : List (List ℕ)) (recipient : ℕ) where
  abbrev es : List Entry
  es = top_entries message

  abbrev rest : List Test
  rest = json_later known message (top_of es) (recipients_in message es) recipient

  abbrev behind : List Test
  behind = 5 if any_misspelled message es ∷ rest

  pub json_is : json_order message known recipient ≡ top_order message ++ (elements_order message es ++ behind)
  unfolding json_order json_spelled
  json_is =
      let five = 5 if any_misspelled message es ∷ [] in
      append_assoc (top_order message) (elements_order message es ++ five) rest
      ∙ ap (λ (l : List Test). top_order message ++ l) (append_assoc (elements_order message es) five rest)

  pub json_top : {n : ℕ} → first (top_order message) ≡ n → 0 < n → first (json_order message known recipient) ≡ n
  json_top e h = ap first json_is ∙ stop (top_order message) _ (top_nonzero message) e h

  module _ (top : first (top_order message) ≡ 0) where
    past_top : first (json_order message known recipient) ≡ first (elements_order message es ++ behind)
    past_top = ap first json_is ∙ skip (top_order message) _ (top_nonzero message) top

    pub json_elements : {n : ℕ} → first (elements_order message es) ≡ n → 0 < n →
        first (json_order message known recipient) ≡ n
    json_elements e h = past_top ∙ stop (elements_order message es) behind (elements_nonzero message es) e h

    module _ (elements : first (elements_order message es) ≡ 0) where
      past_elements : first (json_order message known recipient) ≡ first behind
      past_elements = past_top ∙ skip (elements_order message es) behind (elements_nonzero message es) elements

      pub json_misspelled : any_misspelled message es ≡ true → first (json_order message known recipient) ≡ 5
      json_misspelled e = past_elements ∙ first_fails (5 if any_misspelled message es) rest e

      pub json_rest : any_misspelled message es ≡ false → first (json_order message known recipient) ≡ first rest
      json_rest e = past_elements ∙ first_passes (5 if any_misspelled message es) rest e

-- The rest: the protected header, the shared one, and what depends on the recipients

module _ (known : List (List ℕ)) (message : List ℕ) (t : Top) where
  abbrev pub header : List ℕ
  header = header_text message t.components.protected

  -- The parameters that are all recipients'.
  abbrev pub front : List Entry
  front = protected_entries header ++ shared_entries message t

  parameters_is : (r : Recipient) → parameters header message t r ≡ front ++ own_entries message r
  unfolding parameters
  parameters_is r = sym (append_assoc (protected_entries header) (shared_entries message t) (own_entries message r))

  rules_is : (rs : List Recipient) → recipients_order known header message t rs ≡ rule_tests known header message front t.components rs
  unfolding recipients_order rule_tests components_in flat_map
  rules_is [] = refl
  rules_is (r ∷ rs) =
      ap₂ ◌++◌
      (ap (λ (ps : List Entry). recipient_order known (read_texts header message) ps (sizes_of (with_key t.components r.key)))
      (parameters_is r))
      (rules_is rs)

  contents_are : (rs : List Recipient) →
      map (content_of header message t) rs
      ≡ map (λ r. content_algorithm (read_texts header message) (front ++ own_entries message r)) rs
  contents_are [] = refl
  contents_are (r ∷ rs) =
      ap₂ ◌∷◌ (ap (content_algorithm (read_texts header message)) (parameters_is r)) (contents_are rs)

  content_is : (rs : List Recipient) → content_order header message t rs ≡ content_tests header message front rs
  unfolding content_order content_tests
  content_is rs = ap (λ (l : List (Option (List ℕ))). 21 if differing 0 l ∷ []) (contents_are rs)

  module _ (rs : List Recipient) (recipient : ℕ) where
    pub shaped_is : json_later known message t rs recipient
        ≡ text_tests t.protected header
        ++ (protected_tests t.protected header
        ++ (object_order message (shared_entries message t) ++ headed_order known header message front t.components rs recipient))
    unfolding json_later protected_order headers_order text_tests protected_tests text_order object_order headed_order all_tests own_tests ruled_tests
    shaped_is = cases t.protected
      where
        asks : List Test
        asks = 19 if leb (length rs) recipient ∷ []

        tail_is : own_tests message rs ++ (recipients_order known header message t rs ++ (content_order header message t rs ++ asks))
            ≡ headed_order known header message front t.components rs recipient
        tail_is =
            let rules = rule_tests known header message front t.components rs in
            let content = content_tests header message front rs in
            ap₂ (λ (g k : List Test). own_tests message rs ++ (g ++ (k ++ asks))) (rules_is rs) (content_is rs)
            ∙ ap (λ (l : List Test). own_tests message rs ++ l) (sym (append_assoc rules content asks))
            ∙ sym (append_assoc (own_tests message rs) (rules ++ content) asks)

        cases : (b : Bool) →
            cond b (text_order header ++ (10 if is_hollow (outermost header) ∷ [])) []
            ++ (headers_order header message t rs
            ++ (recipients_order known header message t rs
            ++ (content_order header message t rs ++ (19 if leb (length rs) recipient ∷ []))))
            ≡ text_tests b header
            ++ (protected_tests b header
            ++ (object_order message (shared_entries message t) ++ headed_order known header message front t.components rs recipient))
        cases true =
            ap (λ (g : List Test).
            text_order header
            ++ (10 if is_hollow (outermost header)
            ∷ (object_order header (protected_entries header) ++ (object_order message (shared_entries message t) ++ g))))
            tail_is
        cases false =
            ap (λ (g : List Test).
            object_order header (protected_entries header) ++ (object_order message (shared_entries message t) ++ g))
            tail_is
