-- The tests of a JSON message taken apart: none refuses exactly where none of each stage does, and a stage's tests are
-- those of each header, component and recipient.
use mathlib.Core.Path.{◌≡◌, refl, sym, subst}
use mathlib.Core.Bool.{false}
use mathlib.Core.Logic.{◌↔◌}
use mathlib.Core.List.{List, [], ◌∷◌, ◌++◌, map, flat_map}
use Prim.Native.Nat.{ℕ}
use lib.ListN.{length}
use lib.Dec.{leb}
use Rattle.grammar.specs.Bounds.{Every}
use Rattle.prelude.specs.Any.{any}
use Rattle.rows.specs.Rows.{Entry, read_texts}
use Rattle.prelude.specs.Refusals.{Test, ◌if◌, first}
use Rattle.jose.specs.HeaderRules.{recipient_order}
use Rattle.jose.specs.ContentAlgorithm.{differing}
use Rattle.headers.specs.Components.{misspelled, sizes_of}
use Rattle.headers.specs.Headers.{unread, header_text, protected_entries, object_order}
use Rattle.shape.specs.Shape.{component, wrong_top, Recipient}
use Rattle.shape.specs.Recipients.{top_of, top_entries, top_order, elements_order, recipients_in, components_in}
use Rattle.jwe.specs.General.{shared_entries, own_entries, parameters, all_places, any_misspelled, protected_order}
use Rattle.jwe.specs.General.{headers_order, recipients_order, content_of, content_order, json_later, json_order}
use Rattle.jwe.proofs.JsonOrder.{json_is}
use Rattle.meets.proofs.Deciding.{any_every}
use Rattle.meets.proofs.Orders.{Numbered, numbered_append, numbered_flat, none_append, none_one, none_flat}
use Rattle.meets.proofs.Orders.{every_made}
use Rattle.meets.proofs.RecipientsDecided.{elements_numbered}
use Rattle.meets.proofs.ProtectedDecided.{protected_numbered}

-- 8 and 9.
object_numbered : (s : List ℕ) (es : List Entry) → Numbered (object_order s es)
unfolding object_order any
object_numbered s es = refl

-- 7 to 10 on the top level

top_numbered : (message : List ℕ) → Numbered (top_order message)
unfolding top_order object_order any
top_numbered message = refl

pub top_passes : (message : List ℕ) →
    (first (top_order message) ≡ 0)
    ↔ ((unread message ≡ false)
    × ((first (object_order message (top_entries message)) ≡ 0) × (wrong_top message (top_entries message) ≡ false)))
unfolding top_order any
top_passes message =
    let es = top_entries message in
    let last : List Test = 10 if wrong_top message es ∷ [] in
    let n = object_numbered message es in
    let a = none_append (7 if unread message ∷ []) (object_order message es ++ last) refl
    (numbered_append (object_order message es) last n refl) in
    let b = none_append (object_order message es) last n refl in
    let c = none_one 7 (unread message) refl in
    let d = none_one 10 (wrong_top message es) refl in (
      (λ e. let h = a.0 e in let g = b.0 h.1 in (c.0 h.0, (g.0, d.0 g.1))),
      (λ h. a.1 (c.1 h.0, b.1 (h.1.0, d.1 h.1.1))),
    )

-- 5 on every component.
pub components_pass : (message : List ℕ) (es : List Entry) →
    (any_misspelled message es ≡ false)
    ↔ ((misspelled message (component 1 es) ≡ false)
    × ((misspelled message (component 6 es) ≡ false)
    × ((misspelled message (component 7 es) ≡ false)
    × ((misspelled message (component 8 es) ≡ false)
    × ((misspelled message (component 9 es) ≡ false)
    × Every (λ r. misspelled message r.key ≡ false) (recipients_in message es))))))
unfolding any_misspelled all_places
components_pass message es =
    let rs = recipients_in message es in
    let a = any_every (misspelled message) (λ q. misspelled message q ≡ false) (λ q. ((λ e. e), (λ e. e)))
    (all_places (top_of es).components rs) in
    let b = every_made (λ (r : Recipient). r.key) (λ q. misspelled message q ≡ false) rs in (
      (λ e.
          let h = a.0 e in
          (h.0, (h.1.0, (h.1.1.0, (h.1.1.1.0, (h.1.1.1.1.0, b.0 h.1.1.1.1.1)))))),
      (λ h.
          a.1 (h.0, (h.1.0, (h.1.1.0, (h.1.1.1.0, (h.1.1.1.1.0, b.1 h.1.1.1.1.1)))))),
    )

module _ (header message : List ℕ) (es : List Entry) (rs : List Recipient) where
  -- 8 and 9 on each header

  abbrev own_order : Recipient → List Test
  own_order r = object_order message (own_entries message r)

  owns_numbered : Numbered (flat_map own_order rs)
  owns_numbered = numbered_flat own_order (λ r. object_numbered message (own_entries message r)) rs

  shared_numbered : Numbered (object_order message (shared_entries message (top_of es)) ++ flat_map own_order rs)
  shared_numbered =
      numbered_append (object_order message (shared_entries message (top_of es))) (flat_map own_order rs)
      (object_numbered message (shared_entries message (top_of es))) owns_numbered

  headers_numbered : Numbered (headers_order header message (top_of es) rs)
  unfolding headers_order
  headers_numbered =
      numbered_append (object_order header (protected_entries header))
      (object_order message (shared_entries message (top_of es)) ++ flat_map own_order rs)
      (object_numbered header (protected_entries header)) shared_numbered

  pub headers_pass : (first (headers_order header message (top_of es) rs) ≡ 0)
      ↔ ((first (object_order header (protected_entries header)) ≡ 0)
      × ((first (object_order message (shared_entries message (top_of es))) ≡ 0)
      × Every (λ r. first (object_order message (own_entries message r)) ≡ 0) rs))
  unfolding headers_order
  headers_pass =
      let a = none_append (object_order header (protected_entries header))
      (object_order message (shared_entries message (top_of es)) ++ flat_map own_order rs)
      (object_numbered header (protected_entries header)) shared_numbered in
      let b = none_append (object_order message (shared_entries message (top_of es))) (flat_map own_order rs)
      (object_numbered message (shared_entries message (top_of es))) owns_numbered in
      let c = none_flat own_order (λ r. object_numbered message (own_entries message r)) rs in (
        (λ e. let h = a.0 e in let g = b.0 h.1 in (h.0, (g.0, c.0 g.1))),
        (λ h. a.1 (h.0, b.1 (h.1.0, c.1 h.1.1))),
      )

  -- 12 to 18 on each recipient
  module _ (known : List (List ℕ)) where
    abbrev rules_order : Recipient → List Test
    rules_order r =
        recipient_order known (read_texts header message) (parameters header message (top_of es) r)
        (sizes_of (components_in (top_of es) r))

    rules_numbered : (r : Recipient) → Numbered (rules_order r)
    unfolding recipient_order any
    rules_numbered r = refl

    recipients_numbered : Numbered (recipients_order known header message (top_of es) rs)
    unfolding recipients_order
    recipients_numbered = numbered_flat rules_order rules_numbered rs

    pub recipients_pass : (first (recipients_order known header message (top_of es) rs) ≡ 0)
        ↔ Every
        (λ r.
        first (recipient_order known (read_texts header message) (parameters header message (top_of es) r)
        (sizes_of (components_in (top_of es) r)))
        ≡ 0)
        rs
    unfolding recipients_order
    recipients_pass = none_flat rules_order rules_numbered rs

-- All stages

module _ (known : List (List ℕ)) (message : List ℕ) (recipient : ℕ) where
  abbrev es : List Entry
  es = top_entries message

  abbrev rs : List Recipient
  rs = recipients_in message es

  abbrev header : List ℕ
  header = header_text message (component 1 es)

  -- Each stage passes.
  pub record Passed : Type 0 where
    pub top : first (top_order message) ≡ 0
    pub elements : first (elements_order message (top_entries message)) ≡ 0
    pub spelled : any_misspelled message (top_entries message) ≡ false
    pub protected :
        first (protected_order (top_of (top_entries message)) (header_text message (component 1 (top_entries message)))) ≡ 0
    pub headers :
        first
        (headers_order (header_text message (component 1 (top_entries message))) message (top_of (top_entries message))
        (recipients_in message (top_entries message)))
        ≡ 0
    pub rules :
        first
        (recipients_order known (header_text message (component 1 (top_entries message))) message (top_of (top_entries message))
        (recipients_in message (top_entries message)))
        ≡ 0
    pub content :
        differing 0
        (map (content_of (header_text message (component 1 (top_entries message))) message (top_of (top_entries message)))
        (recipients_in message (top_entries message)))
        ≡ false
    pub asked : leb (length (recipients_in message (top_entries message))) recipient ≡ false

  -- What is left after each stage.

  abbrev after_content : List Test
  after_content = 19 if leb (length rs) recipient ∷ []

  abbrev after_rules : List Test
  after_rules = content_order header message (top_of es) rs ++ after_content

  abbrev after_headers : List Test
  after_headers = recipients_order known header message (top_of es) rs ++ after_rules

  abbrev after_protected : List Test
  after_protected = headers_order header message (top_of es) rs ++ after_headers

  abbrev after_spelled : List Test
  after_spelled = protected_order (top_of es) header ++ after_protected

  abbrev after_elements : List Test
  after_elements = 5 if any_misspelled message es ∷ after_spelled

  rules_left : Numbered after_rules
  unfolding any content_order
  rules_left = refl

  headers_left_lem : Numbered after_headers
  headers_left_lem =
      numbered_append (recipients_order known header message (top_of es) rs) after_rules
      (recipients_numbered header message es rs known) rules_left

  protected_left : Numbered after_protected
  protected_left =
      numbered_append (headers_order header message (top_of es) rs) after_headers (headers_numbered header message es rs)
      headers_left_lem

  spelled_left : Numbered after_spelled
  spelled_left =
      numbered_append (protected_order (top_of es) header) after_protected (protected_numbered es header) protected_left

  elements_left : Numbered after_elements
  unfolding any
  elements_left = spelled_left

  order_is : json_order message known recipient ≡ top_order message ++ (elements_order message es ++ after_elements)
  unfolding json_later
  order_is = json_is message known recipient

  stages_pass : (first (top_order message ++ (elements_order message es ++ after_elements)) ≡ 0) ↔ Passed
  unfolding any content_order
  stages_pass =
      let a = none_append (top_order message) (elements_order message es ++ after_elements) (top_numbered message)
      (numbered_append (elements_order message es) after_elements (elements_numbered message es) elements_left) in
      let b = none_append (elements_order message es) after_elements (elements_numbered message es) elements_left in
      let c = none_append (5 if any_misspelled message es ∷ []) after_spelled refl spelled_left in
      let d = none_append (protected_order (top_of es) header) after_protected (protected_numbered es header) protected_left in
      let e = none_append (headers_order header message (top_of es) rs) after_headers (headers_numbered header message es rs)
      headers_left_lem in
      let f = none_append (recipients_order known header message (top_of es) rs) after_rules
      (recipients_numbered header message es rs known) rules_left in
      let g = none_append (content_order header message (top_of es) rs) after_content refl refl in
      let five = none_one 5 (any_misspelled message es) refl in
      let same = none_one 21 (differing 0 (map (content_of header message (top_of es)) rs)) refl in
      let last = none_one 19 (leb (length rs) recipient) refl in (
        (λ t.
            let u = a.0 t in
            let v = b.0 u.1 in
            let w = c.0 v.1 in
            let x = d.0 w.1 in
            let y = e.0 x.1 in
            let z = f.0 y.1 in
            let k = g.0 z.1 in
            record {
              top = u.0;
              elements = v.0;
              spelled = five.0 w.0;
              protected = x.0;
              headers = y.0;
              rules = z.0;
              content = same.0 k.0;
              asked = last.0 k.1;
            }),
        (λ p.
            a.1 (
              p.top,
              b.1 (
                p.elements,
                c.1 (
                  five.1 p.spelled,
                  d.1 (
                    p.protected,
                    e.1 (p.headers, f.1 (p.rules, g.1 (same.1 p.content, last.1 p.asked))),
                  ),
                ),
              ),
            )),
      )

  pub json_passes : (first (json_order message known recipient) ≡ 0) ↔ Passed
  json_passes = subst (λ (l : List Test). (first l ≡ 0) ↔ Passed) (sym order_is) stages_pass
