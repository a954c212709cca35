-- What a JSON message has passed that no test of its order refuses: the single tests that its rows are read off from.
use mathlib.Core.Path.{◌≡◌, refl, ap, sym, ◌∙◌}
use mathlib.Core.Bool.{Bool, true, false, cond}
use mathlib.Core.List.{List, [], ◌∷◌, ◌++◌, flat_map}
use Prim.Native.Nat.{ℕ, ◌≤◌, ◌<◌}
use lib.ListN.{length}
use lib.Dec.{leb, ltb}
use borrow.Author.Tests.{leb-false, ltb-false}
use Rattle.grammar.specs.Places.{Element}
use Rattle.grammar.specs.Bounds.{Every}
use Rattle.prelude.specs.Any.{any}
use Rattle.rows.specs.Rows.{Entry, Texts, one_text, present, repeated}
use Rattle.prelude.specs.Refusals.{Test, ◌if◌, first}
use Rattle.jose.specs.declared.Sizes.{Sizes}
use Rattle.jose.specs.HeaderRules.{recipient_order}
use Rattle.prelude.specs.Limits.{most_recipients}
use Rattle.headers.specs.Headers.{header_text, too_long, unread, text_order, outermost, protected_entries, object_order}
use Rattle.shape.specs.Shape.{protected, recipients, component, wrong_top, wrong_elements, Recipient}
use Rattle.shape.specs.Recipients.{top_of, top_entries, top_order, elements_in, element_order, elements_order, recipients_in}
use Rattle.jwe.specs.General.{any_misspelled, shared_entries, own_entries, is_hollow, protected_order, headers_order}
use Rattle.jwe.specs.General.{recipients_order, content_order, json_later, json_order}
use Rattle.jwe.proofs.JsonOrder.{json_is}
use Rattle.meets.proofs.Deciding.{any_append, every_map, first_none}
use Rattle.meets.proofs.InOrder.{unnumbered, first_append}

-- A test that does not refuse.
abbrev pub Passes : Test → Type 0
Passes t = t.fails ≡ false

-- Each header has at most 32 parameters.
abbrev pub FewIn : List ℕ → List ℕ → List Entry → List Recipient → Type 0
FewIn header message es rs =
    (length (protected_entries header) ≤ 32)
    × (length (shared_entries message (top_of es)) ≤ 32)
    × Every (λ (r : Recipient). length (own_entries message r) ≤ 32) rs

pub record Passed (message : List ℕ) (recipient : ℕ) (es : List Entry) : Type 0 where
  pub repeats : repeated false (one_text message) es ≡ false
  pub top : wrong_top message es ≡ false
  pub elements : present recipients es ≡ true →
      (wrong_elements (elements_in message es) ≡ false)
      × Every (λ (x : Element). Every Passes (element_order message x.start)) (elements_in message es)
  pub spelled : any_misspelled message es ≡ false
  pub few : FewIn (header_text message (component protected es)) message es (recipients_in message es)
  pub protected : present protected es ≡ true →
      (too_long (header_text message (component protected es)) ≡ false)
      × (unread (header_text message (component protected es)) ≡ false)
  pub asked : recipient < length (recipients_in message es)

-- No test has the number 0.

each_numbered : {A : Type 0} (f : A → List Test) → ((x : A) → any unnumbered (f x) ≡ false) → (xs : List A) →
    any unnumbered (flat_map f xs) ≡ false
unfolding flat_map any
each_numbered f h [] = refl
each_numbered f h (x ∷ xs) = (any_append unnumbered (f x) (flat_map f xs)).1 (h x, each_numbered f h xs)

if_numbered : (b : Bool) (ts : List Test) → any unnumbered ts ≡ false → any unnumbered (cond b ts []) ≡ false
unfolding any
if_numbered true ts h = h
if_numbered false ts h = refl

element_numbered : (message : List ℕ) (start : ℕ) → any unnumbered (element_order message start) ≡ false
unfolding any element_order object_order
element_numbered message start = refl

object_numbered : (s : List ℕ) (es : List Entry) → any unnumbered (object_order s es) ≡ false
unfolding any object_order
object_numbered s es = refl

recipient_numbered : (known : List (List ℕ)) (ts : Texts) (es : List Entry) (z : Sizes) →
    any unnumbered (recipient_order known ts es z) ≡ false
unfolding any recipient_order
recipient_numbered known ts es z = refl

-- The tests on the elements of `recipients`.
abbrev in_elements : List ℕ → List Element → List Test
in_elements message xs = flat_map (λ (x : Element). element_order message x.start) xs

present_numbered : (message : List ℕ) (xs : List Element) →
    any unnumbered
    (10 if wrong_elements xs ∷ 11 if ltb most_recipients (length xs) ∷ in_elements message xs) ≡ false
unfolding any
present_numbered message xs = each_numbered _ (λ (x : Element). element_numbered message x.start) xs

elements_numbered : (message : List ℕ) (es : List Entry) → any unnumbered (elements_order message es) ≡ false
unfolding elements_order
elements_numbered message es = if_numbered (present recipients es) _ (present_numbered message (elements_in message es))

protected_numbered : (es : List Entry) (header : List ℕ) → any unnumbered (protected_order (top_of es) header) ≡ false
unfolding any protected_order text_order
protected_numbered es header = if_numbered (present protected es) _ refl

headers_numbered : (header message : List ℕ) (es : List Entry) (rs : List Recipient) →
    any unnumbered (headers_order header message (top_of es) rs) ≡ false
unfolding any headers_order object_order
headers_numbered header message es rs =
    each_numbered (λ r. object_order message (own_entries message r))
    (λ r. object_numbered message (own_entries message r)) rs

recipients_numbered : (known : List (List ℕ)) (header message : List ℕ) (es : List Entry) (rs : List Recipient) →
    any unnumbered (recipients_order known header message (top_of es) rs) ≡ false
unfolding recipients_order
recipients_numbered known header message es rs = each_numbered _ (λ r. recipient_numbered known _ _ _) rs

-- What passes of lists of tests.

every_split : {A : Type 0} (P : A → Type 0) (xs ys : List A) → Every P (xs ++ ys) → Every P xs × Every P ys
every_split P [] ys h = (tt, h)
every_split P (x ∷ xs) ys h = let r = every_split P xs ys h.1 in ((h.0, r.0), r.1)

every_each : {A : Type 0} (f : A → List Test) (xs : List A) → Every Passes (flat_map f xs) →
    Every (λ x. Every Passes (f x)) xs
unfolding flat_map
every_each f [] h = tt
every_each f (x ∷ xs) h = let r = every_split Passes (f x) (flat_map f xs) h in (r.0, every_each f xs r.1)

elements_passed : (message : List ℕ) (es : List Entry) → first (elements_order message es) ≡ 0 →
    present recipients es ≡ true →
    (wrong_elements (elements_in message es) ≡ false)
    × Every (λ (x : Element). Every Passes (element_order message x.start)) (elements_in message es)
unfolding elements_order
elements_passed message es e p =
    let xs = elements_in message es in
    let ts : List Test =
    10 if wrong_elements xs ∷ 11 if ltb most_recipients (length xs) ∷ in_elements message xs in
    let h = (first_none ts (present_numbered message xs)).0 (ap (λ (b : Bool). first (cond b ts [])) (sym p) ∙ e) in
    (h.0, every_each _ xs h.1.1)

protected_passed : (es : List Entry) (header : List ℕ) → first (protected_order (top_of es) header) ≡ 0 →
    present protected es ≡ true → (too_long header ≡ false) × (unread header ≡ false)
unfolding protected_order text_order any
protected_passed es header e p =
    let ts : List Test = text_order header ++ (10 if is_hollow (outermost header) ∷ []) in
    let h = (first_none ts refl).0 (ap (λ (b : Bool). first (cond b ts [])) (sym p) ∙ e) in
    (h.0, h.1.0)

headers_passed : (header message : List ℕ) (es : List Entry) (rs : List Recipient) →
    first (headers_order header message (top_of es) rs) ≡ 0 → FewIn header message es rs
unfolding headers_order object_order
headers_passed header message es rs e =
    let h = (first_none (headers_order header message (top_of es) rs) (headers_numbered header message es rs)).0 e in (
      ltb-false 32 (length (protected_entries header)) h.0,
      ltb-false 32 (length (shared_entries message (top_of es))) h.1.1.0,
      every_map (λ (r : Recipient). Every Passes (object_order message (own_entries message r)))
          (λ (r : Recipient). length (own_entries message r) ≤ 32)
          (λ r p. ltb-false 32 (length (own_entries message r)) p.0) rs
          (every_each (λ (r : Recipient). object_order message (own_entries message r)) rs h.1.1.1.1),
    )

-- All of them.
module _ (known : List (List ℕ)) (message : List ℕ) (recipient : ℕ)
    (accepted : first (json_order message known recipient) ≡ 0) where
  pub json_passed : (unread message ≡ false) × Passed message recipient (top_entries message)
  unfolding json_later top_order object_order content_order any
  json_passed =
      let es = top_entries message in
      let rs = recipients_in message es in
      let header = header_text message (component protected es) in
      let a = (first_append (top_order message) _ refl).0 (sym (ap first (json_is message known recipient)) ∙ accepted) in
      let b = (first_append (elements_order message es) _ (elements_numbered message es)).0 a.1 in
      let c = (first_append (5 if any_misspelled message es ∷ []) _ refl).0 b.1 in
      let d = (first_append (protected_order (top_of es) header) _ (protected_numbered es header)).0 c.1 in
      let f = (first_append (headers_order header message (top_of es) rs) _ (headers_numbered header message es rs)).0 d.1 in
      let g =
      (first_append (recipients_order known header message (top_of es) rs) _
      (recipients_numbered known header message es rs)).0 f.1 in
      let k =
      (first_append (content_order header message (top_of es) rs) (19 if leb (length rs) recipient ∷ []) refl).0
      g.1 in
      let top = (first_none (top_order message) refl).0 a.0 in
      let five = (first_none (5 if any_misspelled message es ∷ []) refl).0 c.0 in
      let last = (first_none (19 if leb (length rs) recipient ∷ []) refl).0 k.1 in (
        top.0,
        record {
          repeats = top.1.1.0;
          top = top.1.1.1.0;
          elements = elements_passed message es b.0;
          spelled = five.0;
          protected = protected_passed es header d.0;
          few = headers_passed header message es rs f.0;
          asked = leb-false (length rs) recipient last.0;
        },
      )
