-- The number of a refusal is one of a list: the first failing test of an order has one of the order's numbers, and these are in it.
use mathlib.Core.Path.{◌≡◌, refl, sym}
use mathlib.Core.Bool.{Bool, true, false, not, ◌||◌, cond, true≢false}
use mathlib.Core.Logic.{inl, inr}
use mathlib.Core.List.{List, [], ◌∷◌, ◌++◌, flat_map}
use Prim.Native.Nat.{ℕ, ◌≤◌}
use native.Mathlib.Omega.{arith}
use lib.Dec.{eqb, ltb}
use borrow.Author.Tests.{not-false, eqb-true, eqb-false, ltb-false}
use Rattle.grammar.specs.Reader.{opens_object}
use Rattle.grammar.specs.Places.{Element}
use Rattle.names.specs.Names.{names}
use Rattle.prelude.specs.Any.{any}
use Rattle.rows.specs.Rows.{Entry, Texts, present}
use Rattle.prelude.specs.Refusals.{Test, first, OneOf}
use Rattle.jose.specs.declared.Sizes.{Sizes}
use Rattle.jose.specs.HeaderRules.{recipient_order}
use Rattle.headers.specs.Headers.{text_order, object_order}
use Rattle.shape.specs.Shape.{Recipient, recipients}
use Rattle.shape.specs.Recipients.{Top, top_of, top_entries, top_order, element_order, elements_in, elements_order, recipients_in}
use Rattle.jwe.specs.Compact.{compact_order}
use Rattle.jwe.specs.General.{own_entries, protected_order, headers_order, recipients_order, content_order, json_spelled}
use Rattle.jwe.specs.General.{json_later, json_order}
use Rattle.jwe.specs.Judge.{Call, order, refusal}

-- The numbers that the reader refuses with, in document 01's order.
abbrev pub given : List ℕ
given = 1 ∷ 2 ∷ 3 ∷ 4 ∷ 5 ∷ 6 ∷ 7 ∷ 8 ∷ 9 ∷ 10 ∷ 11 ∷ 12 ∷ 13 ∷ 14 ∷ 15 ∷ 16 ∷ 17 ∷ 18 ∷ 21 ∷ 19 ∷ []

-- A test that has none of them.
abbrev beyond : Test → Bool
beyond t = not (any (eqb t.number) given)

parts : (a b : Bool) → a || b ≡ false → (a ≡ false) × (b ≡ false)
parts true b h = absurd (true≢false h)
parts false b h = (refl, h)

one_of : (n : ℕ) (ms : List ℕ) → any (eqb n) ms ≡ true → OneOf n ms
unfolding any
one_of n [] h = absurd (true≢false (sym h))
one_of n (m ∷ ms) h = cases (eqb n m) refl h (one_of n ms)
  where
    cases : (b : Bool) → eqb n m ≡ b → b || any (eqb n) ms ≡ true → (any (eqb n) ms ≡ true → OneOf n ms) → OneOf n (m ∷ ms)
    cases true e h later = inl (eqb-true n m e)
    cases false e h later = inr (later h)

one_low : (n : ℕ) (ms : List ℕ) → any (ltb 21) ms ≡ false → OneOf n ms → n ≤ 21
unfolding any
one_low n [] h o = absurd o
one_low n (m ∷ ms) h o =
    let p = parts (ltb 21 m) (any (ltb 21) ms) h in
    elim o [ inl e ↦ omega (arith, e, ltb-false 21 m p.0) | inr r ↦ one_low n ms p.1 r ]

given_low : any (ltb 21) given ≡ false
unfolding any
given_low = refl

first_given : (ts : List Test) → any beyond ts ≡ false → (first ts ≡ 0 → ⊥) → OneOf (first ts) given
unfolding any first
first_given [] h n = absurd (n refl)
first_given (t ∷ ts) h n =
    let m = parts (beyond t) (any beyond ts) h in
    cases t.fails n (one_of t.number given (not-false (any (eqb t.number) given) m.0)) (first_given ts m.1)
  where
    cases : (b : Bool) → (cond b t.number (first ts) ≡ 0 → ⊥) → OneOf t.number given →
        ((first ts ≡ 0 → ⊥) → OneOf (first ts) given) → OneOf (cond b t.number (first ts)) given
    cases true n here rest = here
    cases false n here rest = rest n

-- Orders made of orders

both_low : (ts us : List Test) → any beyond ts ≡ false → any beyond us ≡ false → any beyond (ts ++ us) ≡ false
unfolding any
both_low [] us h i = i
both_low (t ∷ ts) us h i = cases (beyond t) h (λ k. both_low ts us k i)
  where
    cases : (b : Bool) → b || any beyond ts ≡ false → (any beyond ts ≡ false → any beyond (ts ++ us) ≡ false) →
        b || any beyond (ts ++ us) ≡ false
    cases true h f = absurd (true≢false h)
    cases false h f = f h

each_low : {A : Type 0} (f : A → List Test) → ((x : A) → any beyond (f x) ≡ false) → (xs : List A) →
    any beyond (flat_map f xs) ≡ false
unfolding flat_map any
each_low f h [] = refl
each_low f h (x ∷ xs) = both_low (f x) (flat_map f xs) (h x) (each_low f h xs)

if_low : (b : Bool) (ts : List Test) → any beyond ts ≡ false → any beyond (cond b ts []) ≡ false
unfolding any
if_low true ts h = h
if_low false ts h = refl

-- Each order

object_low : (s : List ℕ) (es : List Entry) → any beyond (object_order s es) ≡ false
unfolding any object_order
object_low s es = refl

recipient_low : (known : List (List ℕ)) (ts : Texts) (es : List Entry) (z : Sizes) →
    any beyond (recipient_order known ts es z) ≡ false
unfolding any recipient_order
recipient_low known ts es z = refl

compact_low : (message : List ℕ) (known : List (List ℕ)) (recipient : ℕ) →
    any beyond (compact_order message known recipient) ≡ false
unfolding any compact_order text_order object_order recipient_order
compact_low message known recipient = refl

top_low : (message : List ℕ) → any beyond (top_order message) ≡ false
unfolding any top_order object_order
top_low message = refl

element_low : (message : List ℕ) (start : ℕ) → any beyond (element_order message start) ≡ false
unfolding any element_order object_order
element_low message start = refl

elements_low : (message : List ℕ) (es : List Entry) → any beyond (elements_order message es) ≡ false
unfolding any elements_order
elements_low message es =
    if_low (present recipients es) _
    (each_low (λ (x : Element). element_order message x.start) (λ x. element_low message x.start)
    (elements_in message es))

protected_low : (t : Top) (header : List ℕ) → any beyond (protected_order t header) ≡ false
unfolding any protected_order text_order
protected_low t header = if_low t.protected _ refl

headers_low : (header message : List ℕ) (t : Top) (rs : List Recipient) →
    any beyond (headers_order header message t rs) ≡ false
unfolding any headers_order object_order
headers_low header message t rs =
    each_low (λ r. object_order message (own_entries message r)) (λ r. object_low message (own_entries message r)) rs

recipients_low : (known : List (List ℕ)) (header message : List ℕ) (t : Top) (rs : List Recipient) →
    any beyond (recipients_order known header message t rs) ≡ false
unfolding recipients_order
recipients_low known header message t rs = each_low _ (λ r. recipient_low known _ _ _) rs

json_low : (message : List ℕ) (known : List (List ℕ)) (recipient : ℕ) →
    any beyond (json_order message known recipient) ≡ false
unfolding any json_order json_spelled json_later content_order
json_low message known recipient =
    let es = top_entries message in
    let rs = recipients_in message es in
    both_low (json_spelled message) _
    (both_low (top_order message) _ (top_low message)
    (both_low (elements_order message es) _ (elements_low message es) refl))
    (both_low (protected_order (top_of es) _) _ (protected_low (top_of es) _)
    (both_low (headers_order _ message (top_of es) rs) _ (headers_low _ message (top_of es) rs)
    (both_low (recipients_order known _ message (top_of es) rs) _ (recipients_low known _ message (top_of es) rs) refl)))

module _ (c : Call) where
  order_low : any beyond (order c) ≡ false
  unfolding any order
  order_low = cases (opens_object c.message)
    where
      cases : (b : Bool) →
          any beyond
          (cond b (json_order c.message (names c.known) c.recipient)
          (compact_order c.message (names c.known) c.recipient)) ≡ false
      cases true = json_low c.message (names c.known) c.recipient
      cases false = compact_low c.message (names c.known) c.recipient

  -- A refusal is one of them ..
  pub refusal_given : (refusal c ≡ 0 → ⊥) → OneOf (refusal c) given
  unfolding refusal
  refusal_given = first_given (order c) order_low

  -- .. and so at most 21.
  pub refusal_low : refusal c ≤ 21
  refusal_low = cases (eqb (refusal c) 0) refl
    where
      cases : (b : Bool) → eqb (refusal c) 0 ≡ b → refusal c ≤ 21
      cases true e = omega (arith, eqb-true (refusal c) 0 e)
      cases false e = one_low (refusal c) given given_low (refusal_given (eqb-false (refusal c) 0 e))
