-- What `jwe_component` answers: the reader's refusal; or, the components of an accepted message being base64url, what
-- decoding the component answers, which is 0 or 1.
use mathlib.Core.Path.{◌≡◌, refl, ap, sym, subst₂, ◌∙◌}
use mathlib.Core.Bool.{Bool, true, false, cond}
use mathlib.Core.List.{List, [], ◌∷◌}
use Prim.Native.Nat.{ℕ, zero, suc, ◌≤◌}
use native.Mathlib.Omega.{arith}
use lib.ListN.{length, get_or}
use lib.Dec.{ltb}
use borrow.Author.Tests.{eq-eqb, ne_eqb}
use Rattle.prelude.specs.Refusals.{first}
use Rattle.prelude.specs.Outputs.{Writes}
use Rattle.prelude.proofs.Outputs.{writes_refused}
use Rattle.base64url.specs.Base64url.{decoded}
use Rattle.base64url.specs.Fault.{first_outside, spare_bits, fault}
use Rattle.base64url.specs.Answers.{of_fault, decode_order, decode_refusal}
use Rattle.parts.proofs.Laws.{part_fits}
use Rattle.grammar.specs.Bounds.{Every}
use Rattle.grammar.specs.Places.{Place}
use Rattle.headers.specs.Components.{misspelled, octets_at, absent, Components, places}
use Rattle.jwe.specs.Judge.{Call, refusal, refused, Outcome, outcome, accepted, result_of}
use Rattle.headers.specs.Answers.{components_of}
use Rattle.jwe.specs.Answers.{numbers}
use Rattle.jwe.specs.Answers.{Result}
use Rattle.meets.proofs.ComponentsSpelled.{Sound, components_spelled}
use Rattle.host.specs.Component.{place_at, component_place, component_octets}
use Rattle.host.specs.Component.{component_refusal}

-- Places by their numbers

pub place_absent : (qs : List Place) (n : ℕ) → length qs ≤ n → place_at qs n ≡ absent
unfolding place_at
place_absent [] n h = refl
place_absent (q ∷ qs) zero h = absurd (omega arith)
place_absent (q ∷ qs) (suc n) h = place_absent qs n (omega arith)

place_every : (P : Place → Type 0) → P absent → (qs : List Place) → Every P qs → (n : ℕ) → P (place_at qs n)
unfolding place_at
place_every P z [] h n = z
place_every P z (q ∷ qs) h zero = h.0
place_every P z (q ∷ qs) h (suc n) = place_every P z qs h.1 n

absent_sound : (message : List ℕ) → Sound message absent
unfolding misspelled fault first_outside spare_bits
absent_sound message =
    ap (λ (l : List ℕ). of_fault (fault l) false true) (part_fits message 0 0 (omega arith))

-- Decoding a text without fault: only 1 can refuse.
refusal_is : (text : List ℕ) (room : ℕ) → of_fault (fault text) false true ≡ false →
    decode_refusal text room ≡ cond (ltb room (length (decoded text))) 1 0
unfolding decode_refusal decode_order first
refusal_is text room sound = ap (λ (b : Bool). cond b 5 (cond (ltb room (length (decoded text))) 1 0)) sound

-- Components of the result and of the outcome

same_place : {s n s' n' : ℕ} → s ≡ s' → n ≡ n' → ◌≡◌ {A = Place} (record { start = s; size = n }) (record { start = s'; size = n' })
same_place e f = cc

same_components : (p : Components) (q : Components) → p.protected ≡ q.protected → p.key ≡ q.key → p.iv ≡ q.iv →
    p.aad ≡ q.aad → p.ciphertext ≡ q.ciphertext → p.tag ≡ q.tag → p ≡ q
same_components p q a b c d e f = λ i. record {
  protected = a i;
  key = b i;
  iv = c i;
  aad = d i;
  ciphertext = e i;
  tag = f i;
}

module _ (c : Call) (n : ℕ) where
  abbrev number : ℕ
  number = refusal c

  abbrev handed : Outcome
  handed = outcome c.message c.recipient

  abbrev place : Place
  place = component_place handed.components n

  abbrev octets : List ℕ
  octets = component_octets c.message c.recipient n

  -- the promise, of an answer, the octets written and what the output holds then
  abbrev Answers : List ℕ → ℕ → ℕ → List ℕ → Type 0
  Answers out answer count last =
      Writes (component_refusal c n (length out)) octets out answer count last

  pub refused_so : (out : List ℕ) (answer : ℕ) → answer ≡ number → (answer ≡ 0 → ⊥) → Answers out answer 0 out
  unfolding component_refusal
  refused_so out answer e z =
      writes_refused (component_refusal c n (length out)) octets out answer
      (e ∙ ap (λ (b : Bool). cond b (cond (ltb (length out) (length octets)) 1 0) number)
      (sym (ne_eqb number 0 (λ q. z (e ∙ q)))))
      z

  component_sound : number ≡ 0 → Sound c.message place
  unfolding component_place
  component_sound z =
      place_every (Sound c.message) (absent_sound c.message) (places handed.components) (components_spelled c z) n

  -- accepted: what decoding the component's text answers
  pub decoded_so : number ≡ 0 → (out text : List ℕ) (answer count : ℕ) (last : List ℕ) → text ≡ octets_at c.message place →
      Writes (decode_refusal text (length out)) (decoded text) out answer count last → Answers out answer count last
  unfolding component_refusal component_octets misspelled
  decoded_so z out text answer count last t w =
      subst₂ (λ (k : ℕ) (xs : List ℕ). Writes k xs out answer count last)
      (ap (λ (l : List ℕ). decode_refusal l (length out)) t
      ∙ refusal_is (octets_at c.message place) (length out) (component_sound z)
      ∙ ap (λ (b : Bool). cond b (cond (ltb (length out) (length octets)) 1 0) number) (sym (eq-eqb number 0 z)))
      (ap decoded t) w

  -- the components that the reader's result has
  pub components_are : (r : Result) → numbers r ≡ result_of c → number ≡ 0 →
      components_of r.components ≡ (outcome c.message c.recipient).components
  unfolding accepted result_of
  components_are r e z =
      let x = accepted c.message handed in
      let is : numbers r ≡ x = e ∙ ap (λ (b : Bool). cond b x (refused number)) (eq-eqb number 0 z) in
      let nth : (k : ℕ) → get_or (numbers r) k 0 ≡ get_or x k 0 = λ k. ap (λ (l : List ℕ). get_or l k 0) is in
      same_components _ _ (same_place (nth 4) (nth 5)) (same_place (nth 6) (nth 7)) (same_place (nth 8) (nth 9))
      (same_place (nth 10) (nth 11)) (same_place (nth 12) (nth 13)) (same_place (nth 14) (nth 15))
