-- Refusal 5 on one component: the text at the place that is found is accepted exactly where there are octets of which
-- it is the encoding, and they are those that it decodes to. An absent component has the empty text.
use mathlib.Core.Path.{◌≡◌, refl, ap, sym, subst, ◌∙◌}
use mathlib.Core.Bool.{Bool, true, false, cond, true≢false}
use mathlib.Core.Logic.{◌↔◌, inl, inr}
use mathlib.Core.List.{List, []}
use Prim.Native.Nat.{ℕ, ◌+◌, ◌-◌}
use native.Mathlib.Omega.{arith}
use lib.ListN.{length}
use lib.Dec.{eqb}
use borrow.Author.Tests.{ne_eqb}
use Rattle.base64url.specs.Base64url.{encoded, decoded, decoded_length, octets, sextets}
use Rattle.base64url.specs.Fault.{Fault, none, at, fault}
use Rattle.base64url.specs.Answers.{of_fault}
use Rattle.base64url.proofs.Laws.{accepted_exactly, spelled_once}
use Rattle.parts.proofs.Laws.{part_fits}
use Rattle.grammar.specs.Grammar.{leaves_chars, Value, nested, empty, string, number, literal}
use Rattle.grammar.specs.Places.{Place}
use Rattle.grammar.specs.Bounds.{Every}
use Rattle.headers.specs.Components.{octets_at, absent, misspelled}
use Rattle.headers.specs.Headers.{header_text}
use Rattle.shape.specs.Shape.{inner}
use Rattle.meets.specs.Members.{Member, Named}
use Rattle.meets.specs.Rules.{EveryNamed}
use Rattle.meets.specs.Meets.{Octets, Unescaped, Plain, Component}
use Rattle.meets.proofs.Standing.{Stands, string_stands, is_string}
use Rattle.meets.proofs.Deciding.{FalseWhere}
use Rattle.meets.proofs.SpelledDecided.{none_decoded}
use Rattle.meets.proofs.Lookups.{Lookup, missing, single, of_only, only_named, only_there, none_named}

-- The text at a component's place, and that the component's octets are those of which it is the encoding.
pub record Spelling (message w : List ℕ) (ps : List Member) (q : Place) : Type 0 where
  pub text : List ℕ
  pub is : octets_at message q ≡ text
  pub size : q.size ≡ length text
  pub means : (xs : List ℕ) → Octets xs → Component w ps xs ↔ (encoded xs ≡ text)

-- How a string is spelled.
abbrev spelling : Value → List ℕ
spelling (nested b x es y) = []
spelling (empty b x y) = []
spelling (string x) = leaves_chars x.chars
spelling (number x) = []
spelling (literal x) = []

nothing_encoded : encoded [] ≡ []
unfolding encoded sextets
nothing_encoded = refl

nothing_decoded : decoded [] ≡ []
unfolding decoded octets
nothing_decoded = refl

encoded_nothing : (xs : List ℕ) → Octets xs → encoded xs ≡ [] → xs ≡ []
encoded_nothing xs o e = spelled_once [] xs o e ∙ nothing_decoded

nothing_there : (message : List ℕ) → octets_at message absent ≡ []
nothing_there message = part_fits message 0 0 (omega arith)

module _ (message w : List ℕ) (ps : List Member) (q : Place) (b : Bool) (plain : EveryNamed w Plain ps) where
  pub component_spelling : Lookup message w ps q b → Spelling message w ps (inner q)
  component_spelling (missing t a e) =
      subst (λ (p : Place). Spelling message w ps (inner p)) (sym e) (record {
        text = [];
        is = nothing_there message;
        size = refl;
        means = λ xs o. (
          (λ c. elim c [
            | inl i ↦ ap encoded i.1 ∙ nothing_encoded
            | inr s ↦ absurd (none_named w ps (string s.0) a s.1)
          ]),
          (λ i. inl (a, encoded_nothing xs o i)),
        );
      })
  component_spelling (single v t o) =
      let (x, i, u) = (is_string (λ y. Every Unescaped y.chars) v).0 (of_only message w ps q v o Plain plain) in
      let s = string_stands message x q.start q.size
      (subst (λ (y : Value). Stands message y q.start q.size) i o.stands) in
      let m = s.2 in
      let f : eqb q.size 0 ≡ false = ne_eqb q.size 0 (λ z. omega arith) in
      subst (λ (c : Bool).
      Spelling message w ps (cond c absent (record { start = q.start + 1; size = q.size - 2 }))) (sym f) (record {
        text = leaves_chars x.chars;
        is = s.0;
        size = omega arith;
        means = λ xs h. (
          (λ c. elim c [
            | inl k ↦ absurd (only_there message w ps q v o k.0)
            | inr k ↦ sym k.2 ∙ ap spelling (only_named message w ps q v o (string k.0) k.1 ∙ i)
          ]),
          (λ k. inr (x, subst (λ (y : Value). Named w y ps) i o.named, sym k)),
        );
      })

-- Refusal 5.

fault_where : (f : Fault) → FalseWhere (of_fault f false true) (f ≡ none)
fault_where none = ((λ e. refl), (λ e. refl))
fault_where (at n) = ((λ e. absurd (true≢false e)), (λ e. ap (λ (f : Fault). of_fault f false true) e))

module _ (message w : List ℕ) (ps : List Member) (q : Place) (s : Spelling message w ps q) where
  pub misspelled_decided : (misspelled message q ≡ false) ↔ ((xs : List ℕ) × Octets xs × Component w ps xs)
  unfolding misspelled
  misspelled_decided =
      let f = fault_where (fault (octets_at message q)) in
      let a = accepted_exactly (octets_at message q) in (
        (λ e. let (xs, o, i) = a.0 (f.0 e) in (xs, o, (s.means xs o).1 (i ∙ s.is))),
        (λ r. f.1 (a.1 (r.0, r.1, (s.means r.0 r.1).0 r.2 ∙ sym s.is))),
      )

  module _ (xs : List ℕ) (o : Octets xs) (c : Component w ps xs) where
    -- Its octets are those that the text decodes to ..
    pub decoded_is : header_text message q ≡ xs
    unfolding header_text
    decoded_is = sym (spelled_once (octets_at message q) xs o ((s.means xs o).0 c ∙ sym s.is))

    -- .. and there are none exactly where it decodes to none.
    pub none_where_empty : (eqb (decoded_length q.size) 0 ≡ true) ↔ (xs ≡ [])
    none_where_empty = none_decoded xs q.size (s.size ∙ ap length (sym ((s.means xs o).0 c)))
