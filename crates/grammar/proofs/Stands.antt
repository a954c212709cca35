-- Every name and every string of a reading stands at its place in the text: by induction on the tree.
use mathlib.Core.Path.{◌≡◌, refl, ap, ap₂, ◌∙◌}
use mathlib.Core.List.{List, ◌∷◌, ◌++◌, append_assoc}
use Prim.Native.Nat.{ℕ, suc, ◌+◌, ◌-◌}
use native.Mathlib.Omega.{arith}
use native.Mathlib.Numerals.{add-one}
use lib.ListN.{length, take, drop}
use lib.Seq.{take-append_seam}
use Rattle.grammar.specs.Grammar.{quote, colon, comma, octets, leaves_sign, Str, leaves_chars, leaves_str, Bracket}
use Rattle.grammar.specs.Grammar.{curly, square, opening, closing, Label, Value, nested, empty, string, number}
use Rattle.grammar.specs.Grammar.{literal, Entries, last, more, leaves_label, leaves_value, leaves_entries}
use Rattle.grammar.specs.Places.{leading, trailing, place}
use Rattle.grammar.specs.Readings.{Reading, octets_at}
use Rattle.grammar.specs.Shown.{NameStands, StringsStand, StringsStandIn}
use Rattle.grammar.proofs.Positions.{Rest, rest_along, rest_next}
use Rattle.grammar.proofs.Decide.{rest_value}

-- Where w stands, w is found.
stands_at : (s : List ℕ) (n size : ℕ) (w r : List ℕ) → Rest s n (w ++ r) → size ≡ length w →
    octets_at s (record { start = n; size = size }) ≡ w
stands_at s n size w r h e = ap₂ take e h.is ∙ take-append_seam w r

module _ (s : List ℕ) where
  string_stands : (x : Str) (n : ℕ) (r : List ℕ) → Rest s n (leaves_str x ++ r) → octets_at s (place n (string x))
      ≡ leaves_str x
  unfolding place leading trailing leaves_value octets
  string_stands x n r h =
      let e : n + 0 ≡ n = omega arith in
      ap (λ m. take (length (leaves_str x) - (0 + 0)) (drop m s)) e
      ∙ stands_at s n (length (leaves_str x) - (0 + 0)) (leaves_str x) r h (omega arith)

  name_stands : (b : Bracket) (l : Label b) (n : ℕ) (r : List ℕ) → Rest s n (leaves_label b l ++ r) → NameStands s b n l
  unfolding leaves_label leaves_str NameStands
  name_stands curly l n r h =
      let w = leaves_chars l.name.chars in
      let C = leaves_sign colon l.sign in
      let e : leaves_label curly l ++ r ≡ quote ∷ (w ++ (quote ∷ (C ++ r))) = simp append_assoc in
      let h' : Rest s n (quote ∷ (w ++ (quote ∷ (C ++ r)))) = record { is = h.is ∙ e } in
      ap (λ m. take (length w) (drop m s)) (add-one n)
      ∙ stands_at s (suc n) (length w) w (quote ∷ (C ++ r)) (rest_next h') refl
  name_stands square l n r h = tt

  mutual
    unfolding leaves_value StringsStand

    strings_stand : (v : Value) (n : ℕ) (r : List ℕ) → Rest s n (leaves_value v ++ r) → StringsStand s n v
    strings_stand (nested b x es y) n r h =
        let e : leaves_value (nested b x es y) ++ r
        ≡ leaves_sign (opening b) x ++ (leaves_entries es ++ (leaves_sign (closing b) y ++ r)) = simp append_assoc in
        strings_stand_in es (n + length (leaves_sign (opening b) x)) (leaves_sign (closing b) y ++ r)
        (rest_along (leaves_sign (opening b) x) (record { is = h.is ∙ e }))
    strings_stand (empty b x y) n r h = tt
    strings_stand (string x) n r h = string_stands x n r h
    strings_stand (number x) n r h = tt
    strings_stand (literal x) n r h = tt

    strings_stand_in : {b : Bracket} (es : Entries b) (n : ℕ) (r : List ℕ) → Rest s n (leaves_entries es ++ r) →
        StringsStandIn s n es
    strings_stand_in (last {b} l v) n r h =
        let L = leaves_label b l in
        let h' : Rest s n (L ++ (leaves_value v ++ r)) = record { is = h.is ∙ append_assoc L (leaves_value v) r } in
        (name_stands b l n (leaves_value v ++ r) h', strings_stand v (n + length L) r (rest_along L h'))
    strings_stand_in (more {b} l v x es) n r h =
        let L = leaves_label b l in
        let W = leaves_value v in
        let C = leaves_sign comma x in
        let e : leaves_entries (more l v x es) ++ r ≡ L ++ (W ++ (C ++ (leaves_entries es ++ r))) = simp append_assoc in
        let f : leaves_entries (more l v x es) ++ r ≡ (L ++ (W ++ C)) ++ (leaves_entries es ++ r) = simp append_assoc in
        let h' : Rest s n (L ++ (W ++ (C ++ (leaves_entries es ++ r)))) = record { is = h.is ∙ e } in (
          name_stands b l n (W ++ (C ++ (leaves_entries es ++ r))) h',
          strings_stand v (n + length L) (C ++ (leaves_entries es ++ r)) (rest_along L h'),
          strings_stand_in es (n + length (L ++ (W ++ C))) r (rest_along (L ++ (W ++ C)) (record { is = h.is ∙ f })),
        )

pub reading_stands : (l : ℕ) (s : List ℕ) (r : Reading l s) →
    StringsStand s (length (octets r.text.before)) r.text.value
reading_stands l s r =
    strings_stand s r.text.value (length (octets r.text.before)) (octets r.text.after)
    (rest_value s r.text r.reads)
