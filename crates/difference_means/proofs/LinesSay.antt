-- A line is in the list exactly if what it says holds: each test decides its sentence over what the two messages hold.
use mathlib.Core.Path.{◌≡◌, sym, ap, subst₂, ◌∙◌}
use mathlib.Core.Bool.{Bool, not}
use mathlib.Core.Logic.{◌↔◌, ◌⊎◌, inl, inr}
use mathlib.Core.List.{List, ◌++◌}
use Prim.Native.Nat.{ℕ, ◌<◌, min}
use native.Mathlib.Omega.{arith}
use lib.Dec.{eqb}
use Rattle.prelude.specs.Limits.{header_room, list_room}
use Rattle.base64url.specs.Base64url.{encoded}
use Rattle.base64url.proofs.Laws.{decode_encode}
use Rattle.base64url.specs.Base64url as base64url
use Rattle.grammar.specs.Spellings.{equal}
use Rattle.jwe.specs.Judge.{call, held}
use Rattle.meets.specs.Meets.{Octets, Message, count, Meets}
use Rattle.meets.proofs.Deciding.{TrueWhere, not_none_where, eqb_where}
use Rattle.meets.proofs.Numbering.{equal_where}
use Rattle.means.specs.Means.{form_of, header_of, contents_of}
use Rattle.parameters.specs.Lines.{Side, missing, Line, line, line_if}
use Rattle.differences.specs.Differences.{compared, texts_of, whole, message_lines, key_lines, recipient_lines, up_to}
use Rattle.differences.specs.Differences.{differences}
use Rattle.differences.specs.Differences as lists
use Rattle.difference_means.specs.Meaning.{parameters_of, RowsFor, shown_for, SaysOf, Says, forms, counts, headers}
use Rattle.difference_means.specs.Meaning.{ivs, aads}
use Rattle.difference_means.specs.Meaning.{ciphertexts, tags, keys, parameters, In}
use Rattle.difference_means.proofs.InLists.{in_append, in_if, in_up_to}
use Rattle.difference_means.proofs.ParameterLines.{parameter_lines_say}
use Rattle.difference_means.proofs.Holding.{Holds, holding}

-- Tests on numbers, on octets, and on octets by their spellings.

pub number_where : (a b c d : ℕ) → a ≡ c → b ≡ d → TrueWhere (eqb a b) (c ≡ d)
number_where a b c d p q = subst₂ (λ m n. TrueWhere (eqb a b) (m ≡ n)) p q (eqb_where a b)

pub octets_where : (s t xs ys : List ℕ) → s ≡ xs → t ≡ ys → TrueWhere (equal s t) (xs ≡ ys)
octets_where s t xs ys p q = subst₂ (λ v w. TrueWhere (equal s t) (v ≡ w)) p q (equal_where s t)

-- Octets have one spelling.
encoded_once : (xs ys : List ℕ) → Octets xs → Octets ys → encoded xs ≡ encoded ys → xs ≡ ys
encoded_once xs ys o u e = sym (decode_encode xs o) ∙ ap base64url.decoded e ∙ decode_encode ys u

pub spelled_where : (s t xs ys : List ℕ) → Octets xs → Octets ys → s ≡ encoded xs → t ≡ encoded ys →
    TrueWhere (equal s t) (xs ≡ ys)
spelled_where s t xs ys o u p q =
    let w = octets_where s t (encoded xs) (encoded ys) p q in
    ((λ e. encoded_once xs ys o u (w.0 e)), (λ e. w.1 (ap encoded e)))

-- A line is in a list exactly if a sentence holds; the record keeps the list.
record Tells (l : Line) (ls : List Line) (P : Type 0) : Type 0 where
  is : In l ls ↔ P

module _ {l : Line} where
  then : {xs ys : List Line} {P Q : Type 0} → Tells l xs P → Tells l ys Q → Tells l (xs ++ ys) (P ⊎ Q)
  then {xs} {ys} a b = record { is = in_append l xs ys a.is b.is }

  -- One line, where a test is false.
  unless : {P : Type 0} (b : Bool) (k : Line) → TrueWhere b P → Tells l (line_if (not b) k) ((P → ⊥) × (l ≡ k))
  unless b k w = record { is = in_if l (not b) k (not_none_where b w) }

module _ (left right known : List ℕ) (m : Meets (call left known 0 header_room list_room))
    (k : Meets (call right known 0 header_room list_room)) (x : RowsFor m.form) (y : RowsFor k.form)
    (l : Line) where
  abbrev f : Message m.list.names left
  f = m.form

  abbrev g : Message k.list.names right
  g = k.form

  at_left : (n : ℕ) (below : n < count m.form) → Holds m.form (x.rows n below) n
  at_left n below = holding left known m n below (x.rows n below) (x.apply n below)

  at_right : (n : ℕ) (below : n < count k.form) → Holds k.form (y.rows n below) n
  at_right n below = holding right known k n below (y.rows n below) (y.apply n below)

  -- What is said of the messages as a whole.
  abbrev Whole : Type 0
  Whole =
      ((form_of f ≡ form_of g → ⊥) × (l ≡ whole 0))
      ⊎ (((count f ≡ count g → ⊥) × (l ≡ whole 1))
      ⊎ (((header_of f ≡ header_of g → ⊥) × (l ≡ whole 2))
      ⊎ ((((contents_of f 0).iv ≡ (contents_of g 0).iv → ⊥) × (l ≡ whole 3))
      ⊎ ((((contents_of f 0).aad ≡ (contents_of g 0).aad → ⊥) × (l ≡ whole 4))
      ⊎ ((((contents_of f 0).ciphertext ≡ (contents_of g 0).ciphertext → ⊥) × (l ≡ whole 5))
      ⊎ (((contents_of f 0).tag ≡ (contents_of g 0).tag → ⊥) × (l ≡ whole 6)))))))

  message_lines_lem : Tells l (message_lines (compared left) (compared right)) Whole
  unfolding message_lines
  message_lines_lem =
      let a = at_left 0 m.asked in
      let b = at_right 0 k.asked in
      let o = a.octets in
      let u = b.octets in
      let p = a.shows in
      let q = b.shows in
      then (unless _ _ (number_where _ _ _ _ a.form b.form))
      (then (unless _ _ (number_where _ _ _ _ a.recipients b.recipients))
      (then (unless _ _ (octets_where _ _ _ _ a.header b.header))
      (then (unless _ _ (spelled_where _ _ _ _ o.iv u.iv p.iv q.iv))
      (then (unless _ _ (spelled_where _ _ _ _ o.aad u.aad p.aad q.aad))
      (then (unless _ _ (spelled_where _ _ _ _ o.ciphertext u.ciphertext p.ciphertext q.ciphertext))
      (unless _ _ (spelled_where _ _ _ _ o.tag u.tag p.tag q.tag)))))))

  -- Of a recipient in both.
  module _ (n : ℕ) (bl : n < count m.form) (br : n < count k.form) where
    key_lines_lem : In l (key_lines (compared left) (compared right) n)
        ↔ (((contents_of f n).key ≡ (contents_of g n).key → ⊥) × (l ≡ line 7 n missing missing))
    unfolding key_lines
    key_lines_lem =
        let a = at_left n bl in
        let b = at_right n br in
        (unless _ _ (spelled_where _ _ _ _ a.octets.key b.octets.key a.shows.key b.shows.key)).is

    recipient_lines_lem : In l (recipient_lines (compared left) (compared right) n)
        ↔ SaysOf (shown_for f x n bl) (shown_for g y n br) n l
    unfolding recipient_lines
    recipient_lines_lem =
        let a = at_left n bl in
        let b = at_right n br in
        subst₂ (λ (c d : List Side).
        In l (recipient_lines (compared left) (compared right) n)
        ↔ SaysOf (record { parameters = parameters_of f n; sides = c })
        (record { parameters = parameters_of g n; sides = d }) n l)
        a.sides b.sides
        (parameter_lines_say (texts_of (compared left)) (texts_of (compared right)) n (parameters_of f n)
        (parameters_of g n) (lists.parameters_of (compared left) n) (lists.parameters_of (compared right) n) a.stand
        b.stand l b.distinct)

  -- A number below both counts.
  abbrev both : ℕ
  both = min (held left).recipients (held right).recipients

  in_both : (n : ℕ) → (n < both) ↔ ((n < count f) × (n < count g))
  in_both n =
      let a = (at_left 0 m.asked).recipients in
      let b = (at_right 0 k.asked).recipients in
      ((λ h. (omega arith, omega arith)), (λ h. omega (arith, h.0, h.1)))

  whole_says : Whole → Says f g x y l
  whole_says (inl h) = forms h.0 h.1
  whole_says (inr (inl h)) = counts h.0 h.1
  whole_says (inr (inr (inl h))) = headers h.0 h.1
  whole_says (inr (inr (inr (inl h)))) = ivs h.0 h.1
  whole_says (inr (inr (inr (inr (inl h))))) = aads h.0 h.1
  whole_says (inr (inr (inr (inr (inr (inl h)))))) = ciphertexts h.0 h.1
  whole_says (inr (inr (inr (inr (inr (inr h)))))) = tags h.0 h.1

  -- The three lists behind each other.
  abbrev Parts : Type 0
  Parts =
      Whole
      ⊎ (((n : ℕ) × (n < both) × In l (key_lines (compared left) (compared right) n))
      ⊎ ((n : ℕ) × (n < both) × In l (recipient_lines (compared left) (compared right) n)))

  in_parts : In l (differences (compared left) (compared right)) ↔ Parts
  unfolding differences
  in_parts =
      in_append l (message_lines (compared left) (compared right)) _ message_lines_lem.is
      (in_append l (up_to (key_lines (compared left) (compared right)) both) _
      (in_up_to l (key_lines (compared left) (compared right)) both)
      (in_up_to l (recipient_lines (compared left) (compared right)) both))

  to : Parts → Says f g x y l
  to (inl h) = whole_says h
  to (inr (inl (n, h, i))) =
      let (a, b) = (in_both n).0 h in
      let d = (key_lines_lem n a b).0 i in
      keys n a b d.0 d.1
  to (inr (inr (n, h, i))) = let (a, b) = (in_both n).0 h in parameters n a b ((recipient_lines_lem n a b).0 i)

  from : Says f g x y l → Parts
  from (forms d e) = inl (inl (d, e))
  from (counts d e) = inl (inr (inl (d, e)))
  from (headers d e) = inl (inr (inr (inl (d, e))))
  from (ivs d e) = inl (inr (inr (inr (inl (d, e)))))
  from (aads d e) = inl (inr (inr (inr (inr (inl (d, e))))))
  from (ciphertexts d e) = inl (inr (inr (inr (inr (inr (inl (d, e)))))))
  from (tags d e) = inl (inr (inr (inr (inr (inr (inr (d, e)))))))
  from (keys n a b d e) = inr (inl (n, (in_both n).1 (a, b), (key_lines_lem n a b).1 (d, e)))
  from (parameters n a b s) = inr (inr (n, (in_both n).1 (a, b), (recipient_lines_lem n a b).1 s))

  pub lines_say : In l (differences (compared left) (compared right)) ↔ Says m.form k.form x y l
  lines_say = ((λ i. to (in_parts.0 i)), (λ s. in_parts.1 (from s)))
