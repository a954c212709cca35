-- A text without the space around it is what stands at the place of its object.
use mathlib.Core.Path.{◌≡◌, refl, sym, ap, ap₂, ◌∙◌}
use mathlib.Core.List.{List, [], ◌∷◌, ◌++◌, append_assoc, reverse, reverse_aux, reverse_aux-eq, reverse-append, reverse-reverse}
use mathlib.Core.Bool.{Bool, false, cond}
use Prim.Native.Nat.{ℕ, ◌+◌, ◌-◌}
use native.Mathlib.Omega.{arith}
use lib.ListN.{length, length-append, take}
use lib.Seq.{drop-append_seam, take-append_seam}
use Rattle.parts.specs.Parts.{part}
use Rattle.parts.proofs.Laws.{part_fits}
use Rattle.grammar.specs.Grammar.{is_space, octets, Space, leaves_sign, curly, square, Value, nested, empty, string, number}
use Rattle.grammar.specs.Grammar.{literal, literal-true, literal-false, literal-null, leaves_value, leaves_entries}
use Rattle.grammar.specs.Places.{kind, place, leading, trailing, placed, placed_text, start_of, size_of}
use Rattle.grammar.specs.Reader.{skip_space}
use Rattle.grammar.specs.Readings.{Reading}
use Rattle.grammar.proofs.Scan.{T→true}
use Rattle.grammar.proofs.Theorems.{read_complete}
use Rattle.json_text.proofs.Made.{given, given_kind, made_placed}
use Rattle.json_message.specs.Handed.{drop_space, trimmed}

-- Space is dropped, and what begins with another octet stays.

space_dropped : (a : Space) (u : List ℕ) → drop_space (octets a ++ u) ≡ drop_space u
unfolding drop_space octets
space_dropped [] u = refl
space_dropped (o ∷ a) u =
    ap (λ (b : Bool). cond b (drop_space (octets a ++ u)) (o.code ∷ (octets a ++ u))) (T→true (is_space o.code) o.fits)
    ∙ space_dropped a u

space_turned : (a : Space) (u : List ℕ) → drop_space (reverse_aux (octets a) u) ≡ drop_space u
unfolding drop_space octets
space_turned [] u = refl
space_turned (o ∷ a) u =
    space_turned a (o.code ∷ u)
    ∙ ap (λ (b : Bool). cond b (drop_space u) (o.code ∷ u)) (T→true (is_space o.code) o.fits)

kept : (c : ℕ) (u : List ℕ) → is_space c ≡ false → drop_space (c ∷ u) ≡ c ∷ u
unfolding drop_space
kept c u e = ap (λ (b : Bool). cond b (drop_space u) (c ∷ u)) e

pub trimmed_none : trimmed [] ≡ []
unfolding trimmed drop_space
trimmed_none = refl

-- Between space stands what begins and ends with other octets.
trimmed_between : (a : Space) (c : ℕ) (u : List ℕ) (d : ℕ) (b : Space) → is_space c ≡ false → is_space d ≡ false →
    trimmed (octets a ++ ((c ∷ (u ++ (d ∷ []))) ++ octets b)) ≡ c ∷ (u ++ (d ∷ []))
unfolding trimmed
trimmed_between a c u d b p q =
    let core = c ∷ (u ++ (d ∷ [])) in
    let turned : reverse core ≡ d ∷ reverse (c ∷ u) = reverse-append (c ∷ u) (d ∷ []) in
    let front : drop_space (octets a ++ (core ++ octets b)) ≡ core ++ octets b =
    space_dropped a (core ++ octets b) ∙ kept c ((u ++ (d ∷ [])) ++ octets b) p in
    let back : drop_space (reverse (core ++ octets b)) ≡ reverse core =
    ap drop_space (reverse-append core (octets b) ∙ sym (reverse_aux-eq (octets b) (reverse core)))
    ∙ space_turned b (reverse core)
    ∙ ap drop_space turned
    ∙ kept d (reverse (c ∷ u)) q
    ∙ sym turned in
    ap (λ (w : List ℕ). reverse (drop_space (reverse w))) front ∙ ap reverse back ∙ reverse-reverse core

-- The same by its place.
part_between : (a u b : List ℕ) → part (a ++ (u ++ b)) (length a) (length (a ++ (u ++ b)) - (length a + length b)) ≡ u
part_between a u b =
    let e = length-append a (u ++ b) in
    let f = length-append u b in
    let n : length (a ++ (u ++ b)) - (length a + length b) ≡ length u = omega arith in
    ap (part (a ++ (u ++ b)) (length a)) n
    ∙ part_fits (a ++ (u ++ b)) (length a) (length u) (omega arith)
    ∙ ap (take (length u)) (drop-append_seam a (u ++ b))
    ∙ take-append_seam u b

module _ (a : Space) (u : List ℕ) (b : Space) (v : Value) (k : kind v ≡ 0)
    (is : leaves_value v ≡ octets a ++ ((123 ∷ (u ++ (125 ∷ []))) ++ octets b))
    (before : leading v ≡ a) (behind : trailing v ≡ b) where
  object_trimmed : trimmed (leaves_value v)
      ≡ part (leaves_value v) (length (octets (leading v)))
      (length (leaves_value v) - (length (octets (leading v)) + length (octets (trailing v))))
  object_trimmed =
      ap trimmed is
      ∙ trimmed_between a 123 u 125 b refl refl
      ∙ sym (part_between (octets a) (123 ∷ (u ++ (125 ∷ []))) (octets b))
      ∙ sym (ap₂ (λ (w : List ℕ) (n : ℕ). part w n (length w - (n + length (octets b)))) is
      (ap (λ (z : Space). length (octets z)) before))
      ∙ sym (ap (λ (z : Space). part (leaves_value v) (length (octets (leading v)))
      (length (leaves_value v) - (length (octets (leading v)) + length (octets z)))) behind)

value_trimmed : (v : Value) → kind v ≡ 0 → trimmed (leaves_value v)
    ≡ part (leaves_value v) (length (octets (leading v)))
    (length (leaves_value v) - (length (octets (leading v)) + length (octets (trailing v))))
unfolding kind leaves_value leaves_sign leading trailing
value_trimmed (nested curly x es y) k =
    object_trimmed x.before (octets x.after ++ (leaves_entries es ++ octets y.before)) y.after (nested curly x es y) k
    (simp append_assoc) refl refl
value_trimmed (nested square x es y) k = absurd (omega arith)
value_trimmed (empty curly x y) k =
    object_trimmed x.before (octets x.after ++ octets y.before) y.after (empty curly x y) k (simp append_assoc)
    refl refl
value_trimmed (empty square x y) k = absurd (omega arith)
value_trimmed (string x) k = absurd (omega arith)
value_trimmed (number x) k = absurd (omega arith)
value_trimmed (literal literal-true) k = absurd (omega arith)
value_trimmed (literal literal-false) k = absurd (omega arith)
value_trimmed (literal literal-null) k = absurd (omega arith)

value_start_lem : (v : Value) → start_of (placed 0 v) ≡ length (octets (leading v))
unfolding placed place
value_start_lem (nested b x es y) = omega arith
value_start_lem (empty b x y) = omega arith
value_start_lem (string x) = omega arith
value_start_lem (number x) = omega arith
value_start_lem (literal x) = omega arith

value_size_lem : (v : Value) →
    size_of (placed 0 v) ≡ length (leaves_value v) - (length (octets (leading v)) + length (octets (trailing v)))
unfolding placed place
value_size_lem (nested b x es y) = refl
value_size_lem (empty b x y) = refl
value_size_lem (string x) = refl
value_size_lem (number x) = refl
value_size_lem (literal x) = refl

-- The tree that takes the space around a text into its outermost brackets has the places of the reading.
pub reading_trimmed : (l : ℕ) (w : List ℕ) (r : Reading l w) →
    part w (skip_space w 0) (size_of (placed_text r.text)) ≡ trimmed w
reading_trimmed l w r =
    let x = given r in
    let v = x.value in
    let p = made_placed x r in
    ap₂ (part w)
    (sym (read_complete l w r).1 ∙ sym (ap start_of p) ∙ value_start_lem v)
    (sym (ap size_of p) ∙ value_size_lem v)
    ∙ ap (λ (z : List ℕ). part z (length (octets (leading v)))
    (length (leaves_value v) - (length (octets (leading v)) + length (octets (trailing v))))) (sym x.spelled)
    ∙ sym (value_trimmed v (given_kind r))
    ∙ ap trimmed x.spelled
