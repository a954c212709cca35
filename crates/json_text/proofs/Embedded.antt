-- What reads alone reads the same where it stands in a larger text: w between a and b. Of b it matters only that it does not
-- go on with an octet of a number, as a comma and a closing bracket do not.
use mathlib.Core.Path.{◌≡◌, refl, sym, ap, ap₂, subst, ◌∙◌}
use mathlib.Core.List.{List, [], ◌++◌, map, append_assoc, append-nil}
use Prim.Native.Nat.{ℕ, ◌+◌, ◌≤◌}
use native.Mathlib.Omega.{arith}
use lib.ListN.{length, length-append, take, drop}
use lib.Seq.{drop-append_seam, drop-drop, drop-append-le, take-append-le}
use lib.ListN.{length-drop}
use lib.Dec.{T}
use Rattle.grammar.specs.Grammar.{octets, Value, nested, empty, string, number, literal, leaves_value, leaves}
use Rattle.grammar.specs.Places.{Place, Placed, item, placed, placed_text, start_of, size_of, kind_of, parts_of, kind}
use Rattle.grammar.specs.Places.{members, elements}
use Rattle.grammar.specs.Reader.{found, value_at, skip_space, members_at, elements_at}
use Rattle.grammar.specs.Readings.{Reading, octets_at}
use Rattle.grammar.specs.Shown.{Shown, Everywhere}
use Rattle.grammar.proofs.Scan.{halts, is_number_lem, space_halts}
use Rattle.grammar.proofs.Positions.{Rest}
use Rattle.grammar.proofs.Shown.{everywhere}
use Rattle.grammar.proofs.Decide.{rest_value}
use Rattle.grammar.proofs.Theorems.{read_complete, read_shows}
use Rattle.json_text.specs.Moved.{moved_member}
use Rattle.json_text.specs.Inner.Placed.{moved_place, moved, moved_parts}
use Rattle.json_text.proofs.Moved.{placed_moved, members_moved}

-- From octet m on stands w in s, and behind it nothing that a number could go on with.
pub record Stands (s : List ℕ) (m : ℕ) (w : List ℕ) : Type 0 where
  pub after : List ℕ
  pub is : drop m s ≡ w ++ after
  pub ends : T (halts is_number_lem after)

-- Between a and b.
pub between : (a w b : List ℕ) → T (halts is_number_lem b) → Stands (a ++ (w ++ b)) (length a) w
between a w b h = record { after = b; is = drop-append_seam a (w ++ b); ends = h }

-- Alone.
pub stands_whole : (s : List ℕ) → Stands s 0 s
stands_whole s = record { after = []; is = sym (append-nil s); ends = tt }

-- The octets at a place of w are those at the place moved.
pub octets_moved : {s : List ℕ} {m : ℕ} {w : List ℕ} → Stands s m w → (q : Place) → q.start + q.size ≤ length w →
    octets_at s (moved_place m q) ≡ octets_at w q
octets_moved {s} {m} {w} h q f =
    let d = length-drop q.start w in
    ap (take q.size)
    (sym (drop-drop q.start m s) ∙ ap (drop q.start) h.is ∙ drop-append-le q.start w h.after (omega arith))
    ∙ take-append-le q.size (drop q.start w) h.after (omega arith)

before_fits : (l : ℕ) (w : List ℕ) (r : Reading l w) → length (octets r.text.before) ≤ length w
unfolding leaves
before_fits l w r =
    let e = ap length r.reads in
    let f = length-append (octets r.text.before) (leaves_value r.text.value ++ octets r.text.after) in
    omega arith

-- The reader shows everything in w, moved.
pub embedded_shows : (l : ℕ) {s : List ℕ} {m : ℕ} {w : List ℕ} (r : Reading l w) → Stands s m w →
    Everywhere (Shown l s) (moved m (placed_text r.text))
unfolding placed_text
embedded_shows l {s} {m} {w} r h =
    let t = r.text in
    let n = length (octets t.before) in
    let b = h.after in
    let stands : Rest s (m + n) (leaves_value t.value ++ (octets t.after ++ b)) = record {
      is =
          sym (drop-drop n m s)
          ∙ ap (drop n) h.is
          ∙ drop-append-le n w b (before_fits l w r)
          ∙ ap (λ z. z ++ b) (rest_value w t r.reads).is
          ∙ append_assoc (leaves_value t.value) (octets t.after) b;
    } in
    subst (Everywhere (Shown l s)) (placed_moved m t.value n)
    (everywhere s l t.value (m + n) (octets t.after ++ b) stands (space_halts t.after b h.ends) r.within
    r.pairs)

-- What is shown of a value, by its parts.

pub here : (P : Placed → Type 0) (p : Placed) → Everywhere P p → P p
unfolding Everywhere
here P (item k q ps) h = h.0

pub shown_end : (l : ℕ) (s : List ℕ) (p : Placed) → Shown l s p →
    value_at l s (start_of p) ≡ found (start_of p + size_of p) (kind_of p)
unfolding Shown
shown_end l s (item k q ps) h = h.0

pub shown_members : (l : ℕ) (s : List ℕ) (p : Placed) → Shown l s p → kind_of p ≡ 0 → members_at l s (start_of p)
    ≡ members (parts_of p)
unfolding Shown
shown_members l s (item k q ps) h = h.1

pub shown_elements : (l : ℕ) (s : List ℕ) (p : Placed) → Shown l s p → kind_of p ≡ 1 → elements_at l s (start_of p)
    ≡ elements (parts_of p)
unfolding Shown
shown_elements l s (item k q ps) h = h.2

moved_start : (m : ℕ) (p : Placed) → start_of (moved m p) ≡ m + start_of p
unfolding moved
moved_start m (item k q ps) = refl

moved_kind : (m : ℕ) (p : Placed) → kind_of (moved m p) ≡ kind_of p
unfolding moved
moved_kind m (item k q ps) = refl

moved_size : (m : ℕ) (p : Placed) → size_of (moved m p) ≡ size_of p
unfolding moved
moved_size m (item k q ps) = refl

moved_parts_lem : (m : ℕ) (p : Placed) → parts_of (moved m p) ≡ moved_parts m (parts_of p)
unfolding moved
moved_parts_lem m (item k q ps) = refl

pub placed_kind : (v : Value) (n : ℕ) → kind_of (placed n v) ≡ kind v
unfolding placed kind
placed_kind (nested b x es y) n = refl
placed_kind (empty b x y) n = refl
placed_kind (string x) n = refl
placed_kind (number x) n = refl
placed_kind (literal x) n = refl

pub text_kind : (l : ℕ) (w : List ℕ) (r : Reading l w) → kind_of (placed_text r.text) ≡ 0
unfolding placed_text
text_kind l w r = placed_kind r.text.value _ ∙ r.object

-- Where the object of w begins in s, past the space of w, the reader finds its end and its members, moved.
pub embedded_end : (l : ℕ) {s : List ℕ} {m : ℕ} {w : List ℕ} (r : Reading l w) → Stands s m w →
    value_at l s (m + skip_space w 0) ≡ found (m + skip_space w 0 + size_of (placed_text r.text)) 0
embedded_end l {s} {m} {w} r h =
    let p = placed_text r.text in
    let e : start_of (moved m p) ≡ m + skip_space w 0 = moved_start m p ∙ ap (λ k. m + k) (read_complete l w r).1 in
    ap (value_at l s) (sym e)
    ∙ shown_end l s (moved m p) (here _ (moved m p) (embedded_shows l r h))
    ∙ ap₂ found (ap₂ ◌+◌ e (moved_size m p)) (moved_kind m p ∙ text_kind l w r)

pub embedded_members : (l : ℕ) {s : List ℕ} {m : ℕ} {w : List ℕ} (r : Reading l w) → Stands s m w →
    members_at l s (m + skip_space w 0) ≡ map (moved_member m) (members_at l w (skip_space w 0))
embedded_members l {s} {m} {w} r h =
    let p = placed_text r.text in
    let starts = (read_complete l w r).1 in
    let alone = shown_members l w p (here _ p (read_shows l w r)) (text_kind l w r) in
    let there = shown_members l s (moved m p) (here _ (moved m p) (embedded_shows l r h))
    (moved_kind m p ∙ text_kind l w r) in
    ap (λ k. members_at l s (m + k)) (sym starts)
    ∙ ap (members_at l s) (sym (moved_start m p))
    ∙ there
    ∙ ap members (moved_parts_lem m p)
    ∙ members_moved m (parts_of p)
    ∙ ap (map (moved_member m)) (sym alone)
    ∙ ap (λ k. map (moved_member m) (members_at l w k)) starts
