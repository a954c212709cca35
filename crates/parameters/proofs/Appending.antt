-- Lines of one entry after the other.
use Rattle.std.proofs.Common.{◌≡◌, refl, ap, sym, ◌∙◌, Bool, true, false, not, Option, List, [], ◌∷◌, ◌++◌, append_assoc, ℕ, zero, suc, ◌+◌, ◌≤◌, ◌<◌, length, take, length-append, arith}
use lib.Dec.{eqb}
use mathlib.Core.Option as lists
use mathlib.Core.List.{flat_map, append-nil}
use native.Mathlib.Numerals.{add-one}
use lib.Seq.{take_all}
use Rattle.rows.specs.Rows.{Entry, Texts, name_in}
use Rattle.rows.proofs.Entries.{entries_length}
use Rattle.matching.specs.declared.Side as matching
use Rattle.matching.specs.Inner.Places.{nth}
use Rattle.matching.specs.Inner.Sides.{entries, entry_at}
use Rattle.matching.proofs.Partners.{nth_at, some_is}
use Rattle.parameters.specs.Lines.{Side, missing, Line, line, line_if}
use Rattle.parameters.specs.Parameters.{side_of, other_value, pair_lines, left_lines, only_right, right_lines}
use Rattle.parameters.specs.Inner.Kept.{Pairs, partner_of, differs, there}
use Rattle.parameters.specs.declared.Pair.{Pair}
use Rattle.matching.specs.Matching.{partner}

module _ (g : Entry → List Line) where
  flat_next : (es : List Entry) (i : ℕ) (e : Entry) → nth es i ≡ lists.some e →
      flat_map g (take (suc i) es) ≡ flat_map g (take i es) ++ g e
  unfolding nth flat_map
  flat_next [] i e p = let z : ◌≡◌ {A = ℕ} 0 1 = cc in absurd (omega arith)
  flat_next (x ∷ es) zero e p = append-nil (g x) ∙ ap g (some_is p)
  flat_next (x ∷ es) (suc i) e p =
      ap (λ (l : List Line). g x ++ l) (flat_next es i e p) ∙ sym (append_assoc (g x) (flat_map g (take i es)) (g e))

  pub lines_next : (s : matching.Side) (i : ℕ) → i < s.count →
      flat_map g (take i (entries s)) ++ g (entry_at s i) ≡ flat_map g (take (i + 1) (entries s))
  lines_next s i h =
      sym (ap (λ (k : ℕ). flat_map g (take k (entries s))) (add-one i)
      ∙ flat_next (entries s) i _ (nth_at i s.count s.table.now h))

  pub lines_all : (s : matching.Side) (i : ℕ) → s.count ≤ i → flat_map g (take i (entries s)) ≡ flat_map g (entries s)
  lines_all s i h = ap (flat_map g) (take_all i (entries s) (omega (arith, entries_length s.count s.table.now)))

-- A pair has two lines at most.
pub few_if : (b : Bool) (l : Line) → length (line_if b l) ≤ 1
few_if true l = omega arith
few_if false l = omega arith

pub few_pair : (n : ℕ) (e : Entry) (other : Bool) (o : lists.Option Entry) → length (pair_lines n e other o) ≤ 2
few_pair n e other lists.none = omega arith
few_pair n e other (lists.some f) =
    let moved = line_if (not (eqb e.origin f.origin)) (line 10 n (side_of e) (side_of f)) in
    let differs = line_if other (line 11 n (side_of e) (side_of f)) in
    omega (arith, length-append moved differs, few_if (not (eqb e.origin f.origin)) (line 10 n (side_of e) (side_of f)), few_if other (line 11 n (side_of e) (side_of f)))

-- The lines of a pair by the sides that the code has read.
pub pair_put : (n : ℕ) (e f : Entry) (other : Bool) (before : List Line) {mine yours : Side} {between after : List Line} →
    mine ≡ side_of e → yours ≡ side_of f → between ≡ before ++ line_if (not (eqb mine.origin yours.origin)) (line 10 n mine yours) →
    after ≡ between ++ line_if other (line 11 n mine yours) → after ≡ before ++ pair_lines n e other (lists.some f)
pair_put n e f other before {mine} {yours} {between} {after} m y moved is =
    is ∙ ap (λ (x : List Line). x ++ line_if other (line 11 n mine yours)) moved
    ∙ append_assoc before (line_if (not (eqb mine.origin yours.origin)) (line 10 n mine yours)) (line_if other (line 11 n mine yours))
    ∙ ap (λ (x : Side). before ++ (line_if (not (eqb x.origin yours.origin)) (line 10 n x yours) ++ line_if other (line 11 n x yours))) m
    ∙ ap (λ (x : Side). before ++ (line_if (not (eqb e.origin x.origin)) (line 10 n (side_of e) x) ++ line_if other (line 11 n (side_of e) x))) y

-- Those of a left parameter, by its pair.
pub left_of : (ls rs : Texts) (n : ℕ) (e : Entry) (fs : List Entry) (p : Option Pair) → Pairs ls rs e fs fs p →
    pair_lines n e (differs p) (partner_of fs p) ≡ left_lines ls rs fs n e
unfolding left_lines
left_of ls rs n e fs p k =
    ap (λ (b : Bool). pair_lines n e b (partner_of fs p)) k.other
    ∙ sym (ap (λ (x : lists.Option Entry). pair_lines n e (other_value ls rs e x) x) k.is)

only_one : (n : ℕ) (f : Entry) (x : lists.Option Entry) → line_if (not (there x)) (line 9 n missing (side_of f)) ≡ only_right n f x
only_one n f lists.none = refl
only_one n f (lists.some g) = refl

-- That of a right parameter, by whether it has a partner.
pub right_of : (ls rs : Texts) (n : ℕ) (f : Entry) (es : List Entry) {b : Bool} {m y : Side} → b ≡ there (partner ls (name_in rs f) es) →
    m ≡ missing → y ≡ side_of f → line_if (not b) (line 9 n m y) ≡ right_lines ls rs es n f
unfolding right_lines
right_of ls rs n f es {b} {m} {y} e p q =
    let o = partner ls (name_in rs f) es in
    ap (λ (c : Bool). line_if (not c) (line 9 n m y)) e ∙ ap (λ (x : Side). line_if (not (there o)) (line 9 n x y)) p
    ∙ ap (λ (x : Side). line_if (not (there o)) (line 9 n missing x)) q ∙ only_one n f o

-- A turn of a loop that puts the lines of one entry after the other.
pub added : (g : Entry → List Line) (s : matching.Side) (i : ℕ) (before : List Line) → i < s.count → {now next put : List Line} →
    now ≡ before ++ flat_map g (take i (entries s)) → put ≡ g (entry_at s i) → next ≡ now ++ put →
    next ≡ before ++ flat_map g (take (i + 1) (entries s))
added g s i before h {now} {next} {put} e p is =
    is ∙ ap (λ (x : List Line). x ++ put) e ∙ append_assoc before (flat_map g (take i (entries s))) put
    ∙ ap (λ (x : List Line). before ++ (flat_map g (take i (entries s)) ++ x)) p ∙ ap (λ (x : List Line). before ++ x) (lines_next g s i h)
