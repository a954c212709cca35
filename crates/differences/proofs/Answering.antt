-- The answer by the lines that were put, and by both refusals.
use mathlib.Core.Path.{◌≡◌, refl, ap, ap₂, sym, subst, ◌∙◌}
use mathlib.Core.Bool.{Bool, true, false, ◌&&◌, cond}
use mathlib.Core.List.{List, []}
use mathlib.Core.Logic.{◌⊎◌, inl, inr}
use Prim.Native.Nat.{ℕ, ◌*◌, ◌≤◌, ◌<◌}
use native.Mathlib.Omega.{arith}
use Rattle.std.specs.Prelude.{Option, Result, Ok, Err}
use Rattle.std.specs.Result.{result_err}
use lib.ListN.{length, take}
use lib.Dec.{eqb, leb}
use borrow.Author.Tests.{le-leb, lt-leb, ne_eqb}
use Rattle.prelude.specs.Buffer.{written}
use Rattle.prelude.specs.Limits.{most_recipients}
use Rattle.rows.specs.Tables.{recipient_table}
use Rattle.shape.specs.Inner.Answers.{recipients_room}
use Rattle.jwe.specs.Judge.{held}
use Rattle.jwe.specs.Inner.Stages.{own_table}
use Rattle.jwe.specs.Inner.Holding.{Holds}
use Rattle.jwe.specs.Answers.{holding_of, as_holding}
use Rattle.jwe.specs.declared.Holding.{Holding}
use Rattle.parameters.specs.Lines.{Line, line_width, laid}
use Rattle.differences.specs.Differences.{compared, differences}
use Rattle.differences.specs.Answers.{refusal_of, both_accepted, holds_all, compare_number, shown_lines, Answer, answer_of, refusal_number, as_answer, Compares}
use Rattle.differences.specs.Inner.Holding.{Judges, Fronted}
use Rattle.differences.specs.Inner.Handing.{Answers}
use Rattle.differences.specs.declared.Unanswered.TheVariants.{Refused}
use Rattle.prelude.specs.declared.refusal.Refusal.{Refusal}

-- Where both are accepted: the list is too short, or holds all.
module _ (ls : List Line) (before : List ℕ) where
  abbrev by : Bool → List Line
  by b = cond b ls []

  pub answers_short : length before < length ls * line_width → Answers ls before (record { number = 1; left = 0; right = 0; lines = 0 }) before
  unfolding written laid
  answers_short h =
      let none : leb (length ls * line_width) (length before) ≡ false = lt-leb (length ls * line_width) (length before) h in
      record {
        number = sym (ap (λ (b : Bool). cond b 0 1) none);
        accepted = (refl, refl);
        lines = sym (ap (λ (b : Bool). length (by b)) none);
        leaves = sym (ap (λ (b : Bool). written 0 (laid (by b)) before) none);
      }

  pub answers_all : (count : ℕ) (after : List ℕ) → count ≡ length ls → length ls * line_width ≤ length before →
      after ≡ written 0 (laid ls) before → Answers ls before (record { number = 0; left = 0; right = 0; lines = count }) after
  answers_all count after e h w =
      let all : leb (length ls * line_width) (length before) ≡ true = le-leb (length ls * line_width) (length before) h in
      record {
        number = sym (ap (λ (b : Bool). cond b 0 1) all);
        accepted = (refl, refl);
        lines = e ∙ sym (ap (λ (b : Bool). length (by b)) all);
        leaves = w ∙ sym (ap (λ (b : Bool). written 0 (laid (by b)) before) all);
      }

-- By both refusals.
module _ (left right known before : List ℕ) where
  abbrev ls : List Line
  ls = differences (compared left) (compared right)

  -- What stands in the answer and in the list, by whether both are accepted.

  abbrev number_by : Bool → ℕ
  number_by b = cond b (cond (holds_all left right (length before)) 0 1) 0

  abbrev lines_by : Bool → List Line
  lines_by b = cond (b && holds_all left right (length before)) ls []

  refused_both : both_accepted left right known ≡ false →
      Compares left right known before (answer_of 0 (refusal_of left known) (refusal_of right known) 0) before
  unfolding compare_number shown_lines written laid
  refused_both gone = record {
    number = sym (ap number_by gone);
    left_refused = refl;
    right_refused = refl;
    lines = sym (ap (λ (b : Bool). length (lines_by b)) gone);
    leaves = sym (ap (λ (b : Bool). written 0 (laid (lines_by b)) before) gone);
  }

  not_both : (m n : ℕ) → ((m ≡ 0 → ⊥) ⊎ (n ≡ 0 → ⊥)) → (eqb m 0 && eqb n 0) ≡ false
  not_both m n (inl h) = ap (λ (b : Bool). b && eqb n 0) (ne_eqb m 0 h)
  not_both m n (inr h) = ap (λ (b : Bool). eqb m 0 && b) (ne_eqb n 0 h) ∙ and_no (eqb m 0)
    where
      and_no : (b : Bool) → (b && false) ≡ false
      and_no true = refl
      and_no false = refl

  err_number : (x : Result Holding Refusal) → refusal_number (result_err x) ≡ (as_holding x).number
  err_number (Ok h) = refl
  err_number (Err e) = refl

  -- Whether both are accepted, by the two refusals.

  pub not_accepted : (m n : ℕ) → m ≡ refusal_of left known → n ≡ refusal_of right known → ((0 < m) ⊎ (0 < n)) →
      both_accepted left right known ≡ false
  not_accepted m n e f h = sym (ap₂ (λ (x y : ℕ). eqb x 0 && eqb y 0) e f) ∙ not_both m n (above h)
    where
      above : ((0 < m) ⊎ (0 < n)) → ((m ≡ 0 → ⊥) ⊎ (n ≡ 0 → ⊥))
      above (inl k) = inl (λ z. omega arith)
      above (inr k) = inr (λ z. omega arith)

  pub are_accepted : (m n : ℕ) → m ≡ refusal_of left known → n ≡ refusal_of right known → m ≡ 0 → n ≡ 0 → both_accepted left right known ≡ true
  are_accepted m n e f z w = ap₂ (λ (x y : ℕ). eqb x 0 && eqb y 0) (sym e ∙ z) (sym f ∙ w)

  pub compares_refused : (l r : Result Holding Refusal) {a b : Option Refusal} → (as_holding l).number ≡ refusal_of left known →
      (as_holding r).number ≡ refusal_of right known → a ≡ result_err l → b ≡ result_err r →
      ((0 < (as_holding l).number) ⊎ (0 < (as_holding r).number)) → Compares left right known before (as_answer (Err (Refused a b))) before
  compares_refused l r {a} {b} e f p q h =
      let m : refusal_number a ≡ refusal_of left known = ap refusal_number p ∙ err_number l ∙ e in
      let n : refusal_number b ≡ refusal_of right known = ap refusal_number q ∙ err_number r ∙ f in
      let gone : both_accepted left right known ≡ false = not_accepted (as_holding l).number (as_holding r).number e f h in
      subst (λ (x : Answer). Compares left right known before x before) (sym (ap₂ (λ (x y : ℕ). answer_of 0 x y 0) m n)) (refused_both gone)

  pub compares_accepted : (m n : ℕ) (r : Answer) (after : List ℕ) → m ≡ refusal_of left known → n ≡ refusal_of right known → m ≡ 0 →
      n ≡ 0 → Answers ls before r after → Compares left right known before r after
  unfolding compare_number shown_lines
  compares_accepted m n r after e f z w a =
      let yes : both_accepted left right known ≡ true = are_accepted m n e f z w in
      record {
        number = a.number ∙ sym (ap number_by yes);
        left_refused = a.accepted.0 ∙ sym z ∙ e;
        right_refused = a.accepted.1 ∙ sym w ∙ f;
        lines = a.lines ∙ sym (ap (λ (b : Bool). length (lines_by b)) yes);
        leaves = a.leaves ∙ sym (ap (λ (b : Bool). written 0 (laid (lines_by b)) before) yes);
      }

-- A message as `hold` leaves it, and its table.

pub judged : (message : List ℕ) (x : Holding) (text table of own counts : List ℕ) →
    Holds message (held message) (holding_of x) text table of own counts → length of ≡ recipients_room → length own ≡ own_table →
    length counts ≡ most_recipients → Judges message (take x.header text) x of own counts
judged message x text table of own counts h o w k = record {
  decoded = h.header;
  form = h.form;
  recipients = h.recipients;
  few = h.few;
  components = h.components;
  share = h.share;
  keys = o;
  owned = w;
  counted = k;
}

pub fronted : (message : List ℕ) (x : Holding) (text table of own counts : List ℕ) →
    Holds message (held message) (holding_of x) text table of own counts → length table ≡ recipient_table → Fronted message x.common table
fronted message x text table of own counts h t = record { front = h.common; long = t }
