-- The elements at some starts, read in turn: those so far pass and their recipients are written, the order of those
-- from here on decides.
use mathlib.Core.Path.{◌≡◌, refl, ap, sym, subst, ◌∙◌}
use mathlib.Core.Bool.{Bool, true, false, cond}
use mathlib.Core.List.{List, [], ◌∷◌, ◌++◌}
use Prim.Native.Nat.{ℕ, ◌+◌, ◌*◌, ◌≤◌, ◌<◌}
use native.Mathlib.Omega.{arith}
use lib.ListN.{length, drop, get_or, drop_of_length-le}
use lib.Dec.{eqb}
use borrow.Author.Tests.{eq-eqb, ne_eqb}
use Rattle.prelude.specs.Buffer.{written}
use Rattle.prelude.proofs.Lists.{drop_next}
use Rattle.prelude.proofs.Writing.{Writing, begin, put_part, done}
use Rattle.prelude.specs.Refusals.{first, stage_of}
use Rattle.prelude.proofs.Refusals.{nonzero, first_skip}
use Rattle.headers.specs.Headers.{object_order}
use Rattle.prelude.specs.Refusals.{Stage}
use Rattle.prelude.specs.Refusals.{Passed, Refused}
use Rattle.headers.proofs.Stages.{passed_is, refused_is}
use Rattle.shape.specs.Shape.{recipient_of}
use Rattle.shape.specs.Recipients.{element_entries, element_order}
use Rattle.shape.specs.Inner.Answers.{three, flat_recipients, starts_order, passed_at, LeavesAt, recipient_width}
use Rattle.shape.proofs.Orders.{handed_up}

-- The numbers of the recipients that are written.
abbrev pub numbers_at : List ℕ → List ℕ → List ℕ
numbers_at message starts = flat_recipients (passed_at message starts)

-- The numbers of one.
abbrev pub numbers_of : List ℕ → ℕ → List ℕ
numbers_of message start = three (recipient_of (element_entries message start))

numbers_length : (message starts : List ℕ) → length (numbers_at message starts) ≤ length starts * recipient_width
unfolding flat_recipients passed_at
numbers_length message [] = omega arith
numbers_length message (x ∷ starts) = cases (eqb (first (element_order message x)) 0) (numbers_length message starts)
  where
    cases : (b : Bool) → length (numbers_at message starts) ≤ length starts * recipient_width →
        length (flat_recipients (cond b (recipient_of (element_entries message x) ∷ passed_at message starts) []))
        ≤ length (x ∷ starts) * recipient_width
    cases true h = omega arith
    cases false h = omega arith

pub element_nonzero : (message : List ℕ) (start : ℕ) → nonzero (element_order message start) ≡ true
unfolding element_order object_order
element_nonzero message start = refl

-- An element that passes, and one that does not, before others.
module _ (message : List ℕ) (start : ℕ) (rest : List ℕ) where
  taken : first (element_order message start) ≡ 0 →
      numbers_at message (start ∷ rest) ≡ numbers_of message start ++ numbers_at message rest
  unfolding flat_recipients passed_at
  taken e =
      ap (λ (b : Bool). flat_recipients (cond b (recipient_of (element_entries message start) ∷ passed_at message rest) []))
      (eq-eqb (first (element_order message start)) 0 e)

  stopped : (first (element_order message start) ≡ 0 → ⊥) → numbers_at message (start ∷ rest) ≡ []
  unfolding flat_recipients passed_at
  stopped e =
      ap (λ (b : Bool). flat_recipients (cond b (recipient_of (element_entries message start) ∷ passed_at message rest) []))
      (ne_eqb (first (element_order message start)) 0 e)

-- What is known before the i-th element is read.
pub record Reading (message starts : List ℕ) (i : ℕ) (before now : List ℕ) : Type 0 where
  pub order : first (starts_order message (drop i starts)) ≡ first (starts_order message starts)
  pub space : length starts * recipient_width ≤ length before
  pub wrote : Writing 0 (numbers_at message starts) before (numbers_at message (drop i starts)) (i * recipient_width) now

pub reading : (message starts before : List ℕ) → length starts * recipient_width ≤ length before →
    Reading message starts 0 before before
reading message starts before h = record {
  order = refl;
  space = h;
  wrote = begin 0 (numbers_at message starts) before (omega (arith, numbers_length message starts));
}

module _ {message starts before now : List ℕ} {i : ℕ} (r : Reading message starts i before now) where
  module _ (h : i < length starts) where
    next : drop i starts ≡ get_or starts i 0 ∷ drop (i + 1) starts
    next = drop_next starts i (i + 1) refl h

    here : first (element_order message (get_or starts i 0) ++ starts_order message (drop (i + 1) starts))
        ≡ first (starts_order message starts)
    unfolding starts_order
    here = sym (ap (λ (l : List ℕ). first (starts_order message l)) next) ∙ r.order

    -- There is room for one more.
    pub room : i * recipient_width + 3 ≤ length now
    room = omega (arith, r.space, r.wrote.same)

    module _ (answer : Stage) (n : ℕ) (a : answer ≡ stage_of (first (element_order message (get_or starts i 0))) n)
        (after : List ℕ) (l : LeavesAt (i * recipient_width) (numbers_of message (get_or starts i 0)) now after answer) where
      -- It passes.
      pub read_on : (k : ℕ) → answer ≡ Passed k → Reading message starts (i + 1) before after
      read_on k e =
          let told = passed_is k (first (element_order message (get_or starts i 0))) n (sym e ∙ a) in
          let w : after ≡ written (i * recipient_width) (numbers_of message (get_or starts i 0)) now =
          subst (λ (x : Stage). LeavesAt (i * recipient_width) (numbers_of message (get_or starts i 0)) now after x) e l in
          let parts : numbers_at message (drop i starts)
          ≡ numbers_of message (get_or starts i 0) ++ numbers_at message (drop (i + 1) starts) =
          ap (λ (l : List ℕ). numbers_at message l) next
          ∙ taken message (get_or starts i 0) (drop (i + 1) starts) told.0 in
          record {
            order =
                sym (first_skip (element_order message (get_or starts i 0)) (starts_order message (drop (i + 1) starts))
                (element_nonzero message (get_or starts i 0)) told.0)
                ∙ here;
            space = r.space;
            wrote =
                put_part (numbers_of message (get_or starts i 0)) (numbers_at message (drop (i + 1) starts)) parts
                r.wrote (omega arith) w;
          }

      -- It does not.
      module _ (m : ℕ) (e : answer ≡ Refused m) where
        same : after ≡ now
        same = subst (λ (y : Stage). LeavesAt (i * recipient_width) (numbers_of message (get_or starts i 0)) now after y) e l

        pub read_length : length after ≡ length before
        read_length = ap length same ∙ r.wrote.same

        none : numbers_at message (drop i starts) ≡ []
        none =
            let told = refused_is m (first (element_order message (get_or starts i 0))) n (sym e ∙ a) in
            ap (λ (l : List ℕ). numbers_at message l) next
            ∙ stopped message (get_or starts i 0) (drop (i + 1) starts) (λ z. omega (arith, z, told.0, told.1))

        pub read_refused : (k : ℕ) → (answer ≡ stage_of (first (starts_order message starts)) k)
            × (after ≡ written 0 (numbers_at message starts) before)
        read_refused k =
            let x = get_or starts i 0 in (
              e ∙ handed_up (element_order message x) (starts_order message (drop (i + 1) starts))
                  (element_nonzero message x) m n k (sym e ∙ a)
                  ∙ ap (λ (j : ℕ). stage_of j k) here,
              same ∙ done (subst (λ (l : List ℕ). Writing 0 (numbers_at message starts) before l (i * recipient_width) now) none r.wrote),
            )

  -- All are read.
  pub read_out : length starts ≤ i → (n : ℕ) → (Passed n ≡ stage_of (first (starts_order message starts)) n)
      × (now ≡ written 0 (numbers_at message starts) before)
  unfolding starts_order first stage_of flat_recipients passed_at
  read_out h n =
      let none : drop i starts ≡ [] = drop_of_length-le starts {i = i} h in (
        ap (λ (j : ℕ). stage_of j n) (sym (ap (λ (l : List ℕ). first (starts_order message l)) none) ∙ r.order),
        done (subst (λ (l : List ℕ). Writing 0 (numbers_at message starts) before (numbers_at message l) (i * recipient_width) now)
            none r.wrote),
      )
