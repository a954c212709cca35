-- The report by what the reader answers: too long, accepted with the numbers of its result and its list, or refused.
use mathlib.Core.Path.{◌≡◌, refl, ap, ap₂, sym, ◌∙◌}
use mathlib.Core.Bool.{Bool, true, false, cond}
use mathlib.Core.List.{List, ◌++◌}
use Prim.Native.Nat.{ℕ, ◌+◌, ◌≤◌, ◌<◌}
use native.Mathlib.Omega.{arith}
use Rattle.std.specs.Prelude.{None, Some}
use lib.ListN.{length, drop, get_or}
use lib.Dec.{eqb, ltb}
use borrow.Author.Tests.{lt-ltb, le-ltb, eq-eqb, ne_eqb, eqb-true}
use Rattle.rows.specs.Rows.{read_texts}
use Rattle.prelude.specs.Buffer.{written}
use Rattle.prelude.specs.Refusals.{first}
use Rattle.prelude.proofs.Outputs.{writes_refused, writes_done}
use Rattle.grammar.proofs.Endings.{either}
use Rattle.rows.specs.Tables.{listed}
use Rattle.rows.proofs.Entries.{listed_length}
use Rattle.jose.specs.HeaderRules.{mode_in}
use Rattle.jwe.specs.Judge.{refusal, Outcome, outcome, accepted, refused, result_of, list_after}
use Rattle.jwe.specs.Answers.{numbers}
use Rattle.jwe.specs.Answers.{Result}
use Rattle.meets.proofs.HandedFits.{handed_fits}
use Rattle.report.specs.Report.{most_read, first_line, component_lines, too_long, refused_report, accepted_report, reading, report}
use Rattle.report.specs.Answers.{report_room, report_order, report_refusal, Reports, list_lines, result_report}
use Rattle.report.proofs.Listing.{listed_lines}

-- The report on an accepted message

-- By the eighteen numbers and the list.
abbrev numbers_report : List ℕ → List ℕ → List ℕ
numbers_report ns list =
    first_line (get_or ns 1 0) (get_or ns 2 0) (get_or ns 3 0)
    ++ (component_lines (record {
      protected = record { start = get_or ns 4 0; size = get_or ns 5 0 };
      key = record { start = get_or ns 6 0; size = get_or ns 7 0 };
      iv = record { start = get_or ns 8 0; size = get_or ns 9 0 };
      aad = record { start = get_or ns 10 0; size = get_or ns 11 0 };
      ciphertext = record { start = get_or ns 12 0; size = get_or ns 13 0 };
      tag = record { start = get_or ns 14 0; size = get_or ns 15 0 };
    })
    ++ list_lines (get_or ns 17 0) list)

result_accepted : (message : List ℕ) (x : Outcome) (r : Result) (list before : List ℕ) → numbers r ≡ accepted message x →
    list ≡ written 0 (listed x.entries) before → result_report r list ≡ accepted_report message x
unfolding accepted accepted_report written
result_accepted message x r list before e w =
    ap₂ numbers_report e w
    ∙ ap (λ (l : List ℕ). first_line x.form x.recipients (mode_in (read_texts x.header message) x.entries)
    ++ (component_lines x.components ++ l))
    (listed_lines x.entries (drop (0 + length (listed x.entries)) before))

-- What the reader answers to this message, with as much lent as it asks for
module _ (message : List ℕ) where
  abbrev pub number : ℕ
  number = refusal (reading message)

  module _ (r : Result) (e : numbers r ≡ result_of (reading message)) where
    pub number_is : r.number ≡ number
    unfolding result_of accepted refused
    number_is =
        ap (λ (l : List ℕ). get_or l 0 0) e
        ∙ either (λ (l : List ℕ). get_or l 0 0 ≡ number) (eqb number 0) (λ t. sym (eqb-true number 0 t)) (λ _. refl)

    -- accepted: the numbers of the outcome, at most 96 parameters, and the list
    module _ (z : r.number ≡ 0) where
      abbrev passed : number ≡ 0
      passed = sym number_is ∙ z

      numbers_accepted : numbers r ≡ accepted message (outcome message 0)
      unfolding result_of
      numbers_accepted =
          e ∙ ap (λ (b : Bool). cond b (accepted message (outcome message 0)) (refused number)) (eq-eqb number 0 passed)

      pub parameters_few : r.parameters ≤ 96
      unfolding accepted
      parameters_few =
          omega (
            arith,
            ap (λ (l : List ℕ). get_or l 17 0) numbers_accepted,
            (handed_fits (reading message) passed).1,
            listed_length (outcome message 0).entries,
          )

      pub report_accepted : (before list : List ℕ) → list ≡ list_after (reading message) before →
          result_report r list ≡ accepted_report message (outcome message 0)
      unfolding list_after
      report_accepted before list w =
          result_accepted message (outcome message 0) r list before numbers_accepted
          (w ∙ ap (λ (b : Bool). cond b (written 0 (listed (outcome message 0).entries) before) before)
          (eq-eqb number 0 passed))

-- The answers

module _ (message out : List ℕ) where
  by_room : (b : Bool) → ltb (length out) report_room ≡ b → report_refusal (length out) ≡ cond b 1 0
  unfolding report_refusal report_order first
  by_room b e = ap (λ (t : Bool). cond t 1 0) e

  pub too_short : length out < report_room → Reports message out None out
  too_short h = record {
    writes =
        writes_refused (report_refusal (length out)) (report message) out 1
        (sym (by_room true (lt-ltb (length out) report_room h))) (λ z. omega arith);
    fits = omega arith;
  }

  module _ (room : report_room ≤ length out) where
    -- a text was written at the output's start, within it
    abbrev pub Put : List ℕ → ℕ → List ℕ → Type 0
    Put text n last = (n ≡ length text) × ((last ≡ written 0 text out) × (n ≤ length out))

    reported : (text : List ℕ) → report message ≡ text → (n : ℕ) (last : List ℕ) → Put text n last →
        Reports message out (Some n) last
    reported text e n last p = record {
      writes =
          writes_done (report_refusal (length out)) (report message) out
          (by_room false (le-ltb (length out) report_room room)) n last (p.0 ∙ ap length (sym e))
          (p.1.0 ∙ ap (λ (l : List ℕ). written 0 l out) (sym e));
      fits = p.1.1;
    }

    pub reports_long : most_read < length message → (n : ℕ) (last : List ℕ) → Put too_long n last → Reports message out (Some n) last
    unfolding report
    reports_long h =
        reported too_long
        (ap (λ (b : Bool). cond b too_long
        (cond (eqb (number message) 0) (accepted_report message (outcome message 0)) (refused_report (number message))))
        (lt-ltb most_read (length message) h))

    module _ (read : length message ≤ most_read) where
      by_number : (t : Bool) → eqb (number message) 0 ≡ t →
          report message
          ≡ cond t (accepted_report message (outcome message 0)) (refused_report (number message))
      unfolding report
      by_number t e =
          ap₂ (λ (b d : Bool). cond b too_long
          (cond d (accepted_report message (outcome message 0)) (refused_report (number message))))
          (le-ltb most_read (length message) read) e

      pub reports_accepted : number message ≡ 0 → (text : List ℕ) → text ≡ accepted_report message (outcome message 0) →
          (n : ℕ) (last : List ℕ) → Put text n last → Reports message out (Some n) last
      reports_accepted z text e = reported text (by_number _ (eq-eqb (number message) 0 z) ∙ sym e)

      pub reports_refused : (k : ℕ) → k ≡ number message → (k ≡ 0 → ⊥) → (n : ℕ) (last : List ℕ) →
          Put (refused_report k) n last → Reports message out (Some n) last
      reports_refused k e z =
          reported (refused_report k)
          (by_number _ (ne_eqb (number message) 0 (λ q. z (e ∙ q))) ∙ ap refused_report (sym e))
