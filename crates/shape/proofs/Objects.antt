-- An object of the message, its members collected as entries of a table: refusals 8 and 9 on it, and then 10, as the
-- top level and an element of `recipients` ask it.
use mathlib.Core.Path.{◌≡◌, refl, ap, ap₂, sym, subst, ◌∙◌}
use mathlib.Core.Bool.{Bool, true, false, cond}
use mathlib.Core.List.{List, [], ◌∷◌, ◌++◌}
use Prim.Native.Nat.{ℕ, ◌*◌, ◌≤◌}
use native.Mathlib.Omega.{arith}
use lib.ListN.{length, length-map}
use lib.Dec.{ltb}
use borrow.Author.Tests.{ltb-false, le-leb}
use Rattle.prelude.specs.Buffer.{written}
use Rattle.prelude.proofs.Writing.{written_length}
use Rattle.grammar.specs.Places.{Member}
use Rattle.grammar.specs.Reader.{Answer, nothing, found, skip_space, members_at, read_text}
use Rattle.json_read.specs.Inner.Ends.{found_of}
use Rattle.json_read.specs.declared.Found.{Found}
use Rattle.std.specs.Prelude as std
use Rattle.rows.specs.Rows.{Entry, one_text, entry_of, entries_in, repeated}
use Rattle.rows.specs.Tables.{entries_of, width}
use Rattle.rows.specs.Inner.Prints.{flat, collected_table}
use Rattle.rows.proofs.Entries.{flat_length, entries_written}
use Rattle.prelude.specs.Refusals.{Test, ◌if◌, first, stage_of}
use Rattle.prelude.proofs.Refusals.{first_fails, first_passes}
use Rattle.headers.specs.Headers.{is_nothing, unread, outermost, object_order}
use Rattle.prelude.specs.Refusals.{Stage}
use Rattle.prelude.specs.Refusals.{Passed, Refused}
use Rattle.headers.proofs.Stages.{passed_is, object_nonzero}
use Rattle.headers.proofs.Texts.{no_value}
use Rattle.shape.specs.Shape.{member_names, member_entries, wrong_top, wrong_element}
use Rattle.shape.specs.Recipients.{top_entries, top_order, element_entries, element_order}
use Rattle.shape.specs.Inner.Answers.{top_table, LeavesAt}
use Rattle.shape.proofs.Orders.{handed_up, gone_on, both_pass, one_fails, one_passes}

entries_count : (names : List (List ℕ)) (s : List ℕ) (o : ℕ) (ms : List Member) →
    length (entries_in names s o ms) ≡ length ms
unfolding entries_in
entries_count names s o ms = length-map ms (entry_of names s o)

-- The answer on the members, in terms of the entries.
pub object_answer : (message : List ℕ) (es : List Entry) (names : List (List ℕ)) (ms : List Member) →
    entries_in names message 1 ms ≡ es → (answer : Stage) →
    answer ≡ stage_of (first (object_order message (entries_in names message 1 ms))) (length ms) →
    answer ≡ stage_of (first (object_order message es)) (length es)
object_answer message es names ms e answer a =
    a ∙ ap (λ (n : ℕ). stage_of (first (object_order message (entries_in names message 1 ms))) n)
    (sym (entries_count names message 1 ms))
    ∙ ap (λ (fs : List Entry). stage_of (first (object_order message fs)) (length fs)) e

-- The table, in the same terms.
pub object_table_lem : (s : List ℕ) (es fs : List Entry) (before last : List ℕ) → es ≡ fs →
    last ≡ collected_table 0 s es before → last ≡ collected_table 0 s fs before
object_table_lem s es fs before last e l = l ∙ ap (λ (gs : List Entry). collected_table 0 s gs before) e

-- What is known where it passes: the table begins with the entries.
pub record Entered (es : List Entry) (last : List ℕ) (count : ℕ) : Type 0 where
  pub counted : count ≡ length es
  pub entries : entries_of count last ≡ es
  pub fits : count * width ≤ length last

few : (s : List ℕ) (es : List Entry) → first (object_order s es) ≡ 0 → length es ≤ 32
unfolding first object_order
few s es e = ltb-false 32 (length es) (cases (ltb 32 (length es)) e)
  where
    cases : (b : Bool) → ◌≡◌ {A = ℕ} (cond b 8 (cond (repeated false (one_text s) es) 9 0)) 0 → b ≡ false
    cases true z = let absurdity : ◌≡◌ {A = ℕ} 8 0 = z in absurd (omega arith)
    cases false z = refl

room_for : (s : List ℕ) (es : List Entry) (before : List ℕ) → length es ≤ 32 → 256 ≤ length before →
    length (written 0 (flat s es) before) ≡ length before
room_for s es before h r = written_length 0 (flat s es) before (omega (arith, flat_length s es))

module _ (message : List ℕ) (es : List Entry) (before last : List ℕ) (left : last ≡ collected_table 0 message es before)
    (room : 256 ≤ length before) (answer : Stage) (a : answer ≡ stage_of (first (object_order message es)) (length es))
    (count : ℕ) (e : answer ≡ Passed count) where
  told : (first (object_order message es) ≡ 0) × (count ≡ length es)
  told = passed_is count (first (object_order message es)) (length es) (sym e ∙ a)

  within : length es ≤ 32
  within = few message es told.0

  entered_table : last ≡ written 0 (flat message es) before
  unfolding collected_table
  entered_table =
      left ∙ ap (λ (b : Bool). cond b (written 0 (flat message es) before) before) (le-leb (length es) 32 within)

  pub entered : Entered es last count
  entered = record {
    counted = told.1;
    entries = ap₂ entries_of told.1 entered_table ∙ entries_written message es before;
    fits = omega (arith, told.1, within, ap length entered_table, room_for message es before within room, room);
  }

module _ (message : List ℕ) (es : List Entry) (answer : Stage)
    (a : answer ≡ stage_of (first (object_order message es)) (length es)) where
  -- 8 or 9, and 10 behind them
  module _ (wrong : Bool) where
    pub object_refused : (m : ℕ) → answer ≡ Refused m →
        answer ≡ stage_of (first (object_order message es ++ (10 if wrong ∷ []))) (length es)
    object_refused m e =
        e ∙ handed_up (object_order message es) (10 if wrong ∷ []) (object_nonzero message es) m (length es) (length es)
        (sym e ∙ a)

    module _ (count : ℕ) (e : answer ≡ Passed count) where
      behind : stage_of (first (object_order message es ++ (10 if wrong ∷ []))) (length es)
          ≡ stage_of (first (10 if wrong ∷ [])) (length es)
      behind =
          gone_on (object_order message es) (10 if wrong ∷ []) (object_nonzero message es) count (length es) (length es)
          (sym e ∙ a)

      pub object_wrong : wrong ≡ true →
          Refused 10 ≡ stage_of (first (object_order message es ++ (10 if wrong ∷ []))) (length es)
      object_wrong w = one_fails wrong (length es) w ∙ sym behind

      pub object_passed : wrong ≡ false →
          answer ≡ stage_of (first (object_order message es ++ (10 if wrong ∷ []))) (length es)
      object_passed w =
          e ∙ ap Passed (passed_is count (first (object_order message es)) (length es) (sym e ∙ a)).1
          ∙ one_passes wrong (length es) w ∙ sym behind

-- An element

module _ (message : List ℕ) (at : ℕ) where
  pub element_entries_lem : (names : List (List ℕ)) → names ≡ member_names →
      entries_in names message 1 (members_at 12 message at) ≡ element_entries message at
  unfolding element_entries member_entries
  element_entries_lem names e = ap (λ (ns : List (List ℕ)). entries_in ns message 1 (members_at 12 message at)) e

  pub element_order_lem : (n : ℕ) → stage_of (first (object_order message (element_entries message at)
      ++ (10 if wrong_element message (element_entries message at) ∷ []))) n
      ≡ stage_of (first (element_order message at)) n
  unfolding element_order
  element_order_lem n = refl

-- What a refusal leaves.

pub leaves_refused : (at : ℕ) (numbers before : List ℕ) (r : Stage) (m : ℕ) → r ≡ Refused m →
    LeavesAt at numbers before before r
leaves_refused at numbers before r m e = subst (λ (x : Stage). LeavesAt at numbers before before x) (sym e) refl

-- The top level

by_reading : (a : Answer) → is_nothing a ≡ no_value (found_of a)
by_reading nothing = refl
by_reading (found e k) = refl

module _ (message : List ℕ) where
  pub top_entries_lem : (names : List (List ℕ)) → names ≡ member_names → (at : ℕ) → at ≡ skip_space message 0 →
      entries_in names message 1 (members_at 12 message at) ≡ top_entries message
  unfolding top_entries member_entries outermost
  top_entries_lem names e at p =
      ap₂ (λ (ns : List (List ℕ)) (a : ℕ). entries_in ns message 1 (members_at 12 message a)) e p

  pub unread_is : (answer : std.Option Found) → answer ≡ found_of (read_text 12 message) → unread message ≡ no_value answer
  unfolding unread
  unread_is answer a = by_reading (read_text 12 message) ∙ ap no_value (sym a)

  pub top_unread : (n : ℕ) → unread message ≡ true → Refused 7 ≡ stage_of (first (top_order message)) n
  unfolding top_order stage_of
  top_unread n e = ap (λ (m : ℕ). stage_of m n) (sym (first_fails (7 if unread message) _ e))

  module _ (table : List ℕ) where
    -- What is left in the table ..
    pub top_kept : unread message ≡ true → top_table message table ≡ table
    unfolding top_table
    top_kept e = ap (λ (b : Bool). cond b table (collected_table 0 message (top_entries message) table)) e

    pub top_collected : unread message ≡ false →
        top_table message table ≡ collected_table 0 message (top_entries message) table
    unfolding top_table
    top_collected e = ap (λ (b : Bool). cond b table (collected_table 0 message (top_entries message) table)) e

    -- .. and where nothing is refused it begins with the entries.
    pub top_written : first (top_order message) ≡ 0 →
        top_table message table ≡ written 0 (flat message (top_entries message)) table
    unfolding top_order collected_table
    top_written e = cases (unread message) refl
      where
        behind : List Test
        behind = object_order message (top_entries message) ++ (10 if wrong_top message (top_entries message) ∷ [])

        cases : (b : Bool) → unread message ≡ b →
            top_table message table ≡ written 0 (flat message (top_entries message)) table
        cases true u = absurd (omega (arith, sym (first_fails (7 if unread message) behind u) ∙ e))
        cases false u =
            let passed = both_pass (object_order message (top_entries message))
            (10 if wrong_top message (top_entries message) ∷ []) (object_nonzero message (top_entries message))
            (sym (first_passes (7 if unread message) behind u) ∙ e) in
            top_collected u
            ∙ ap (λ (b : Bool). cond b (written 0 (flat message (top_entries message)) table) table)
            (le-leb (length (top_entries message)) 32 (few message (top_entries message) passed.0))

  pub top_order_lem : (n : ℕ) → unread message ≡ false →
      stage_of (first (object_order message (top_entries message) ++ (10 if wrong_top message (top_entries message) ∷ []))) n
      ≡ stage_of (first (top_order message)) n
  unfolding top_order
  top_order_lem n e = ap (λ (m : ℕ). stage_of m n) (sym (first_passes (7 if unread message) _ e))
