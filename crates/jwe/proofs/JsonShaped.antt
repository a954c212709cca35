-- From the protected header on: what each header's stage tells, the entries of the protected and the shared header one
-- behind the
-- other, and the first refusal.
use mathlib.Core.Path.{◌≡◌, refl, ap, ap₂, sym, subst₂, ◌∙◌}
use mathlib.Core.Bool.{Bool, true, false, cond}
use mathlib.Core.List.{List, ◌++◌}
use Prim.Native.Nat.{ℕ, ◌+◌, ◌*◌, ◌≤◌, ◌<◌}
use native.Mathlib.Omega.{arith}
use lib.ListN.{length, take}
use borrow.Author.Tests.{ltb-false}
use Rattle.prelude.specs.Buffer.{written}
use Rattle.prelude.proofs.Writing.{written_length, begins}
use Rattle.rows.specs.Rows.{Entry, Texts, read_texts}
use Rattle.rows.specs.Tables.{entries_of, width}
use Rattle.rows.specs.Inner.Prints.{flat, collected_table, Printed}
use Rattle.rows.proofs.Entries.{entries_written, entries_more}
use Rattle.rows.proofs.Printing.{StandIn, entries_stand, printed_written, printed_more}
use Rattle.jose.specs.Registered.{registered}
use Rattle.prelude.specs.Refusals.{Test, first, stage_of}
use Rattle.headers.specs.Headers.{header_text, too_long, unread, text_order, outermost, protected_entries, members_of}
use Rattle.headers.specs.Headers.{header_entries, object_order}
use Rattle.headers.specs.Answers.{header_buffer}
use Rattle.prelude.specs.Refusals.{Passed}
use Rattle.headers.proofs.Stages.{passed_is}
use Rattle.headers.specs.Components.{absent}
use Rattle.shape.specs.Shape.{Recipient}
use Rattle.shape.specs.Recipients.{Top}
use Rattle.jwe.specs.General.{shared_entries, is_hollow, json_later}
use Rattle.jwe.specs.Inner.Stages.{text_tests, protected_tests, headed_order}
use Rattle.jwe.proofs.JsonOrder.{stop, skip, text_nonzero, protected_nonzero, object_nonzero, shaped_is}
use Rattle.jwe.proofs.JsonHeaders.{no_header, few}
use Rattle.jwe.proofs.OwnHeaders.{few_collected}

-- The decoded header in its buffer

pub record Begun (header before last : List ℕ) (n : ℕ) : Type 0 where
  pub wrote : last ≡ written 0 header before
  pub long : length last ≡ 4096
  pub small : length header ≤ 4096
  pub fits : n ≤ length last
  pub front : take n last ≡ header

-- The decoded protected header of what the top level holds.
abbrev pub text : List ℕ → Top → List ℕ
text message t = header_text message t.components.protected

module _ (message : List ℕ) (t : Top) (none : t.protected ≡ false → t.components.protected ≡ absent) where
  abbrev head : List ℕ
  head = text message t

  within : first (text_tests t.protected head) ≡ 0 → too_long head ≡ false
  unfolding text_tests text_order first
  within e = cases t.protected refl e
    where
      long : (b : Bool) → ◌≡◌ {A = ℕ} (cond b 6 (cond (unread head) 7 0)) 0 → b ≡ false
      long true e = absurd (omega (arith, e))
      long false e = refl

      cases : (b : Bool) → t.protected ≡ b → first (text_tests b head) ≡ 0 → too_long head ≡ false
      cases true e f = long (too_long head) f
      cases false e f = ap too_long (no_header message t.protected t.components.protected none e)

  pub begun : (before last : List ℕ) (n : ℕ) →
      Passed n ≡ stage_of (first (text_tests t.protected head)) (length head) →
      last ≡ header_buffer head before → length before ≡ 4096 → Begun head before last n
  unfolding header_buffer
  begun before last n a l room =
      let told = passed_is n (first (text_tests t.protected head)) (length head) a in
      let short = within told.0 in
      let small : length head ≤ 4096 = ltb-false 4096 (length head) short in
      let wrote : last ≡ written 0 head before =
      l ∙ ap (λ (b : Bool). cond b before (written 0 head before)) short in
      let long : length last ≡ 4096 = ap length wrote ∙ written_length 0 head before (omega (arith, room, small)) ∙ room in
      record {
        wrote = wrote;
        long = long;
        small = small;
        fits = omega (arith, told.1, small, long);
        front = begins n head last before (sym told.1) wrote;
      }

-- Entries that a header's stage collected, of a header that stands in the text s

pub record Collected (s : List ℕ) (es : List Entry) (from : ℕ) (before last : List ℕ) (n : ℕ) : Type 0 where
  pub count : n ≡ length es
  pub short : n ≤ 32
  pub wrote : last ≡ written (from * width) (flat s es) before

collected : (s : List ℕ) (es : List Entry) (from : ℕ) (before last : List ℕ) (n : ℕ) →
    first (object_order s es) ≡ 0 → n ≡ length es → last ≡ collected_table from s es before →
    Collected s es from before last n
collected s es from before last n e c l =
    let small = few s es e in
    record { count = c; short = omega (arith, c, small); wrote = l ∙ few_collected from s es before small }

-- The protected header's, by the text and the answer as the code has them.
module _ (header : List ℕ) (there : Bool) where
  object_passes : first (protected_tests there header) ≡ 0 → first (object_order header (protected_entries header)) ≡ 0
  unfolding protected_tests first
  object_passes e = cases there e
    where
      ten : (b : Bool) → ◌≡◌ {A = ℕ} (cond b 10 (first (object_order header (protected_entries header)))) 0 →
          first (object_order header (protected_entries header)) ≡ 0
      ten true e = absurd (omega (arith, e))
      ten false e = e

      cases : (b : Bool) → first (protected_tests b header) ≡ 0 → first (object_order header (protected_entries header)) ≡ 0
      cases true e = ten (is_hollow (outermost header)) e
      cases false e = e

  module _ (s : List ℕ) (b : Bool) (t : s ≡ header) (is : b ≡ there) where
    pub protected_as : stage_of (first (protected_tests b s)) (length (protected_entries s))
        ≡ stage_of (first (protected_tests there header)) (length (protected_entries header))
    protected_as =
        ap₂ (λ (l : List ℕ) (x : Bool). stage_of (first (protected_tests x l)) (length (protected_entries l))) t is

    pub protected_collected : (before last : List ℕ) (n : ℕ) →
        Passed n ≡ stage_of (first (protected_tests b s)) (length (protected_entries s)) →
        last ≡ collected_table 0 s (protected_entries s) before →
        (first (protected_tests there header) ≡ 0) × Collected header (protected_entries header) 0 before last n
    protected_collected before last n a l =
        let told = passed_is n (first (protected_tests there header)) (length (protected_entries header))
        (a ∙ protected_as) in (
          told.0,
          collected header (protected_entries header) 0 before last n (object_passes told.0) told.1
              (l ∙ ap (λ (x : List ℕ). collected_table 0 x (protected_entries x) before) t),
        )

-- The shared header's.
module _ (message : List ℕ) (t : Top) where
  pub shared_collected : (from : ℕ) (before last : List ℕ) (n : ℕ) →
      Passed n
      ≡ stage_of (first (object_order message (header_entries message 1 t.shared)))
      (length (header_entries message 1 t.shared)) →
      last ≡ collected_table from message (header_entries message 1 t.shared) before →
      (first (object_order message (shared_entries message t)) ≡ 0)
      × Collected message (shared_entries message t) from before last n
  unfolding shared_entries
  shared_collected from before last n a l =
      let told = passed_is n (first (object_order message (shared_entries message t))) (length (shared_entries message t)) a in (
        told.0,
        collected message (shared_entries message t) from before last n told.0 told.1 l,
      )

-- Both, one behind the other.
module _ {header message before table last : List ℕ} {es fs : List Entry} {p s : ℕ}
    (a : Collected header es 0 before table p) (b : Collected message fs p table last s)
    (long : length table ≡ 768) where
  pub behind : entries_of (p + s) last ≡ es ++ fs
  behind =
      ap₂ entries_of (ap (λ (k : ℕ). p + k) b.count) b.wrote
      ∙ entries_more p message fs table (omega (arith, a.short, long))
      ∙ ap (λ (l : List Entry). l ++ fs) (ap₂ entries_of a.count a.wrote ∙ entries_written header es before)

  -- With the fingerprints of their names.
  behind_printed : (ts : Texts) → StandIn ts header es → StandIn ts message fs → Printed ts (p + s) last
  behind_printed ts h k =
      let front = subst₂ (Printed ts) (sym a.count) (sym a.wrote) (printed_written ts header es before h) in
      subst₂ (Printed ts) (ap (λ (n : ℕ). p + n) (sym b.count)) (sym b.wrote)
      (printed_more ts p message fs table (omega (arith, a.short, long)) k front)

pub front_printed : {header message before table last : List ℕ} (t : Top) {p s : ℕ} →
    Collected header (protected_entries header) 0 before table p →
    Collected message (shared_entries message t) p table last s → length table ≡ 768 →
    Printed (read_texts header message) (p + s) last
unfolding protected_entries shared_entries header_entries
front_printed {header} {message} t a b long =
    behind_printed a b long (read_texts header message)
    (entries_stand registered (read_texts header message) header 0 (outermost header) refl)
    (entries_stand registered (read_texts header message) message 1 (members_of message t.shared) refl)

-- The refusals in order

module _ (known : List (List ℕ)) (message : List ℕ) (t : Top) (rs : List Recipient) (recipient : ℕ) where
  abbrev header : List ℕ
  header = text message t

  abbrev front : List Entry
  front = protected_entries header ++ shared_entries message t

  abbrev order : List Test
  order = json_later known message t rs recipient

  abbrev headed : List Test
  headed = headed_order known header message front t.components rs recipient

  abbrev there : Bool
  there = t.protected

  pub shaped_text : {n : ℕ} → first (text_tests there header) ≡ n → 0 < n → first order ≡ n
  shaped_text e h =
      ap first (shaped_is known message t rs recipient) ∙ stop (text_tests there header) _ (text_nonzero there header) e h

  module _ (decoded : first (text_tests there header) ≡ 0) where
    past_text : first order
        ≡ first (protected_tests there header ++ (object_order message (shared_entries message t) ++ headed))
    past_text =
        ap first (shaped_is known message t rs recipient)
        ∙ skip (text_tests there header) _ (text_nonzero there header) decoded

    pub shaped_protected : {n : ℕ} → first (protected_tests there header) ≡ n → 0 < n → first order ≡ n
    shaped_protected e h = past_text ∙ stop (protected_tests there header) _ (protected_nonzero there header) e h

    module _ (own : first (protected_tests there header) ≡ 0) where
      past_protected : first order ≡ first (object_order message (shared_entries message t) ++ headed)
      past_protected = past_text ∙ skip (protected_tests there header) _ (protected_nonzero there header) own

      pub shaped_shared : {n : ℕ} → first (object_order message (shared_entries message t)) ≡ n → 0 < n → first order ≡ n
      shaped_shared e h =
          past_protected
          ∙ stop (object_order message (shared_entries message t)) headed
          (object_nonzero message (shared_entries message t)) e h

      pub shaped_rest : first (object_order message (shared_entries message t)) ≡ 0 → first order ≡ first headed
      shaped_rest e =
          past_protected
          ∙ skip (object_order message (shared_entries message t)) headed
          (object_nonzero message (shared_entries message t)) e
