-- What is known where a stage of a compact message passed, or refused: the decoded protected header, what is handed out.
use mathlib.Core.Path.{◌≡◌, refl, ap, ap₂, sym, ◌∙◌}
use mathlib.Core.Bool.{Bool, true, false, cond}
use mathlib.Core.List.{List}
use Prim.Native.Nat.{ℕ, ◌≤◌}
use native.Mathlib.Omega.{arith}
use lib.ListN.{length, take}
use borrow.Author.Tests.{ltb-false}
use Rattle.prelude.specs.Buffer.{written}
use Rattle.prelude.proofs.Writing.{written_length, begins}
use Rattle.rows.specs.Rows.{read_texts}
use Rattle.prelude.specs.Refusals.{first, stage_of}
use Rattle.jose.specs.HeaderRules.{mode_in}
use Rattle.headers.specs.Headers.{too_long, text_order}
use Rattle.headers.specs.Answers.{code_components, header_buffer}
use Rattle.prelude.specs.Refusals as stage
use Rattle.headers.proofs.Stages.{passed_is, not_long}
use Rattle.jwe.specs.Compact.{compact_components}
use Rattle.jwe.specs.Judge.{accepted}
use Rattle.jwe.specs.Inner.Outcomes.{compact_outcome}
use Rattle.jwe.specs.Answers.{numbers}
use Rattle.headers.specs.declared.Components.{Components}
use Rattle.jwe.proofs.CompactOrder.{header, entries}

-- The decoded header

-- What is known once it was decoded into a buffer, and 6 and 7 have passed.
pub record Read (header before after : List ℕ) (n : ℕ) : Type 0 where
  pub passes : first (text_order header) ≡ 0
  pub size : n ≡ length header
  pub left : after ≡ written 0 header before
  pub front : take n after ≡ header
  pub within : length header ≤ 4096
  pub same : length after ≡ length before
  pub fits : n ≤ length after

-- Whatever the answer, the buffer is as long as it was.
pub buffer_length : (header before : List ℕ) → length before ≡ 4096 →
    length (header_buffer header before) ≡ length before
unfolding header_buffer
buffer_length header before room = cases (too_long header) refl
  where
    cases : (b : Bool) → too_long header ≡ b → length (cond b before (written 0 header before)) ≡ length before
    cases true t = refl
    cases false t = written_length 0 header before (omega (arith, ltb-false 4096 (length header) t))

pub read_passed : (header before after : List ℕ) (n : ℕ) → length before ≡ 4096 →
    stage.Passed n ≡ stage_of (first (text_order header)) (length header) → after ≡ header_buffer header before →
    Read header before after n
unfolding header_buffer
read_passed header before after n room e l =
    let p = passed_is n (first (text_order header)) (length header) e in
    let short = not_long header p.0 in
    let size = ltb-false 4096 (length header) short in
    let left : after ≡ written 0 header before =
    l ∙ ap (λ (b : Bool). cond b before (written 0 header before)) short in
    let same = ap length left ∙ written_length 0 header before (omega (arith, size)) in
    record {
      passes = p.0;
      size = p.1;
      left = left;
      front = begins n header after before (sym p.1) left;
      within = size;
      same = same;
      fits = omega (arith, same, size, p.1);
    }

-- The numbers of an accepted compact message
pub accepted_are : (message : List ℕ) (m n count : ℕ) (q : Components) →
    q ≡ code_components (compact_components message) →
    m ≡ mode_in (read_texts (header message) message) (entries message) →
    n ≡ length (header message) → count ≡ length (entries message) →
    numbers (record {
      number = 0;
      form = 0;
      recipients = 1;
      mode = m;
      components = q;
      header = n;
      parameters = count;
    })
    ≡ accepted message (compact_outcome message)
unfolding accepted compact_outcome
accepted_are message m n count q e f g h =
    ap₂ (λ (x : Components) (y : ℕ). numbers (record {
      number = 0;
      form = 0;
      recipients = 1;
      mode = y;
      components = x;
      header = n;
      parameters = count;
    })) e f
    ∙ ap₂ (λ (x y : ℕ). numbers (record {
      number = 0;
      form = 0;
      recipients = 1;
      mode = mode_in (read_texts (header message) message) (entries message);
      components = code_components (compact_components message);
      header = x;
      parameters = y;
    })) g h
