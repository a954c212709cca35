-- The text of a protected header: what decoding answers of it and leaves, and refusals 6 and 7 on it.
use mathlib.Core.Path.{◌≡◌, refl, ap, ap₂, sym, ◌∙◌}
use mathlib.Core.Bool.{Bool, true, false, cond, true≢false}
use mathlib.Core.List.{List}
use Prim.Native.Nat.{ℕ, ◌≤◌}
use native.Mathlib.Omega.{arith}
use lib.ListN.{length, take}
use lib.Dec.{ltb}
use borrow.Author.Tests.{ltb-false}
use Rattle.prelude.specs.Buffer.{written}
use Rattle.prelude.proofs.Writing.{written_length, begins}
use Rattle.base64url.specs.Fault.{Fault, none, at, fault}
use Rattle.base64url.specs.Base64url.{decoded}
use Rattle.base64url.specs.Answers.{of_fault, decode_order, decode_refusal, decode_number, decode_count, Decodes}
use Rattle.std.specs.Prelude.{Result, Ok, Err, is_ok}
use Rattle.base64url.specs.declared.DecodeError.{DecodeError}
use Rattle.base64url.specs.declared.DecodeError.TheVariants.{Misspelled, Short}
use Rattle.parts.specs.Parts.{part}
use Rattle.grammar.specs.Places.{Place}
use Rattle.grammar.specs.Reader.{Answer, nothing, found, read_text}
use Rattle.json_read.specs.Inner.Ends.{found_of}
use Rattle.json_read.specs.declared.Found.{Found}
use Rattle.std.specs.Prelude as std
use Rattle.std.specs.Prelude.{Some, None}
use Rattle.prelude.specs.Refusals.{first, stage_of}
use Rattle.prelude.specs.Outputs.{octets_written, output_after}
use Rattle.headers.specs.Components.{octets_at, misspelled}
use Rattle.headers.specs.Headers.{header_text, too_long, is_nothing, unread, text_order}
use Rattle.headers.specs.Answers.{header_buffer}
use Rattle.prelude.specs.Refusals.{Passed, Refused}

-- What decoding a text without fault answers, by how long it decoded is.
abbrev pub decoded_as : List ℕ → Result ℕ DecodeError
decoded_as header = cond (too_long header) (Err Short) (Ok (length header))

without_fault : (f : Fault) → of_fault f false true ≡ false → f ≡ none
without_fault none e = refl
without_fault (at place) e = absurd (true≢false e)

-- What is known once the text at a place was decoded into a buffer.
pub record Decoding (header before last : List ℕ) (answer : Result ℕ DecodeError) : Type 0 where
  pub answered : answer ≡ decoded_as header
  pub left : last ≡ header_buffer header before
  pub room : length before ≡ 4096

module _ (message : List ℕ) (q : Place) (sound : misspelled message q ≡ false) where
  no_fault : fault (octets_at message q) ≡ none
  unfolding misspelled
  no_fault = without_fault (fault (octets_at message q)) sound

  module _ (before : List ℕ) (room : length before ≡ 4096) where
    refusal_is : decode_refusal (octets_at message q) (length before) ≡ cond (too_long (header_text message q)) 1 0
    unfolding decode_refusal decode_order first header_text
    refusal_is =
        ap₂ (λ (f : Fault) (n : ℕ). cond (of_fault f false true) 5 (cond (ltb n (length (header_text message q))) 1 0))
        no_fault room

    pub decoding : (text last : List ℕ) (answer : Result ℕ DecodeError) → text ≡ part message q.start q.size →
        Decodes text before answer last → Decoding (header_text message q) before last answer
    unfolding header_text header_buffer
    decoding text last answer t d = record {
      answered = answers answer (too_long header) (d.refuses ∙ refuses) (d.counts ∙ writes (λ n xs. octets_written n xs));
      left = d.leaves ∙ writes (λ n xs. output_after n xs before) ∙ leaves (too_long header);
      room = room;
    }
      where
        header : List ℕ
        header = header_text message q

        refuses : decode_refusal text (length before) ≡ cond (too_long (header_text message q)) 1 0
        refuses = ap (λ (x : List ℕ). decode_refusal x (length before)) t ∙ refusal_is

        writes : {A : Type 0} (f : ℕ → List ℕ → A) →
            f (decode_refusal text (length before)) (decoded text)
            ≡ f (cond (too_long (header_text message q)) 1 0) (header_text message q)
        writes f = ap₂ f refuses (ap decoded t)

        answers : (a : Result ℕ DecodeError) (b : Bool) → decode_number a ≡ cond b 1 0 →
            decode_count a ≡ octets_written (cond b 1 0) (header_text message q) →
            a ≡ cond b (Err Short) (Ok (length (header_text message q)))
        answers (Ok n) true e f = absurd (omega arith)
        answers (Ok n) false e f = ap Ok f
        answers (Err Misspelled) true e f = absurd (omega arith)
        answers (Err Misspelled) false e f = absurd (omega arith)
        answers (Err Short) true e f = refl
        answers (Err Short) false e f = absurd (omega arith)

        leaves : (b : Bool) → output_after (cond b 1 0) (header_text message q) before
            ≡ cond b before (written 0 (header_text message q) before)
        leaves true = refl
        leaves false = refl

-- What is known where there are n: the buffer begins with the header.
pub record Begins (header last : List ℕ) (n : ℕ) : Type 0 where
  pub short : too_long header ≡ false
  pub count : n ≡ length header
  pub fits : n ≤ length last
  pub front : take n last ≡ header

module _ {header before last : List ℕ} {answer : Result ℕ DecodeError} (d : Decoding header before last answer) where
  too_long_lem : is_ok answer ≡ false → too_long header ≡ true
  too_long_lem e = cases (too_long header) (sym (ap is_ok d.answered) ∙ e)
    where
      cases : (b : Bool) → is_ok (cond b (Err Short) (Ok (length header))) ≡ false → b ≡ true
      cases true e = refl
      cases false e = sym e

  written_is : too_long header ≡ false → last ≡ written 0 header before
  unfolding header_buffer
  written_is e = d.left ∙ ap (λ (b : Bool). cond b before (written 0 header before)) e

  pub begun : (n : ℕ) → answer ≡ Ok n → Begins header last n
  begun n e = whole (counted (too_long header) refl (sym e ∙ d.answered))
    where
      counted : (b : Bool) → too_long header ≡ b → Ok n ≡ cond b (Err Short) (Ok (length header)) →
          (too_long header ≡ false) × (n ≡ length header)
      counted true t e = let z : ◌≡◌ {A = ℕ} 0 1 = cc in absurd (omega arith)
      counted false t e = (t, cc)

      whole : (too_long header ≡ false) × (n ≡ length header) → Begins header last n
      whole p =
          let within : length header ≤ 4096 = ltb-false 4096 (length header) p.0 in
          let same : length (written 0 header before) ≡ length before =
          written_length 0 header before (omega (arith, d.room)) in
          let w : last ≡ written 0 header before = written_is p.0 in
          record {
            short = p.0;
            count = p.1;
            fits = omega (arith, ap length w, d.room);
            front = begins n header last before (sym p.1) w;
          }

-- Refusals 6 and 7

stage_of_lem : (header : List ℕ) (long bad : Bool) → too_long header ≡ long → unread header ≡ bad →
    stage_of (first (text_order header)) (length header) ≡ stage_of (cond long 6 (cond bad 7 0)) (length header)
unfolding first text_order
stage_of_lem header long bad l b = ap₂ (λ (x y : Bool). stage_of (cond x 6 (cond y 7 0)) (length header)) l b

pub refused_6 : {header before last : List ℕ} {answer : Result ℕ DecodeError} → Decoding header before last answer →
    is_ok answer ≡ false → Refused 6 ≡ stage_of (first (text_order header)) (length header)
unfolding stage_of
refused_6 {header} d e = sym (stage_of_lem header true (unread header) (too_long_lem d e) refl)

-- Whether there is no reading, by the answer.
abbrev pub no_value : std.Option Found → Bool
no_value (Some v) = false
no_value None = true

pub by_reading : (a : Answer) → no_value (found_of a) ≡ is_nothing a
by_reading nothing = refl
by_reading (found e k) = refl

module _ {header last : List ℕ} {n : ℕ} (b : Begins header last n) {answer : std.Option Found}
    (a : answer ≡ found_of (read_text 12 (take n last))) where
  unread_is : unread header ≡ no_value answer
  unfolding unread
  unread_is =
      sym (ap no_value (a ∙ ap (λ (s : List ℕ). found_of (read_text 12 s)) b.front)
      ∙ by_reading (read_text 12 header))

  pub refused_7 : no_value answer ≡ true → Refused 7 ≡ stage_of (first (text_order header)) (length header)
  unfolding stage_of
  refused_7 e = sym (stage_of_lem header false true b.short (unread_is ∙ e))

  pub passed : no_value answer ≡ false → Passed n ≡ stage_of (first (text_order header)) (length header)
  unfolding stage_of
  passed e = ap Passed b.count ∙ sym (stage_of_lem header false false b.short (unread_is ∙ e))
