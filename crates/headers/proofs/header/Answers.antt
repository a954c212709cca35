-- `header` answers by what decoding the text answers, and by the reading of what the buffer then begins with.
use mathlib.Core.Path.{◌≡◌, refl, ap, sym, ◌∙◌}
use mathlib.Core.Bool.{false}
use Prim.Native.Nat.{ℕ}
use lib.ListN.{length}
use Rattle.std.specs.Prelude.{Result, Ok, Err, is_ok}
use Rattle.base64url.specs.declared.DecodeError.{DecodeError}
use Rattle.headers.specs.Headers.{header_text}
use Rattle.headers.specs.Answers.{place_of}
use Rattle.headers.proofs.Texts.{Decoding, Begins, no_value, decoding, begun}
use Rattle.headers.proofs.Texts.{refused_6, refused_7, passed}
use Rattle.headers.proofs.header.Goals as goal

-- in the `else` of the answer
no_octets_lem : (a : Result ℕ DecodeError) → ((n : ℕ) → a ≡ Ok n → ⊥) → is_ok a ≡ false
no_octets_lem (Ok n) k = absurd (k n refl)
no_octets_lem (Err e) k = refl

pub returns-in_default : goal.returns-in_default
returns-in_default c =
    let decodes : Decoding ((header_text c.args.message.now (place_of c.args.place))) c.args.buffer.now c.decode-decoded.new.out c.decode-decoded.result = decoding c.args.message.now (place_of c.args.place) c.requires.place_value c.args.buffer.now
    c.requires.buffer_len _ _ _ c.part.ensures.octets c.decode-decoded.ensures in
    let d = decodes in
    record {
      value = refused_6 d (no_octets_lem c.decode-decoded.result c.in_default.not-Ok);
      buffer_after = d.left;
    }

pub slice_bounds-judge-end : goal.slice_bounds-judge-end
slice_bounds-judge-end c =
    let decodes : Decoding ((header_text c.args.message.now (place_of c.args.place))) c.args.buffer.now c.decode-decoded.new.out c.decode-decoded.result = decoding c.args.message.now (place_of c.args.place) c.requires.place_value c.args.buffer.now
    c.requires.buffer_len _ _ _ c.part.ensures.octets c.decode-decoded.ensures in
    let begins : Begins ((header_text c.args.message.now (place_of c.args.place))) c.decode-decoded.new.out
    c.in-Ok.n = begun (decodes) _ c.in-Ok.is in
    (begins).fits

pub slice_bounds-judge-end-2 : goal.slice_bounds-judge-end-2
slice_bounds-judge-end-2 c =
    let decodes : Decoding ((header_text c.args.message.now (place_of c.args.place))) c.args.buffer.now c.decode-decoded.new.out c.decode-decoded.result = decoding c.args.message.now (place_of c.args.place) c.requires.place_value c.args.buffer.now
    c.requires.buffer_len _ _ _ c.part.ensures.octets c.decode-decoded.ensures in
    let begins : Begins ((header_text c.args.message.now (place_of c.args.place))) c.decode-decoded.new.out
    c.in-Ok.n = begun (decodes) _ c.in-Ok.is in
    let b = begins in b.count ∙ sym (ap length b.front)

pub returns-in_default-judge : goal.returns-in_default-judge
returns-in_default-judge c =
    let decodes : Decoding ((header_text c.args.message.now (place_of c.args.place))) c.args.buffer.now c.decode-decoded.new.out c.decode-decoded.result = decoding c.args.message.now (place_of c.args.place) c.requires.place_value c.args.buffer.now
    c.requires.buffer_len _ _ _ c.part.ensures.octets c.decode-decoded.ensures in
    let begins : Begins ((header_text c.args.message.now (place_of c.args.place))) c.decode-decoded.new.out
    c.in-Ok.n = begun (decodes) _ c.in-Ok.is in
    record {
      value = refused_7 (begins) c.judge.ensures (ap no_value c.in_default-judge.is);
      buffer_after = (decodes).left;
    }

pub returns : goal.returns
returns c =
    let decodes : Decoding ((header_text c.args.message.now (place_of c.args.place))) c.args.buffer.now c.decode-decoded.new.out c.decode-decoded.result = decoding c.args.message.now (place_of c.args.place) c.requires.place_value c.args.buffer.now
    c.requires.buffer_len _ _ _ c.part.ensures.octets c.decode-decoded.ensures in
    let begins : Begins ((header_text c.args.message.now (place_of c.args.place))) c.decode-decoded.new.out
    c.in-Ok.n = begun (decodes) _ c.in-Ok.is in
    record {
      value = passed (begins) c.judge.ensures (ap no_value c.in-Some.is);
      buffer_after = (decodes).left;
    }
