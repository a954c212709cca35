-- `probe_encode` hands out what `encode` promises, case by case.
use Prim.Native.Nat.{ℕ}
use mathlib.Core.Path.{◌≡◌, ap, sym, ◌∙◌}
use mathlib.Core.List.{List}
use lib.ListN.{length}
use Rattle.base64url.specs.Answers.{encode_number, encode_next, encode_answer, encode_buffer}
use Rattle.std.specs.Prelude.{Option}
use Rattle.probe.proofs.probe_encode.Goals as goal

-- a case of the answer, by what `encode` promises of it
handed : (xs : List ℕ) (at : ℕ) (out last : List ℕ) (answer is : Option ℕ) → answer ≡ encode_answer xs at (length out)
    → last ≡ encode_buffer xs at out → answer ≡ is
    → (encode_number is ≡ encode_number (encode_answer xs at (length out)))
    × ((encode_next is ≡ encode_next (encode_answer xs at (length out))) × (last ≡ encode_buffer xs at out))
handed xs at out last answer is promised left told =
    let case = sym told ∙ promised in
    (ap encode_number case, (ap encode_next case, left))

pub returns-in-Some : goal.returns-in-Some
returns-in-Some c =
    let octets = c.args.octets.now in
    let out = c.args.out.now in
    let both = handed octets c.args.at out c.encode-answer.new.out c.encode-answer.result _ c.encode-answer.ensures.value c.encode-answer.ensures.out_after
    c.in-Some.is in
    record { value = both.0; end_after = both.1.0; out_after = both.1.1 }

pub returns-in-None : goal.returns-in-None
returns-in-None c =
    let octets = c.args.octets.now in
    let out = c.args.out.now in
    let both = handed octets c.args.at out c.encode-answer.new.out c.encode-answer.result _ c.encode-answer.ensures.value c.encode-answer.ensures.out_after
    c.in-None.is in
    record { value = both.0; end_after = both.1.0; out_after = both.1.1 }
