-- `jwe_component` hands on the reader's refusal, or what decoding the component's text answers.
use mathlib.Core.Path.{ap, sym, ◌∙◌}
use Rattle.parts.specs.Parts.{part}
use Rattle.prelude.specs.declared.Place.{Place}
use Rattle.headers.specs.Components as headers
use Rattle.headers.specs.Components.{octets_at}
use Rattle.jwe.specs.Judge.{call}
use Rattle.host.specs.Component.{component_place}
use Rattle.host.proofs.HandedOut.{number_first}
use Rattle.host.proofs.Decoding.{refused_so, decoded_so, components_are}
use Rattle.jwe.specs.Answers.{numbers, as_result, reading_of}
use Rattle.jwe.proofs.Exits.{refused_above}
use native.Mathlib.Omega.{arith}
use Rattle.host.proofs.component.jwe_component.Goals as goal

pub returns-in-Err : goal.returns-in-Err
returns-in-Err c =
    let asked = call c.args.message.now c.args.known.now c.args.recipient 4096 576 in
    let told = c.number.ensures ∙ sym (ap (λ r. (as_result r).number) c.in-Err.is) in
    refused_so asked c.args.component c.args.out.now c.number.result
    (told ∙ number_first asked (as_result c.read-read.result) c.read-read.ensures.answered)
    (λ z. omega (arith, z, told, refused_above c.in-Err.is))

pub returns-in-Ok : goal.returns-in-Ok
returns-in-Ok c =
    let asked = call c.args.message.now c.args.known.now c.args.recipient 4096 576 in
    let message = c.args.message.now in
    let n = c.args.component in
    let r = reading_of c.in-Ok.reading in
    let answered = sym (ap (λ a. numbers (as_result a)) c.in-Ok.is) ∙ c.read-read.ensures.answered in
    let z = sym (number_first asked r answered) in
    let are = components_are asked n r answered z in
    let shown =
    c.component.ensures.octets
    ∙ ap (λ (q : Place). part message q.start q.len) c.place_of-place.ensures
    ∙ ap (λ (q : headers.Components). octets_at message (component_place q n)) are in
    decoded_so asked n z c.args.out.now _ c.jwe_decode.result _ _ shown c.jwe_decode.ensures
