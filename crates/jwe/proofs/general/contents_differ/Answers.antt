-- `contents_differ` compares one own header after the other with that of recipient `with`: what is asked of those left stays the answer.
use mathlib.Core.Path.{◌≡◌, ap, ap₂, sym, ◌∙◌}
use Prim.Native.Nat.{ℕ, ◌-◌}
use native.Mathlib.Omega.{arith}
use Rattle.prelude.specs.Any.{any}
use Rattle.jose.specs.ContentAlgorithm.{differ}
use Rattle.jose.specs.Inner.Content.{shown_in}
use Rattle.std.specs.Prelude.{Option}
use Rattle.prelude.specs.declared.Place.{Place}
use Rattle.jwe.specs.Inner.Stages.{own_content, own_contents}
use Rattle.jwe.proofs.Contents.{same_turn, other_found, all_same, with_one, with_none}
use Rattle.jwe.proofs.general.contents_differ.Goals as goal

pub returns-then-number-with : goal.returns-then-number-with
returns-then-number-with c =
    let args = c.args in
    with_none args.message.now args.own.now args.counts.now args.number args.with c.if-number-with.true

pub own_content-asked-requires : goal.own_content-asked-requires
own_content-asked-requires c =
    record {
      i_lt_most_recipients = omega (arith, c.if-number-with.false, c.requires.number_le_most_recipients);
      own_len = c.requires.own_len;
      counts_len = c.requires.counts_len;
      i_bound = c.requires.by_index _ c.if-number-with.false;
    }

pub loop-k-init : goal.loop-k-init
loop-k-init c =
    let args = c.args in
    let message = args.message.now in
    let own = args.own.now in
    let counts = args.counts.now in
    let all : args.number - 0 ≡ args.number = omega arith in (
      omega arith,
      ap₂ (λ (x : Option Place) (n : ℕ). any (differ (shown_in message x)) (own_contents message own counts 0 n))
          c.own_content-asked.ensures all
          ∙ with_one message own counts args.number args.with c.if-number-with.false,
    )

pub own_content-other-requires : goal.own_content-other-requires
own_content-other-requires c =
    record {
      i_lt_most_recipients = omega (arith, c.loop-k-test.true, c.requires.number_le_most_recipients);
      own_len = c.requires.own_len;
      counts_len = c.requires.counts_len;
      i_bound = c.requires.by_index _ c.loop-k-test.true;
    }

pub returns-then-differ : goal.returns-then-differ
returns-then-differ c =
    let compared : (let args = c.args in
    differ (shown_in args.message.now c.own_content-asked.result)
    (own_content args.message.now args.own.now args.counts.now c.loop-k.k)
    ≡ c.differ.result) = (let args = c.args in
    let message = args.message.now in
    let asked = c.own_content-asked.result in
    sym (c.differ.ensures
    ∙ ap (λ (x : Option Place). differ (shown_in message asked) (shown_in message x)) c.own_content-other.ensures)) in
    let args = c.args in
    other_found args.message.now args.own.now args.counts.now
    (shown_in args.message.now c.own_content-asked.result) _ args.number c.loop-k.k c.loop-k.invariant.1
    c.loop-k-test.true (compared ∙ c.if-differ.true)

pub loop-k-preserved : goal.loop-k-preserved
loop-k-preserved c =
    let compared : (let args = c.args in
    differ (shown_in args.message.now c.own_content-asked.result)
    (own_content args.message.now args.own.now args.counts.now c.loop-k.k)
    ≡ c.differ.result) = (let args = c.args in
    let message = args.message.now in
    let asked = c.own_content-asked.result in
    sym (c.differ.ensures
    ∙ ap (λ (x : Option Place). differ (shown_in message asked) (shown_in message x)) c.own_content-other.ensures)) in
    let args = c.args in (
      omega arith,
      same_turn args.message.now args.own.now args.counts.now
          (shown_in args.message.now c.own_content-asked.result) _ args.number c.loop-k.k c.loop-k.invariant.1
          c.loop-k-test.true (compared ∙ c.if-differ.false),
    )

pub returns : goal.returns
returns c =
    let args = c.args in
    all_same args.message.now args.own.now args.counts.now
    (shown_in args.message.now c.own_content-asked.result) _ args.number c.loop-k.k c.loop-k.invariant.1
    c.loop-k-test.false
