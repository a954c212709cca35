-- `elements` reads one element after the other: those so far passed, and those from here on decide.
use Rattle.grammar.specs.Grammar.{curly}
use Rattle.json_read.specs.Inner.Known.{KnownIn}
use Rattle.shape.proofs.Known.{every_at}
use Rattle.shape.proofs.Reading.{reading, room, read_on, read_length, read_refused, read_out}
use Rattle.prelude.specs.Refusals.{as_stage}
use mathlib.Core.Path.{ap, ◌∙◌}
use Rattle.prelude.proofs.Exits.{handed_up}
use Rattle.shape.proofs.element.elements.Goals as goal

pub loop-i-init : goal.loop-i-init
loop-i-init c =
    reading c.args.message.now c.args.starts.now c.args.into.now c.requires.recipient_width_in_bounds

pub element-requires : goal.element-requires
element-requires c =
    let more = c.loop-i-test.true in
    record {
      message_len_bound = c.requires.message_len_bound;
      recipient_width_in_bounds = room c.loop-i.invariant more;
      known_in = every_at (KnownIn curly 12 c.args.message.now) c.args.starts.now c.loop-i.i c.requires.every more;
    }

pub shape_of-into-in_err-element : goal.shape_of-into-in_err-element
shape_of-into-in_err-element c =
    read_length c.loop-i.invariant c.loop-i-test.true _ _
    c.element.ensures.value _ c.element.ensures.leaves_at _ (ap as_stage c.in_err-element.was)

pub returns-in_err-element : goal.returns-in_err-element
returns-in_err-element c =
    let both = read_refused c.loop-i.invariant c.loop-i-test.true _ _
    c.element.ensures.value _ c.element.ensures.leaves_at _ (ap as_stage c.in_err-element.was) _ in
    record { value = handed_up _ _ c.from_residual.ensures.1 _ c.in_err-element.was ∙ both.0; into_after = both.1 }

pub loop-i-preserved : goal.loop-i-preserved
loop-i-preserved c =
    read_on c.loop-i.invariant c.loop-i-test.true _ _
    c.element.ensures.value _ c.element.ensures.leaves_at c.in_ok-element.field-0 (ap as_stage c.in_ok-element.was)

pub shape_of-into : goal.shape_of-into
shape_of-into c = c.loop-i.invariant.wrote.same

pub returns : goal.returns
returns c =
    let both = read_out c.loop-i.invariant c.loop-i-test.false _ in
    record { value = both.0; into_after = both.1 }
