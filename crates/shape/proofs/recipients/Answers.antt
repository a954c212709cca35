-- `recipients` asks for the form: the top level is the one recipient of a flattened message; the elements of a general
-- one are walked along, and then read by their starts.
use mathlib.Core.Path.{◌≡◌, ap, sym, subst, ◌∙◌}
use mathlib.Core.Bool.{true}
use mathlib.Core.List.{List}
use Prim.Native.Nat.{ℕ, ◌≤◌}
use native.Mathlib.Omega.{arith}
use lib.ListN.{length, take, length-take}
use Rattle.prelude.specs.Buffer.{written}
use Rattle.grammar.specs.Reader.{elements_at}
use Rattle.rows.specs.Rows.{Entry, present, value_of}
use Rattle.rows.specs.Inner.Views.{the_entries}
use Rattle.grammar.specs.Grammar.{curly, square}
use Rattle.grammar.specs.Bounds.{Every}
use Rattle.json_read.specs.Inner.Known.{KnownIn}
use Rattle.prelude.specs.Refusals.{first, as_stage}
use Rattle.headers.proofs.Stages.{passed_is}
use Rattle.shape.specs.Shape.{Recipient}
use Rattle.shape.specs.Inner.Answers.{flat_recipients, starts_of, array_order}
use Rattle.shape.proofs.Known.{recipients_known, elements_known}
use Rattle.shape.proofs.Forms.{flattened, flattened_numbers, general_refused, eight, starts_count, starts_are}
use Rattle.shape.proofs.Forms.{general, general_none, general_writes}
use borrow.Author.Rules.{rules}
use Rattle.prelude.proofs.Exits.{handed_up}
use Rattle.shape.proofs.recipients.Goals as goal

pub returns-then-not-present : goal.returns-then-not-present
returns-then-not-present c =
    let absent = sym c.present.ensures
    ∙ c.if-not-present.true in
    record {
      value = flattened (c.args.message.now) (the_entries c.args.members) absent;
      into_after = c.put.ensures
          ∙ ap (λ (l : List ℕ). written 0 l c.args.into.now)
          (flattened_numbers (c.args.message.now) (the_entries c.args.members) absent);
    }

pub walk-requires : goal.walk-requires
walk-requires c =
    let m = c.args.message.now in
    let same = c.requires.members_value in
    let there = sym (ap (present 5) same) ∙ sym c.present.ensures
    ∙ c.if-not-present.false in
    let at = c.value_of-at.ensures.start_value ∙ ap (λ (es : List Entry). (value_of 5 es).start) same in
    record {
      most_recipients_in_bounds = search rules;
      known_in = subst (KnownIn square 12 m) (sym at) (recipients_known m c.requires.message_value there);
    }

pub returns-in_err-n : goal.returns-in_err-n
returns-in_err-n c =
    let is-general : present 5 (the_entries c.args.members) ≡ true = sym c.present.ensures ∙ c.if-not-present.false in
    record {
      value = handed_up _ _ c.from_residual.ensures.1 _ c.in_err-n.was
          ∙ general_refused (c.args.message.now) (the_entries c.args.members) (is-general) c.value_of-at.result.start
          c.value_of-at.ensures.start_value (as_stage c.walk.result) c.walk.ensures.value _ (ap as_stage c.in_err-n.was);
      into_after = general_none (c.args.message.now) (the_entries c.args.members) (is-general) c.value_of-at.result.start
          c.value_of-at.ensures.start_value (as_stage c.walk.result) c.walk.ensures.value _ (ap as_stage c.in_err-n.was)
          c.args.into.now;
    }

pub slice_bounds-starts-end : goal.slice_bounds-starts-end
slice_bounds-starts-end c =
    let is-general : present 5 (the_entries c.args.members) ≡ true = sym c.present.ensures ∙ c.if-not-present.false in
    let starts : take c.in_ok-n.n c.walk.new.starts
    ≡ starts_of (elements_at 12 (c.args.message.now) c.value_of-at.result.start) = starts_are (c.args.message.now) (the_entries c.args.members) (is-general) c.value_of-at.result.start c.value_of-at.ensures.start_value
    (as_stage c.walk.result) c.walk.ensures.value c.in_ok-n.n (ap as_stage c.in_ok-n.was) _ _
    c.walk.ensures.leaves in
    let count : c.in_ok-n.n ≡ length (take c.in_ok-n.n c.walk.new.starts) = starts_count (c.args.message.now) (the_entries c.args.members) (is-general) c.value_of-at.result.start c.value_of-at.ensures.start_value
    (as_stage c.walk.result) c.walk.ensures.value c.in_ok-n.n (ap as_stage c.in_ok-n.was)
    ∙ sym (ap length (starts)) in
    omega (arith, count, length-take c.in_ok-n.n c.walk.new.starts)

pub slice_bounds-elements-end : goal.slice_bounds-elements-end
slice_bounds-elements-end c =
    let is-general : present 5 (the_entries c.args.members) ≡ true = sym c.present.ensures ∙ c.if-not-present.false in
    let starts : take c.in_ok-n.n c.walk.new.starts
    ≡ starts_of (elements_at 12 (c.args.message.now) c.value_of-at.result.start) = starts_are (c.args.message.now) (the_entries c.args.members) (is-general) c.value_of-at.result.start c.value_of-at.ensures.start_value
    (as_stage c.walk.result) c.walk.ensures.value c.in_ok-n.n (ap as_stage c.in_ok-n.was) _ _
    c.walk.ensures.leaves in
    let count : c.in_ok-n.n ≡ length (take c.in_ok-n.n c.walk.new.starts) = starts_count (c.args.message.now) (the_entries c.args.members) (is-general) c.value_of-at.result.start c.value_of-at.ensures.start_value
    (as_stage c.walk.result) c.walk.ensures.value c.in_ok-n.n (ap as_stage c.in_ok-n.was)
    ∙ sym (ap length (starts)) in
    count

pub elements-requires : goal.elements-requires
elements-requires c =
    let is-general : present 5 (the_entries c.args.members) ≡ true = sym c.present.ensures ∙ c.if-not-present.false in
    let few : c.in_ok-n.n ≤ 8 = eight (c.args.message.now) (the_entries c.args.members) (is-general) c.value_of-at.result.start c.value_of-at.ensures.start_value
    (as_stage c.walk.result)
    c.walk.ensures.value c.in_ok-n.n (ap as_stage c.in_ok-n.was) in
    let starts : take c.in_ok-n.n c.walk.new.starts
    ≡ starts_of (elements_at 12 (c.args.message.now) c.value_of-at.result.start) = starts_are (c.args.message.now) (the_entries c.args.members) (is-general) c.value_of-at.result.start c.value_of-at.ensures.start_value
    (as_stage c.walk.result) c.walk.ensures.value c.in_ok-n.n (ap as_stage c.in_ok-n.was) _ _
    c.walk.ensures.leaves in
    let count : c.in_ok-n.n ≡ length (take c.in_ok-n.n c.walk.new.starts) = starts_count (c.args.message.now) (the_entries c.args.members) (is-general) c.value_of-at.result.start c.value_of-at.ensures.start_value
    (as_stage c.walk.result) c.walk.ensures.value c.in_ok-n.n (ap as_stage c.in_ok-n.was)
    ∙ sym (ap length (starts)) in
    let walk-passed : first (array_order (elements_at 12 (c.args.message.now) c.value_of-at.result.start)) ≡ 0 = (passed_is c.in_ok-n.n _ _ (sym (ap as_stage c.in_ok-n.was) ∙ c.walk.ensures.value)).0 in
    record {
      message_len_bound = c.requires.message_len_bound;
      recipient_width_in_bounds = omega (arith, few, count, c.requires.recipients_room_in_bounds);
      every = subst (Every (KnownIn curly 12 (c.args.message.now))) (sym (starts)) (elements_known (c.args.message.now) _ (walk-passed));
    }

pub returns : goal.returns
returns c =
    let is-general : present 5 (the_entries c.args.members) ≡ true = sym c.present.ensures ∙ c.if-not-present.false in
    let starts : take c.in_ok-n.n c.walk.new.starts
    ≡ starts_of (elements_at 12 (c.args.message.now) c.value_of-at.result.start) = starts_are (c.args.message.now) (the_entries c.args.members) (is-general) c.value_of-at.result.start c.value_of-at.ensures.start_value
    (as_stage c.walk.result) c.walk.ensures.value c.in_ok-n.n (ap as_stage c.in_ok-n.was) _ _
    c.walk.ensures.leaves in
    record {
      value = general (c.args.message.now) (the_entries c.args.members) (is-general) c.value_of-at.result.start
          c.value_of-at.ensures.start_value
          (as_stage c.walk.result) c.walk.ensures.value c.in_ok-n.n (ap as_stage c.in_ok-n.was) _ (starts) _ c.elements.ensures.value;
      into_after = c.elements.ensures.into_after
          ∙ ap (λ (rs : List Recipient). written 0 (flat_recipients rs) c.args.into.now)
          (general_writes (c.args.message.now) (the_entries c.args.members) (is-general) c.value_of-at.result.start
          c.value_of-at.ensures.start_value (as_stage c.walk.result) c.walk.ensures.value c.in_ok-n.n (ap as_stage c.in_ok-n.was) _ (starts));
    }
