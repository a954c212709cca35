-- `by_pairs` walks along the members: whether two of those that are left have one name stays the answer.
use mathlib.Core.Path.{ap, sym, ◌∙◌}
use mathlib.Core.Bool.{Bool, ◌||◌}
use Rattle.json_read.specs.Inner.Rows.{rows_left}
use Rattle.prelude.specs.Any.{any_pair}
use Rattle.distinct.specs.Names.{same_name, repeats}
use Rattle.distinct.proofs.by_pairs.Goals as goal

pub loop-row-init : goal.loop-row-init
unfolding repeats
loop-row-init c = let s = c.args.s.now in ap (any_pair (same_name s s)) c.members-members.ensures

pub returns-then-again : goal.returns-then-again
unfolding any_pair
returns-then-again c =
    let f = same_name c.args.s.now c.args.s.now in
    ap (λ (b : Bool). b || any_pair f (rows_left c.next.new.self)) c.if-again.ensures
    ∙ sym (ap (any_pair f) c.in-Some.ensures.steps) ∙ c.loop-row.invariant

pub loop-row-preserved : goal.loop-row-preserved
unfolding any_pair
loop-row-preserved c =
    let f = same_name c.args.s.now c.args.s.now in
    ap (λ (b : Bool). b || any_pair f (rows_left c.next.new.self)) c.if-again.ensures
    ∙ sym (ap (any_pair f) c.in-Some.ensures.steps) ∙ c.loop-row.invariant

pub returns : goal.returns
unfolding any_pair
returns c =
    let f = same_name c.args.s.now c.args.s.now in
    sym (ap (any_pair f) c.in_default.ensures.steps.0) ∙ c.loop-row.invariant
