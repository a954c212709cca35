-- What is asked of the members that are left stays the answer; the window stays entered.
use mathlib.Core.Path.{refl, ap, sym, ◌∙◌}
use mathlib.Core.Bool.{Bool, ◌||◌}
use native.Mathlib.Omega.{arith}
use Rattle.grammar.specs.Grammar.{curly}
use Rattle.json_read.specs.Inner.Rows.{rows_left}
use Rattle.prelude.specs.Any.{any}
use Rattle.distinct.specs.Names.{same_name}
use Rattle.distinct.specs.Inner.Walking.{rows_from}
use Rattle.distinct.proofs.Windows.{Across}
use Rattle.distinct.proofs.window.against.Goals as goal

pub loop-row-init : goal.loop-row-init
loop-row-init c =
    let s = c.args.s.now in
    let window = rows_from curly s c.args.done c.args.from.at in
    let it = c.into_iter-row-iterator.ensures.into_iter_gives in
    record {
      same = ap (Across (same_name s s) window) (ap rows_left it ∙ c.members_from-row-items.ensures);
      marked = c.requires.every;
      long = refl;
    }

pub clashes-requires : goal.clashes-requires
clashes-requires c =
    let so = c.loop-row.invariant in
    record {
      known_from = c.requires.known_from;
      every = so.marked;
      size_nonzero = (c.requires.size_nonzero.0, omega (arith, so.long, c.requires.size_nonzero.1));
    }

pub returns-then-clashes : goal.returns-then-clashes
unfolding any
returns-then-clashes c =
    let f = same_name c.args.s.now c.args.s.now in
    let window = rows_from curly c.args.s.now c.args.done c.args.from.at in
    ap (λ (b : Bool). b || Across f window (rows_left c.next.new.self)) (sym c.if-clashes.true ∙ c.clashes.ensures.value)
    ∙ sym (ap (Across f window) c.in-Some.ensures.steps) ∙ c.loop-row.invariant.same

pub loop-row-preserved : goal.loop-row-preserved
unfolding any
loop-row-preserved c =
    let so = c.loop-row.invariant in
    let f = same_name c.args.s.now c.args.s.now in
    let window = rows_from curly c.args.s.now c.args.done c.args.from.at in
    record {
      same =
          ap (λ (b : Bool). b || Across f window (rows_left c.next.new.self)) (sym c.if-clashes.false ∙ c.clashes.ensures.value)
          ∙ sym (ap (Across f window) c.in-Some.ensures.steps) ∙ so.same;
      marked = c.clashes.ensures.marked.1;
      long = c.clashes.auto.filter ∙ so.long;
    }

pub returns : goal.returns
unfolding any
returns c =
    let f = same_name c.args.s.now c.args.s.now in
    let window = rows_from curly c.args.s.now c.args.done c.args.from.at in
    sym (ap (Across f window) c.in-None.ensures.steps.0) ∙ c.loop-row.invariant.same
